use Rattle.std.proofs.Common.{sym, ◌∙◌, ap, subst}
use Rattle.model.specs.Asking.{patron_at}
use Rattle.desk.specs.Placing.{IsAt}
use Rattle.desk.proofs.Looking.{learns-on}
use Rattle.desk.proofs.Placings.{transit-hold}
use Rattle.desk.proofs.placing.patron_at.Goals as goal

pub returns-in-Transit : goal.returns-in-Transit
returns-in-Transit g c = learns-on c.patron_of_hold.ensures
    (λ H list here. transit-hold H list.0 c.args.copy c.in-Transit.goal c.in-Transit.hold (subst (λ p. IsAt H c.args.copy p) c.in-Transit.is here))
    (λ H legal here patron is. is ∙ sym (ap (patron_at H) (subst (λ p. IsAt H c.args.copy p) c.in-Transit.is here)))
