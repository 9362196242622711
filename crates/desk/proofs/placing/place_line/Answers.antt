use Rattle.std.proofs.Common.{◌++◌, ◌∙◌, ap₂}
use Rattle.desk.proofs.Looking.{gives, stops, fails}
use Rattle.desk.proofs.Placings.{place-line}
use Rattle.desk.proofs.placing.place_line.Goals as goal

pub returns-in_err-patron : goal.returns-in_err-patron
returns-in_err-patron g c = fails _ c.from_residual-in_err-patron.ensures c.in_err-patron.ensures (λ H list here. here)

pub returns-in_err-push_str : goal.returns-in_err-push_str
returns-in_err-push_str g c = stops _ c.from_residual-in_err-push_str.ensures c.in_ok-patron.ensures

pub returns : goal.returns
returns g c = gives c.in_ok-patron.ensures (λ H list here. here) (λ H legal here is.
    c.in_ok-push_str.ensures.bytes ∙ ap₂ ◌++◌ c.in_ok-text.ensures (c.deref.ensures ∙ is) ∙ place-line H c.args.copy c.args.place.now here)
