use Rattle.std.proofs.Common.{refl, ◌∙◌, ap}
use Rattle.terms.specs.declared.reply.Reply.TheVariants.{Shown}
use Rattle.model.proofs.Asking.{lists-rise}
use Rattle.desk.proofs.Looking.{gives, fails}
use Rattle.desk.proofs.asking.show_found_titles.Goals as goal

pub returns-in_err-text : goal.returns-in_err-text
returns-in_err-text g c = fails _ c.from_residual.ensures c.in_err-text.ensures (λ H list given. tt)

pub returns : goal.returns
returns g c = gives c.in_ok-text.ensures (λ H list given. tt)
    (λ H legal given is owner. c.shown.ensures ∙ ap Shown (rw (c.as_str.ensures.value, c.number.ensures.value) at
    (is ((lists-rise H).found_titles c.as_str.result.now) refl)))
