use Rattle.std.proofs.Common.{◌∙◌, ap}
use Rattle.terms.specs.declared.reply.Reply.TheVariants.{Shown}
use Rattle.desk.proofs.Looking.{gives, fails}
use Rattle.desk.proofs.asking.show_missing_copies.Goals as goal

pub returns-in_err-text : goal.returns-in_err-text
returns-in_err-text g c = fails _ c.from_residual.ensures c.in_err-text.ensures (λ H list given. (tt, c.new.ensures.bytes))

pub returns : goal.returns
returns g c = gives c.in_ok-text.ensures (λ H list given. (tt, c.new.ensures.bytes))
    (λ H legal given is owner. c.shown.ensures ∙ ap Shown (rw c.number.ensures.value at is))
