use Rattle.std.proofs.Common.{string_bytes, ◌∙◌, ap}
use Rattle.terms.specs.declared.reply.Reply.TheVariants.{Shown}
use Rattle.desk.proofs.Looking.{gives, fails}
use Rattle.desk.proofs.TillBatches.{till-rows-learnt}
use Rattle.desk.proofs.asking.show_till.Goals as goal

pub returns-in_err-text : goal.returns-in_err-text
returns-in_err-text g c = fails _ c.from_residual.ensures (till-rows-learnt string_bytes c.in_err-text.ensures) (λ _ _ _. tt)

pub returns : goal.returns
returns g c = gives (till-rows-learnt string_bytes c.in_ok-text.ensures) (λ _ _ _. tt) (λ H legal given is owner. c.shown.ensures ∙ ap Shown is)
