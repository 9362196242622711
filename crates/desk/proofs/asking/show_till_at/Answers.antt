use Rattle.std.proofs.Common.{string_bytes, sym, ◌∙◌, ap}
use Rattle.std.specs.Prelude.{is_some}
use Rattle.terms.specs.declared.reply.Reply.TheVariants.{Shown}
use Rattle.model.proofs.RowRanges.{legal-rows}
use Rattle.desk.proofs.Looking.{looked, ◌⨾◌, gives, fails}
use Rattle.desk.proofs.Replies.{till-at-answer, branch-there, shown-if, refused-if}
use Rattle.desk.proofs.TillBatches.{counter-learnt}
use Rattle.desk.proofs.asking.show_till_at.Goals as goal

pub returns-in_err-_row : goal.returns-in_err-_row
returns-in_err-_row g c = fails _ c.from_residual.ensures (looked c.in_err-_row.ensures legal-rows legal-rows) (λ _ _ _. tt)

pub returns-in_err-text-in-Some : goal.returns-in_err-text-in-Some
returns-in_err-text-in-Some g c = fails _ c.from_residual-in_err-text-in-Some.ensures
    (looked c.in_ok-_row.ensures legal-rows legal-rows ⨾ counter-learnt c.args.branch string_bytes c.in_err-text-in-Some.ensures) (λ _ _ _. (tt, λ _. tt))

pub returns-in_ok-text-in-Some : goal.returns-in_ok-text-in-Some
returns-in_ok-text-in-Some g c = gives (looked c.in_ok-_row.ensures legal-rows legal-rows ⨾ counter-learnt c.args.branch string_bytes c.in_ok-text-in-Some.ensures)
    (λ _ _ _. (tt, λ _. tt)) (λ H legal given found owner.
    c.shown.ensures ∙ ap Shown found.1
    ∙ shown-if H _ _ _ (branch-there H c.args.branch _ found.0 ∙ ap is_some c.in-Some.is) ∙ sym (till-at-answer H owner c.args.branch c.args.day))

pub returns-in-None : goal.returns-in-None
returns-in-None g c = gives (looked c.in_ok-_row.ensures legal-rows legal-rows) (λ _ _ _. tt) (λ H legal given found owner.
    refused-if H _ _ _ (branch-there H c.args.branch _ found ∙ ap is_some c.in-None.is) ∙ sym (till-at-answer H owner c.args.branch c.args.day))
