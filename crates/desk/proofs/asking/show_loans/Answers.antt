use Rattle.std.proofs.Common.{sym, ◌∙◌, ap}
use Rattle.std.specs.Prelude.{is_some}
use Rattle.terms.specs.declared.reply.Reply.TheVariants.{Shown}
use Rattle.model.proofs.RowRanges.{legal-rows}
use Rattle.model.specs.Asking.{listed, loans_list}
use Rattle.desk.proofs.Looking.{looked, ◌⨾◌, gives, fails}
use Rattle.desk.proofs.Replies.{loans-answer, copy-there, shown-if, refused-if}
use Rattle.desk.proofs.asking.show_loans.Goals as goal

pub returns-in_err-_row : goal.returns-in_err-_row
returns-in_err-_row g c = fails _ c.from_residual.ensures (looked c.in_err-_row.ensures legal-rows legal-rows) (λ _ _ _. tt)

pub returns-in_err-text-in-Some : goal.returns-in_err-text-in-Some
returns-in_err-text-in-Some g c =
    fails _ c.from_residual-in_err-text-in-Some.ensures (looked c.in_ok-_row.ensures legal-rows legal-rows ⨾ c.in_err-text-in-Some.ensures)
    (λ H list given. (tt, λ found. (tt, c.new-head.ensures.bytes)))

pub returns-in_ok-text-in-Some : goal.returns-in_ok-text-in-Some
returns-in_ok-text-in-Some g c =
    gives (looked c.in_ok-_row.ensures legal-rows legal-rows ⨾ c.in_ok-text-in-Some.ensures)
    (λ H list given. (tt, λ found. (tt, c.new-head.ensures.bytes))) (λ H legal given is owner.
    c.shown.ensures ∙ ap Shown (is.1 ∙ ap (λ n. listed (loans_list H c.args.copy) n) c.number.ensures.value)
    ∙ shown-if H _ _ _ (copy-there H c.args.copy _ is.0 ∙ ap is_some c.in-Some.is) ∙ sym (loans-answer H owner c.args.copy c.args.after))

pub returns-in-None : goal.returns-in-None
returns-in-None g c = gives (looked c.in_ok-_row.ensures legal-rows legal-rows) (λ _ _ _. tt)
    (λ H legal given found owner.
    refused-if H _ _ _ (copy-there H c.args.copy _ found ∙ ap is_some c.in-None.is) ∙ sym (loans-answer H owner c.args.copy c.args.after))
