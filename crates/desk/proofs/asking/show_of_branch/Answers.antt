use Rattle.std.proofs.Common.{◌∙◌, ap}
use Rattle.std.specs.Prelude.{is_some}
use Rattle.terms.specs.declared.reply.Reply.TheVariants.{Shown}
use Rattle.model.proofs.RowRanges.{legal-rows}
use Rattle.desk.proofs.Looking.{looked, ◌⨾◌, gives, stops, fails}
use Rattle.desk.proofs.Replies.{shown-if, refused-if, branch-there}
use Rattle.desk.proofs.asking.show_of_branch.Goals as goal

pub returns-in_err-_row : goal.returns-in_err-_row
returns-in_err-_row g c = fails _ c.from_residual.ensures (looked c.in_err-_row.ensures legal-rows legal-rows) (λ _ _ _. tt)

pub returns-in_err-start-in-Some : goal.returns-in_err-start-in-Some
returns-in_err-start-in-Some g c = stops _ c.from_residual-in_err-start-in-Some.ensures (looked c.in_ok-_row.ensures legal-rows legal-rows)

pub returns-in_err-text-in-Some : goal.returns-in_err-text-in-Some
returns-in_err-text-in-Some g c =
    fails _ c.from_residual-in_err-text-in-Some.ensures (looked c.in_ok-_row.ensures legal-rows legal-rows ⨾ c.in_err-text-in-Some.ensures)
    (λ H list given. (tt, λ found. (given.0, c.in_ok-start-in-Some.ensures.ok ∙ given.1)))

pub returns-in_ok-text-in-Some : goal.returns-in_ok-text-in-Some
returns-in_ok-text-in-Some g c =
    gives (looked c.in_ok-_row.ensures legal-rows legal-rows ⨾ c.in_ok-text-in-Some.ensures)
    (λ H list given. (tt, λ found. (given.0, c.in_ok-start-in-Some.ensures.ok ∙ given.1))) (λ H legal given is.
    c.shown.ensures ∙ ap Shown is.1 ∙ shown-if H _ _ _ (branch-there H c.args.branch _ is.0 ∙ ap is_some c.in-Some.is))

pub returns-in-None : goal.returns-in-None
returns-in-None g c = gives (looked c.in_ok-_row.ensures legal-rows legal-rows) (λ _ _ _. tt)
    (λ H legal given found. refused-if H _ _ _ (branch-there H c.args.branch _ found ∙ ap is_some c.in-None.is))
