use Rattle.std.proofs.Common.{[], ◌∷◌, ◌++◌, sym, ◌∙◌, ap}
use Rattle.std.specs.Prelude.{is_some}
use Rattle.terms.specs.declared.reply.Reply.TheVariants.{Shown}
use Rattle.model.specs.Reports.{report_lines}
use Rattle.model.proofs.RowRanges.{legal-rows}
use Rattle.desk.proofs.Looking.{looked, ◌⨾◌, gives, stops, fails}
use Rattle.desk.proofs.Replies.{shown-if, refused-if, title-there, title-head}
use Rattle.desk.proofs.asking.show_of_title.Goals as goal

pub returns-in_err-row : goal.returns-in_err-row
returns-in_err-row g c = fails _ c.from_residual.ensures (looked c.in_err-row.ensures legal-rows legal-rows) (λ _ _ _. tt)

pub returns-in_err-line-in-Some : goal.returns-in_err-line-in-Some
returns-in_err-line-in-Some g c = stops _ c.from_residual-in_err-line-in-Some.ensures (looked c.in_ok-row.ensures legal-rows legal-rows)

pub returns-in_err-head-in-Some : goal.returns-in_err-head-in-Some
returns-in_err-head-in-Some g c = stops _ c.from_residual-in_err-head-in-Some.ensures (looked c.in_ok-row.ensures legal-rows legal-rows)

pub returns-in_err-text-in-Some : goal.returns-in_err-text-in-Some
returns-in_err-text-in-Some g c =
    fails _ c.from_residual-in_err-text-in-Some.ensures (looked c.in_ok-row.ensures legal-rows legal-rows ⨾ c.in_err-text-in-Some.ensures)
    (λ H list given. (
      tt,
      λ found. (
        given.0,
        c.in_ok-head-in-Some.ensures ∙ ap (λ t. t ++ (10 ∷ [])) c.in_ok-line-in-Some.ensures ∙ title-head H c.args.title c.in-Some.row (sym found
            ∙ c.in-Some.is) ∙ ap report_lines (sym given.1),
      ),
    ))

pub returns-in_ok-text-in-Some : goal.returns-in_ok-text-in-Some
returns-in_ok-text-in-Some g c =
    gives (looked c.in_ok-row.ensures legal-rows legal-rows ⨾ c.in_ok-text-in-Some.ensures) (λ H list given. (
      tt,
      λ found. (
        given.0,
        c.in_ok-head-in-Some.ensures ∙ ap (λ t. t ++ (10 ∷ [])) c.in_ok-line-in-Some.ensures ∙ title-head H c.args.title c.in-Some.row (sym found
            ∙ c.in-Some.is) ∙ ap report_lines (sym given.1),
      ),
    )) (λ H legal given is.
    c.shown.ensures ∙ ap Shown is.1 ∙ shown-if H _ _ _ (title-there H c.args.title _ is.0 ∙ ap is_some c.in-Some.is))

pub returns-in-None : goal.returns-in-None
returns-in-None g c = gives (looked c.in_ok-row.ensures legal-rows legal-rows) (λ _ _ _. tt)
    (λ H legal given found. refused-if H _ _ _ (title-there H c.args.title _ found ∙ ap is_some c.in-None.is))
