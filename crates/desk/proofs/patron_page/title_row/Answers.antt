use Rattle.std.proofs.Common.{sym, ◌∙◌, ap}
use Rattle.std.specs.Prelude.{is_some}
use Rattle.model.proofs.RowRanges.{legal-rows}
use Rattle.desk.proofs.Looking.{looked, gives, damaged, fails}
use Rattle.desk.proofs.patron_page.title_row.Goals as goal

pub returns-in_err-row : goal.returns-in_err-row
returns-in_err-row g c = fails _ c.from_residual.ensures (looked c.in_err-row.ensures legal-rows legal-rows) (λ _ _ _. tt)

pub returns-in-Some : goal.returns-in-Some
returns-in-Some g c = gives (looked c.in_ok-row.ensures legal-rows legal-rows) (λ _ _ _. tt) (λ H legal _ found. sym found ∙ c.in-Some.is)

pub returns-in-None : goal.returns-in-None
returns-in-None g c = damaged (looked c.in_ok-row.ensures legal-rows legal-rows) (λ _ _ _. tt) (λ H list there found.
    let none = sym there ∙ ap is_some (sym found ∙ c.in-None.is) in
    let never : ⊥ = cc in never)
