use Rattle.std.proofs.Common.{sym, ◌∙◌, ap}
use Rattle.std.specs.Prelude.{is_some}
use Rattle.model.proofs.RowRanges.{legal-rows}
use Rattle.desk.proofs.Looking.{looked, ◌⨾◌, learns-on, damaged, fails}
use Rattle.desk.proofs.Sound.{copy-title}
use Rattle.desk.proofs.patron_page.title_of_copy.Goals as goal

pub returns-in_err-row : goal.returns-in_err-row
returns-in_err-row g c = fails _ c.from_residual.ensures (looked c.in_err-row.ensures legal-rows legal-rows) (λ _ _ _. tt)

pub returns-in-Some : goal.returns-in-Some
returns-in-Some g c = learns-on (looked c.in_ok-row.ensures legal-rows legal-rows ⨾ c.title_row.ensures)
    (λ H list there. (tt, λ found. copy-title H list.0 c.args.copy c.in-Some.row (sym found ∙ c.in-Some.is)))
    (λ H legal _ title is. (c.in-Some.row, sym is.0 ∙ c.in-Some.is, is.1))

pub returns-in-None : goal.returns-in-None
returns-in-None g c = damaged (looked c.in_ok-row.ensures legal-rows legal-rows) (λ _ _ _. tt) (λ H list there found.
    let none = sym there ∙ ap is_some (sym found ∙ c.in-None.is) in
    let never : ⊥ = cc in never)
