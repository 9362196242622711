use Rattle.std.proofs.Common.{sym, refl, ◌∙◌}
use Rattle.model.proofs.Invariants.{legal-Invariant}
use Rattle.model.proofs.RowRanges.{legal-rows}
use Rattle.desk.proofs.Looking.{looked}
use Rattle.desk.proofs.ShelfLists.{ready-counted}
use Rattle.desk.proofs.WrittenReports.{report-after, report-unknown, report-fault}
use Rattle.desk.proofs.shelf.shelf.Goals as goal

pub returns-in_err-_row : goal.returns-in_err-_row
returns-in_err-_row g c = report-fault _ _ c.from_residual.ensures (looked c.in_err-_row.ensures legal-rows legal-rows)

pub returns-in-Some : goal.returns-in-Some
returns-in-Some g c = report-after (looked c.in_ok-_row.ensures legal-rows legal-rows) c.write_report.ensures (λ H list found. (
  (c.in-Some._row, sym found ∙ c.in-Some.is),
  (tt, ready-counted H (legal-Invariant H list.0) c.args.branch (legal-rows H list.0 list.1), refl),
  refl,
))

pub returns-in-None : goal.returns-in-None
returns-in-None g c = report-unknown _ (looked c.in_ok-_row.ensures legal-rows legal-rows) (λ H found. sym found ∙ c.in-None.is)
