use Rattle.std.proofs.Common.{ℕ, ◌∙◌, ap}
use Rattle.model.proofs.Invariants.{legal-Invariant}
use Rattle.desk.specs.Reporting.{overdue_words}
use Rattle.desk.proofs.Looking.{gives, stops, fails}
use Rattle.desk.proofs.OverdueLists.{overdue-lists}
use Rattle.desk.proofs.OverdueRows.{overdue-line}
use Rattle.desk.proofs.Sound.{loan-copy}
use Rattle.desk.proofs.overdue.LenderListed.row_text.Goals as goal

pub returns-in_err-title : goal.returns-in_err-title
returns-in_err-title g c = fails _ c.from_residual.ensures c.in_err-title.ensures
    (λ H list given. loan-copy H list.0 c.args.row.now.loan c.args.row.now given.1.0)

pub returns-in_err-overdue_row : goal.returns-in_err-overdue_row
returns-in_err-overdue_row g c = stops _ c.from_residual-in_err-overdue_row.ensures c.in_ok-title.ensures

pub returns : goal.returns
returns g c = gives c.in_ok-title.ensures (λ H list given. loan-copy H list.0 c.args.row.now.loan c.args.row.now given.1.0) (λ H legal given found. (
  overdue-lists H (legal-Invariant H legal) c.args.self.now.branch c.args.self.now.today given.0.is_today c.args.row.now given.1.0 given.1.1,
  c.in_ok-overdue_row.ensures
      ∙ ap (λ (n : ℕ). overdue_words c.args.row.now n c.in_ok-title.title.text) c.open_days_after-late.ensures
      ∙ overdue-line H c.args.self.now.branch c.args.self.now.calendar c.args.self.now.today given.0 c.args.row.now found.0
      c.in_ok-title.title given.1.0 found.1 found.2,
))
