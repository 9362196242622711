use Rattle.std.proofs.Common.{refl, sym, subst}
use Rattle.model.specs.Reports.{overdue, shelf}
use Rattle.desk.specs.Reports.{WritesAnyReport}
use Rattle.desk.specs.declared.reports.Report.{Report}
use Rattle.desk.specs.declared.reports.Report.TheVariants.{Overdue, Shelf}
use Rattle.desk.proofs.ReportForms.{of-branch, of-day}
use Rattle.desk.proofs.desk.Desk.report.Goals as goal

pub returns-in-Overdue : goal.returns-in-Overdue
returns-in-Overdue g c =
    subst (λ (asked : Report). WritesAnyReport asked g.S.Store c.args.self.now c.overdue.new.self (g.W.Write.contents c.args.writer.now)
    (g.W.Write.contents c.overdue.new.writer) c.overdue.result) (sym c.in-Overdue.is)
    (of-branch (Overdue c.in-Overdue.branch) (λ H. overdue H c.in-Overdue.branch) c.in-Overdue.branch (λ H branch. branch) (λ H. refl)
    (λ H none. none) (λ day is. let never : ⊥ = cc in never) c.overdue.ensures)

pub returns-in-Shelf : goal.returns-in-Shelf
returns-in-Shelf g c =
    subst (λ (asked : Report). WritesAnyReport asked g.S.Store c.args.self.now c.shelf.new.self (g.W.Write.contents c.args.writer.now)
    (g.W.Write.contents c.shelf.new.writer) c.shelf.result) (sym c.in-Shelf.is)
    (of-branch (Shelf c.in-Shelf.branch) (λ H. shelf H c.in-Shelf.branch) c.in-Shelf.branch (λ H branch. branch) (λ H. refl)
    (λ H none. none) (λ day is. let never : ⊥ = cc in never) c.shelf.ensures)

pub returns-in-Till : goal.returns-in-Till
returns-in-Till g c =
    subst (λ (asked : Report). WritesAnyReport asked g.S.Store c.args.self.now c.till.new.self (g.W.Write.contents c.args.writer.now)
    (g.W.Write.contents c.till.new.writer) c.till.result) (sym c.in-Till.is)
    (of-day c.in-Till.day c.till.ensures)
