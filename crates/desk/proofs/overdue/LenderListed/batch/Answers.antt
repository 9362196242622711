use Rattle.model.proofs.Invariants.{legal-Invariant}
use Rattle.model.proofs.RowRanges.{legal-rows}
use Rattle.desk.proofs.Looking.{looked, learns-on}
use Rattle.desk.proofs.ListBatches.{overdue-batch}
use Rattle.desk.proofs.overdue.LenderListed.batch.Goals as goal

pub returns : goal.returns
returns g c = learns-on (looked c.overdue_loans.ensures legal-rows legal-rows) (λ _ _ _. tt)
    (λ H legal counts rows batch. overdue-batch H (legal-Invariant H legal) c.args.self.now.branch c.args.self.now.today c.args.after counts.is_today rows.items
    (rw c.new.ensures at batch))
