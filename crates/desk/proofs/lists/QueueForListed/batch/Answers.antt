use Rattle.model.proofs.Invariants.{legal-Invariant}
use Rattle.model.proofs.RowRanges.{legal-rows}
use Rattle.desk.proofs.Looking.{looked, learns-on}
use Rattle.desk.proofs.ListBatches.{queue-batch}
use Rattle.desk.proofs.lists.QueueForListed.batch.Goals as goal

pub returns : goal.returns
returns g c = learns-on (looked c.waiting_holds_for.ensures legal-rows legal-rows) (λ _ _ _. tt)
    (λ H legal needs rows batch. queue-batch H (legal-Invariant H legal) c.args.self.now.title c.args.after rows.items (rw c.new.ensures at batch))
