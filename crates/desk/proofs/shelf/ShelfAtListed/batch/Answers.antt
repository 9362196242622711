use Rattle.model.proofs.Invariants.{legal-Invariant}
use Rattle.model.proofs.RowRanges.{legal-rows}
use Rattle.desk.proofs.Looking.{looked, learns-on}
use Rattle.desk.proofs.ListBatches.{shelf-batch}
use Rattle.desk.proofs.shelf.ShelfAtListed.batch.Goals as goal

pub returns : goal.returns
returns g c = learns-on (looked c.ready_holds.ensures legal-rows legal-rows) (λ _ _ _. tt)
    (λ H legal needs rows batch. shelf-batch H (legal-Invariant H legal) c.args.self.now.branch c.args.after rows.items (rw c.new.ensures at batch))
