use Rattle.model.proofs.RowRanges.{legal-rows}
use Rattle.desk.proofs.Looking.{looked, learns-on}
use Rattle.desk.proofs.ListBatches.{transits-batch}
use Rattle.desk.proofs.lists.TransitsToListed.batch.Goals as goal

pub returns : goal.returns
returns g c = learns-on (looked c.transits_to.ensures legal-rows legal-rows) (λ _ _ _. tt)
    (λ H legal needs rows batch. transits-batch H c.args.self.now.branch c.args.after rows.items (rw c.new.ensures at batch))
