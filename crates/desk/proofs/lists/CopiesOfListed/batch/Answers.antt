use Rattle.model.proofs.RowRanges.{legal-rows}
use Rattle.desk.proofs.Looking.{looked, learns-on}
use Rattle.desk.proofs.ListBatches.{copies-batch}
use Rattle.desk.proofs.lists.CopiesOfListed.batch.Goals as goal

pub returns : goal.returns
returns g c = learns-on (looked c.copies_of_title.ensures legal-rows legal-rows) (λ _ _ _. tt)
    (λ H legal needs rows batch. copies-batch H c.args.self.now.title c.args.after rows.items (rw c.new.ensures at batch))
