use Rattle.model.proofs.RowRanges.{legal-rows}
use Rattle.desk.proofs.Looking.{looked, learns-on}
use Rattle.desk.proofs.ListBatches.{missing-batch}
use Rattle.desk.proofs.lists.MissingCopiesListed.batch.Goals as goal

pub returns : goal.returns
returns g c = learns-on (looked c.missing_copies.ensures legal-rows legal-rows) (λ _ _ _. tt)
    (λ H legal needs rows batch. missing-batch H legal c.args.after rows.items (rw c.new.ensures at batch))
