use Rattle.model.proofs.RowRanges.{legal-rows}
use Rattle.desk.proofs.Looking.{looked, learns-on}
use Rattle.desk.proofs.ListBatches.{loans-batch}
use Rattle.desk.proofs.lists.LoansOfListed.batch.Goals as goal

pub returns : goal.returns
returns g c = learns-on (looked c.loans_of_copy.ensures legal-rows legal-rows) (λ _ _ _. tt)
    (λ H legal needs rows batch. loans-batch H legal c.args.self.now.copy c.args.after rows.items (rw c.new.ensures at batch))
