use Rattle.model.proofs.RowRanges.{legal-rows}
use Rattle.desk.proofs.Looking.{looked, learns-on}
use Rattle.desk.proofs.ListBatches.{debts-batch}
use Rattle.desk.proofs.lists.DebtorsListed.batch.Goals as goal

pub returns : goal.returns
returns g c = learns-on (looked c.debtors.ensures legal-rows legal-rows) (λ _ _ _. tt)
    (λ H legal needs rows batch. debts-batch H c.args.after rows.items (rw c.new.ensures at batch))
