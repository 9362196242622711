use Rattle.model.proofs.RowRanges.{legal-rows}
use Rattle.desk.proofs.Looking.{looked, learns-on}
use Rattle.desk.proofs.ListBatches.{account-batch}
use Rattle.desk.proofs.lists.AccountOfListed.batch.Goals as goal

pub returns : goal.returns
returns g c = learns-on (looked c.account_lines.ensures legal-rows legal-rows) (λ _ _ _. tt)
    (λ H legal needs rows batch. account-batch H c.args.self.now.patron c.args.after rows.items (rw c.new.ensures at batch))
