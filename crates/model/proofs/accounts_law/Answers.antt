use Rattle.model.proofs.AskedRows.{accounts-are-shown}
use Rattle.model.proofs.accounts_law.Goals as goal

pub returns : goal.returns
returns c = accounts-are-shown
