use Rattle.model.proofs.Debts.{debts-are-shown}
use Rattle.model.proofs.debts_law.Goals as goal

pub returns : goal.returns
returns c = debts-are-shown
