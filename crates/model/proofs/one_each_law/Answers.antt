use Rattle.model.proofs.OneEachLaw.{one-each}
use Rattle.model.proofs.one_each_law.Goals as goal

pub returns : goal.returns
returns c = one-each
