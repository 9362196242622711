use Rattle.model.proofs.Counters.{counters}
use Rattle.model.proofs.counters_law.Goals as goal

pub returns : goal.returns
returns c = counters
