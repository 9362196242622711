use Rattle.model.proofs.Repeats.{acts_once}
use Rattle.model.proofs.repeats_law.Goals as goal

pub returns : goal.returns
returns c = acts_once
