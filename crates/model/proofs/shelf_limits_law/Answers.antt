use Rattle.model.proofs.LimitLaws.{limit-is}
use Rattle.model.proofs.shelf_limits_law.Goals as goal

pub returns : goal.returns
returns c = limit-is
