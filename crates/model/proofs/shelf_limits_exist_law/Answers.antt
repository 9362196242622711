use Rattle.model.proofs.DueDayLaws.{limit-exists}
use Rattle.model.proofs.shelf_limits_exist_law.Goals as goal

pub returns : goal.returns
returns c = limit-exists
