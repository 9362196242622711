use Rattle.model.proofs.DueDayLaws.{due-is}
use Rattle.model.proofs.due_days_law.Goals as goal

pub returns : goal.returns
returns c = due-is
