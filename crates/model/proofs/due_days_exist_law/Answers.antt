use Rattle.model.proofs.DueDayLaws.{due-exists}
use Rattle.model.proofs.due_days_exist_law.Goals as goal

pub returns : goal.returns
returns c = due-exists
