use Rattle.model.proofs.ClosedDays.{closes-few}
use Rattle.model.proofs.few_closed_days_law.Goals as goal

pub returns : goal.returns
returns c = closes-few
