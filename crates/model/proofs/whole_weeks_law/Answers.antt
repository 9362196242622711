use Rattle.model.proofs.Runs.{after-whole}
use Rattle.model.proofs.whole_weeks_law.Goals as goal

pub returns : goal.returns
returns c = λ H rs whole asks. after-whole rs H whole asks
