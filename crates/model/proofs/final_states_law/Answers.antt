use Rattle.model.proofs.Final.{after-stays}
use Rattle.model.proofs.final_states_law.Goals as goal

pub returns : goal.returns
returns c = λ H rs h s legal final is. after-stays rs H h s legal final is
