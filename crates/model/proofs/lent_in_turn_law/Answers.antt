use Rattle.model.proofs.Turns.{turns}
use Rattle.model.proofs.lent_in_turn_law.Goals as goal

pub returns : goal.returns
returns c = turns
