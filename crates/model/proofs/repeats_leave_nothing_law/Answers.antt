use Rattle.model.proofs.RepeatedLists as lemmas
use Rattle.model.proofs.repeats_leave_nothing_law.Goals as goal

pub returns : goal.returns
returns c = λ H rs. lemmas.first_ones-leave rs H
