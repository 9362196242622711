use Rattle.model.proofs.Invariants.{legal-Invariant}
use Rattle.model.proofs.invariant_law.Goals as goal

pub returns : goal.returns
returns c = legal-Invariant
