use Rattle.model.proofs.Corrections.{leaves-the-rest}
use Rattle.model.proofs.corrections_law.Goals as goal

pub returns : goal.returns
returns c = leaves-the-rest
