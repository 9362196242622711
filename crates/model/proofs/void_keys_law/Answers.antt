use Rattle.model.proofs.Corrections.{old-key-void}
use Rattle.model.proofs.void_keys_law.Goals as goal

pub returns : goal.returns
returns c = old-key-void
