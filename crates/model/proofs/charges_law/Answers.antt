use Rattle.model.proofs.ChargedRows.{charges}
use Rattle.model.proofs.charges_law.Goals as goal

pub returns : goal.returns
returns c = charges
