use Rattle.model.proofs.AskedRows.{shelves-are-unclaimed}
use Rattle.model.proofs.shelves_law.Goals as goal

pub returns : goal.returns
returns c = shelves-are-unclaimed
