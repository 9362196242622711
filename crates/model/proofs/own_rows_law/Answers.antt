use Rattle.model.proofs.OwnRows.{page-same}
use Rattle.model.proofs.own_rows_law.Goals as goal

pub returns : goal.returns
returns c = page-same
