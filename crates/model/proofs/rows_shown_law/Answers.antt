use Rattle.model.proofs.ShownRows.{rows-are-shown}
use Rattle.model.proofs.rows_shown_law.Goals as goal

pub returns : goal.returns
returns c = rows-are-shown
