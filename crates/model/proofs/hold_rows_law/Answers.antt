use Rattle.model.proofs.HoldRows.{hold-rows}
use Rattle.model.proofs.hold_rows_law.Goals as goal

pub returns : goal.returns
returns c = hold-rows
