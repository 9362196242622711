use Rattle.model.proofs.Line.{served-first}
use Rattle.model.proofs.line_law.Goals as goal

pub returns : goal.returns
returns c = served-first
