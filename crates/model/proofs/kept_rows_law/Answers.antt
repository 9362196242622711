use Rattle.model.proofs.UntouchedPatrons.{kept-agree}
use Rattle.model.proofs.kept_rows_law.Goals as goal

pub returns : goal.returns
returns c = kept-agree
