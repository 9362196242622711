use Rattle.model.proofs.RowRanges as lemmas
use Rattle.model.proofs.rows_in_limits_law.Goals as goal

pub returns : goal.returns
returns c = lemmas.legal-rows
