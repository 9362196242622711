use Rattle.model.proofs.RepeatedLists as lemmas
use Rattle.model.proofs.copies_file_law.Goals as goal

pub returns : goal.returns
returns c = lemmas.rows-once
