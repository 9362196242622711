use Rattle.model.proofs.Runs as lemmas
use Rattle.model.proofs.forms_are_whole_law.Goals as goal

pub returns : goal.returns
returns c = lemmas.forms-whole
