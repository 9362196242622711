use Rattle.model.proofs.Runs as lemmas
use Rattle.model.proofs.forms_law.Goals as goal

pub returns : goal.returns
returns c = λ H rs forms asks. lemmas.after-forms rs H forms asks
