use Rattle.model.proofs.References.{legal-references}
use Rattle.model.proofs.references_law.Goals as goal

pub returns : goal.returns
returns c = legal-references
