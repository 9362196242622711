use Rattle.model.proofs.Labels.{labels}
use Rattle.model.proofs.labels_law.Goals as goal

pub returns : goal.returns
returns c = labels
