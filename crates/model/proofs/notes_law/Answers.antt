use Rattle.model.proofs.Notes.{notes}
use Rattle.model.proofs.notes_law.Goals as goal

pub returns : goal.returns
returns c = notes
