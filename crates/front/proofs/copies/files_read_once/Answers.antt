use Rattle.front.proofs.CopyFiles as lemmas
use Rattle.front.proofs.copies.files_read_once.Goals as goal

pub returns : goal.returns
returns c = lemmas.files_read_once
