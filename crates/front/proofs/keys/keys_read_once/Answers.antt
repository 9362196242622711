use Rattle.front.proofs.KeyFiles.{are_read_once}
use Rattle.front.proofs.keys.keys_read_once.Goals as goal

pub returns : goal.returns
returns c = are_read_once
