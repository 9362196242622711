use Rattle.front.proofs.KeyFiles.{told}
use Rattle.front.proofs.keys.read_clerks.Goals as goal

pub returns : goal.returns
returns g c =
    let bytes = rw c.deref.ensures.value at c.read_lines.ensures in
    told (g.R.Read.remaining c.args.reader) c.in_ok-bytes.bytes.items c.read_lines.result c.in_ok-bytes.ensures.read bytes
