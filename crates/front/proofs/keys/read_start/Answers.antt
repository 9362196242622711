use Rattle.front.specs.declared.keys.TheConstants.{LONGEST_FILE}
use Rattle.std.proofs.Common.{◌+◌}
use Rattle.front.proofs.KeyFiles.{started}
use Rattle.front.proofs.keys.read_start.Goals as goal

pub returns-in-Ok-clause-read : goal.returns-in-Ok-clause-read
returns-in-Ok-clause-read g c =
    let bytes = rw (c.take-start.ensures.limit, c.take-start.ensures.inner, c.new-bytes.ensures.items) at c.in-Ok.ensures.bytes in
    started (g.R.Read.remaining c.args.reader) (LONGEST_FILE + 1) c.read_to_end.new.buf.items bytes
