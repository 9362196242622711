use Rattle.std.proofs.Common.{length}
use Rattle.front.proofs.KeyFiles.{HasTaken}
use Rattle.front.proofs.keys.read_lines.Given as goal

abbrev pub invariant-loop-rest : goal.invariant-loop-rest
invariant-loop-rest l = HasTaken l.fn.bytes l.clerks.items l.rest

abbrev pub decreases-loop-rest : goal.decreases-loop-rest
decreases-loop-rest l = length l.rest
