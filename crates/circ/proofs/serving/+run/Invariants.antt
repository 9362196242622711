use Rattle.std.specs.Prelude.{length}
use Rattle.circ.proofs.serving.+run.Given as goal

abbrev pub decreases-run : goal.decreases-run
decreases-run g l = length l.connections.now.items
