use Rattle.std.proofs.Common.{◌≡◌, length}
use Rattle.circ.proofs.listening.ports.Given as goal

abbrev pub invariant-ports : goal.invariant-ports
invariant-ports l = length l.all.items ≡ l._made
