use Rattle.std.proofs.Common.{take}
use Rattle.std.specs.Io.KnownBytes.{Appends}
use Rattle.circ.specs.Lines.{doubled_lines}
use Rattle.circ.proofs.lines.write_doubled.Given as goal

abbrev pub invariant-loop-thing : goal.invariant-loop-thing
invariant-loop-thing g l = Appends (g.W.Write.contents l.fn.writer) (g.W.Write.contents l.writer) (doubled_lines (take l.thing-index l.doubled))
