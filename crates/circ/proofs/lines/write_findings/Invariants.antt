use Rattle.std.proofs.Common.{take}
use Rattle.std.specs.Io.KnownBytes.{Appends}
use Rattle.circ.specs.Lines.{finding_lines}
use Rattle.circ.proofs.lines.write_findings.Given as goal

abbrev pub invariant-loop-finding : goal.invariant-loop-finding
invariant-loop-finding g l = Appends (g.W.Write.contents l.fn.writer) (g.W.Write.contents l.writer) (finding_lines (take l.finding-index l.broken))
