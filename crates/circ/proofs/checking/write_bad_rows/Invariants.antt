use Rattle.std.proofs.Common.{take}
use Rattle.std.specs.Io.KnownBytes.{Appends}
use Rattle.circ.specs.Checking.{bad_row_lines}
use Rattle.circ.proofs.checking.write_bad_rows.Given as goal

abbrev pub invariant-loop-row : goal.invariant-loop-row
invariant-loop-row g l = Appends (g.W.Write.contents l.fn.writer) (g.W.Write.contents l.writer) (bad_row_lines (take l.row-index l.bad))
