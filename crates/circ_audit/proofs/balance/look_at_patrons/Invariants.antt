use Rattle.std.proofs.Common.{take}
use Rattle.circ_audit.specs.Spans.{LooksAtRows}
use Rattle.circ_audit.proofs.balance.look_at_patrons.Given as goal

abbrev pub invariant-loop-row : goal.invariant-loop-row
invariant-loop-row l = LooksAtRows l.after (take l.row-index l.rows) l.charges l.credits l.look
