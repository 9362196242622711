use Rattle.std.proofs.Common.{take}
use Rattle.circ_audit.specs.Sound.{FailsFirst}
use Rattle.circ_audit.proofs.Binding.{AreServed}
use Rattle.circ_audit.proofs.bindings.first_unserved.Given as goal

abbrev pub invariant-loop-row : goal.invariant-loop-row
invariant-loop-row l = FailsFirst (AreServed l.tables l.after (take l.row-index l.row-items)) l.first
