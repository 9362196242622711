use Rattle.std.proofs.Common.{take}
use Rattle.circ_audit.specs.References.{ArePassed}
use Rattle.circ_audit.specs.Sound.{FailsFirst}
use Rattle.circ_audit.specs.Spans.{is_passed}
use Rattle.circ_audit.proofs.references.first_unreferred.Given as goal

abbrev pub invariant-loop-row : goal.invariant-loop-row
invariant-loop-row g l =
    FailsFirst (ArePassed g.R.Keyed.last_of (λ r. is_passed l.after (g.R.Keyed.last_of r) (g.R.Refers.refers l.tables r)) (take l.row-index l.rows)) l.first
