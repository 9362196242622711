use Rattle.std.proofs.Common.{ℕ, ◌-◌, ◌<◌}
use Rattle.circ_audit.specs.Spans.{span_of, HoldsAfter}
use Rattle.circ_audit.proofs.spans.first_broken.Given as goal

abbrev pub invariant-loop-after : goal.invariant-loop-after
invariant-loop-after g l = (m : ℕ) → span_of m < l.span → HoldsAfter l.after (g.L.Law.keeps l.tables) m

abbrev pub decreases-loop-after : goal.decreases-loop-after
decreases-loop-after g l = 65536 - l.span
