use Rattle.std.proofs.Common.{take}
use Rattle.std.specs.Prelude.{count_by}
use Rattle.circ_audit.specs.Rows.{names}
use Rattle.circ_audit.specs.Spans.{CountsMore}
use Rattle.circ_audit.proofs.counters.SpanCounters.tally.Given as goal

abbrev pub invariant-loop-row : goal.invariant-loop-row
invariant-loop-row g l = CountsMore (λ n. count_by (λ r. names (g.R.Names.named r) n) (take l.row-index l.rows)) l.initial.self l.self
