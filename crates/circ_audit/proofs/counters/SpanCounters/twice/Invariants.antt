use Rattle.std.proofs.Common.{◌≡◌, ℕ, ◌+◌, ◌*◌, ◌<◌, ◌≤◌, true, get_or}
use Rattle.circ_audit.specs.Spans.{is_after}
use Rattle.circ_audit.proofs.counters.SpanCounters.twice.Given as goal

abbrev pub invariant-loop-place : goal.invariant-loop-place
invariant-loop-place l = (k : ℕ) → k < l.place → is_after l.after (l.self.span * 65536 + k) ≡ true → get_or l.self.counters k 0 ≤ 1
