use Rattle.std.proofs.Common.{◌≡◌, ℕ, ◌+◌, ◌<◌, get_or}
use Rattle.circ_audit.proofs.numbers.before_gap.Given as goal

abbrev pub invariant-loop-place : goal.invariant-loop-place
invariant-loop-place g l = (i : ℕ) (d : _) → i < l.place → g.R.Keyed.last_of (get_or l.rows i d) ≡ l.from + i
