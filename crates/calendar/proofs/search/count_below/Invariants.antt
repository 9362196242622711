use Rattle.std.proofs.Common.{◌+◌, ◌-◌, ◌<◌, ◌≤◌, ℕ, length, slice_index}
use Rattle.calendar.proofs.SinglesLemmas.{span}
use Rattle.calendar.proofs.search.count_below.Given as goal

abbrev pub invariant-loop-low : goal.invariant-loop-low
invariant-loop-low g l = record {
  order : l.low ≤ l.high;
  within : l.high ≤ length l.singles;
  before : (i : ℕ) → i < l.low → slice_index l.singles i < l.number;
  after : (i : ℕ) → l.high ≤ i → i < length l.singles → l.number ≤ slice_index l.singles i;
  used : l.steps ≤ l.fn.steps + 9;
  left : l.high - l.low < span (l.fn.steps + 9 - l.steps);
}

abbrev pub decreases-loop-low : goal.decreases-loop-low
decreases-loop-low g l = l.high - l.low
