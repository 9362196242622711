use Rattle.std.proofs.Common.{◌+◌, ◌≤◌}
use Rattle.calendar.proofs.SinglesLemmas.{IsReached}
use Rattle.calendar.proofs.search.first_open.Given as goal

abbrev pub invariant-loop-index : goal.invariant-loop-index
invariant-loop-index g l = record {
  reached : IsReached (record { weekly = l.weekly; single = l.singles }) l.fn.day l.index l.open;
  used : l.steps ≤ l.fn.steps + 9 + l.index;
}
