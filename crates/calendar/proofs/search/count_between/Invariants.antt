use Rattle.std.proofs.Common.{◌≡◌, ◌+◌, ◌-◌, ◌≤◌, length, take}
use Rattle.calendar.proofs.WeekLemmas.{listed}
use Rattle.calendar.proofs.search.count_between.Given as goal

abbrev pub invariant-loop-index : goal.invariant-loop-index
invariant-loop-index g l = record {
  counted : l.count ≡ listed l.weekly l.fn.due (l.fn.today - l.fn.due) (take l.index l.singles);
  within : l.index ≤ length l.singles;
  small : l.count ≤ l.index;
  used : l.steps ≤ l.fn.steps + 18 + l.index;
}
