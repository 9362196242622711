use Rattle.std.proofs.Common.{◌≡◌, ◌+◌, ◌-◌, ◌<◌, ◌≤◌, ℕ, true}
use Rattle.calendar.specs.Weeks.{is_closed_weekday}
use Rattle.calendar.proofs.weekdays.Weekdays.open_from.Given as goal

abbrev pub invariant-loop-self : goal.invariant-loop-self
invariant-loop-self l = record {
  from : l.number ≤ l.next;
  near : l.next ≤ l.number + 6;
  closed : (k : ℕ) → l.number ≤ k → k < l.next → is_closed_weekday l.self k ≡ true;
}

abbrev pub decreases-loop-self : goal.decreases-loop-self
decreases-loop-self l = l.number + 7 - l.next
