use Rattle.std.proofs.Common.{◌≡◌, ◌≤◌}
use Rattle.calendar.specs.Weeks.{open_weekdays_among}
use Rattle.calendar.proofs.weekdays.Weekdays.open_among.Given as goal

abbrev pub invariant-loop-after : goal.invariant-loop-after
invariant-loop-after l = record {
  counted : l.count ≡ open_weekdays_among l.self l.number l.after;
  small : l.count ≤ l.after;
}
