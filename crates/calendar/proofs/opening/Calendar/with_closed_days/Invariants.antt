use Rattle.std.proofs.Common.{take}
use Rattle.calendar.specs.Openings.{AreClosings, ClosesExactly}
use Rattle.calendar.proofs.opening.Calendar.with_closed_days.Given as goal

abbrev pub invariant-loop-day : goal.invariant-loop-day
invariant-loop-day l = record {
  closed : ClosesExactly l.calendar l.fn.weekly (take l.day-index l.days);
  closings : AreClosings l.calendar;
}
