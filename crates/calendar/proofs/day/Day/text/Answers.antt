use Rattle.std.proofs.Common.{arith}
use Rattle.calendar.proofs.DayLemmas.{IsDateOf-day_text}
use Rattle.calendar.proofs.day.Day.text.Goals as goal

pub returns-clause-date : goal.returns-clause-date
returns-clause-date c = rw c.self.view_is at (IsDateOf-day_text c.self.inside.number (omega (arith, c.self.invariant)))
