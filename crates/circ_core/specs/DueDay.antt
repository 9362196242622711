-- The due day of a loan or limit of a hold shelf: the least open day from a day on.
use Rattle.calendar.specs.declared.limits.TheConstants.{LAST_DAY}
use Rattle.std.specs.Prelude.{◌≡◌, ℕ, ◌≤◌, false, Option, Some, None}
use Rattle.calendar.specs.Openings.{Closings, is_open, IsLeastOpen}
use Rattle.model.specs.Calendar.{least}

-- The calendar's least open day from that day on, if any; none without a calendar.
unfoldable pub due_from : Option Closings → ℕ → Option ℕ
due_from (Some closings) from = least (is_open closings) from
due_from None from = None

-- The day is the calendar's least open one from that day on.
abbrev pub IsDueFrom : Option Closings → ℕ → ℕ → Type 0
IsDueFrom (Some closings) from due = IsLeastOpen closings from due
IsDueFrom None from due = ⊥

-- From that day on the calendar has no open day left.
abbrev pub IsShutFrom : Option Closings → ℕ → Type 0
IsShutFrom (Some closings) from = (k : ℕ) → from ≤ k → k ≤ LAST_DAY → is_open closings k ≡ false
IsShutFrom None from = Unit {0}
