-- The definitions of the crate `calendar` agree with those here.
use Rattle.std.specs.Prelude.{◌≡◌, ℕ, ◌↔◌, Some}
use Rattle.calendar.specs.Openings.{Closings, is_open, IsLeastOpen, open_days_after}
use Rattle.model.specs.Calendar.{opens, least, late}

-- A calendar is open on the same days.
abbrev pub SameOpenDays : Type 0
SameOpenDays = (c : Closings) (d : ℕ) → opens c.weekly c.single d ≡ is_open c d

-- The least open day is the same.
abbrev pub SameLeastDay : Type 0
SameLeastDay = (c : Closings) (d e : ℕ) → (least (opens c.weekly c.single) d ≡ Some e) ↔ IsLeastOpen c d e

-- As many days are late.
abbrev pub SameLateDays : Type 0
SameLateDays = (c : Closings) (due today : ℕ) → late (opens c.weekly c.single) due today ≡ open_days_after c due today

-- Open days, the least open day and the late days are the same.
pub record CalendarsAgree : Type 0 where
  pub open_days : SameOpenDays
  pub least_day : SameLeastDay
  pub late_days : SameLateDays
