-- Days, their numbers and their texts.
use Rattle.std.specs.Prelude.{◌≡◌, ℕ, zero, suc, ◌+◌, ◌/◌, ◌%◌, ◌≤◌, List, [], ◌∷◌, ◌++◌, pos, Bool, ◌&&◌, nat_le, nat_lt, if◌then◌else◌}
use Rattle.jiff_core.specs.Calendar.{IsCivilDate, days_from_civil, days_in_month}
use Rattle.calendar.specs.declared.limits.TheConstants.{FIRST_DAY, LAST_DAY}

-- the day numbers of the calendar: 2000-01-01 to 2199-12-31, counted from 1970-01-01
abbrev pub IsDayNumber : ℕ → Type 0
IsDayNumber n = (FIRST_DAY ≤ n) × (n ≤ LAST_DAY)

-- whether a number is one of these
abbrev pub is_day : ℕ → Bool
is_day n = nat_le FIRST_DAY n && nat_le n LAST_DAY

-- a number below 100, in two digits
abbrev pub two_digits : ℕ → List ℕ
two_digits n = (48 + n / 10) ∷ (48 + n % 10) ∷ []

-- `YYYY-MM-DD`
abbrev pub date_text : ℕ → ℕ → ℕ → List ℕ
date_text year month day =
    two_digits (year / 100) ++ (two_digits (year % 100) ++ (45 ∷ (two_digits month ++ (45 ∷ two_digits day))))

-- the text is the date with that day number
pub record IsDateOf (text : List ℕ) (number : ℕ) : Type 0 where
  pub year : ℕ
  pub month : ℕ
  pub day : ℕ
  pub four_digits : year ≤ 9999
  pub exists : IsCivilDate (pos year) month day
  pub written : text ≡ date_text year month day
  pub numbered : days_from_civil (pos year) month day ≡ pos number

-- year, month and day
pub record Civil : Type 0 where
  pub year : ℕ
  pub month : ℕ
  pub day : ℕ

-- the next day
abbrev pub day_after : Civil → Civil
day_after c =
    if nat_lt c.day (days_in_month (pos c.year) c.month) then record { year = c.year; month = c.month; day = c.day + 1 }
    else (if nat_lt c.month 12 then record { year = c.year; month = c.month + 1; day = 1 }
    else record { year = c.year + 1; month = 1; day = 1 })

-- the date that many days after 1970-01-01
unfoldable pub civil_of : ℕ → Civil
civil_of zero = record { year = 1970; month = 1; day = 1 }
civil_of (suc n) = day_after (civil_of n)

-- the date of a day, as `YYYY-MM-DD`
unfoldable pub day_text : ℕ → List ℕ
day_text n = let c = civil_of n in date_text c.year c.month c.day
