-- Days on which a branch is open. A day is the number of days since 1970-01-01.
use Rattle.calendar.specs.declared.limits.TheConstants.{FIRST_DAY, LAST_DAY}
use Rattle.std.specs.Prelude.{ℕ, zero, suc, ◌+◌, ◌-◌, ◌<◌, ◌≤◌, Bool, true, false, not, ◌&&◌, ◌==◌, nat_le, if◌then◌else◌, List}
use Rattle.std.specs.Prelude.{slice_index_or, Option, Some, None, IsTrue, IsFalse}
use Rattle.std.specs.List.{list_any}
use Rattle.calendar.specs.Openings.{weekday}

-- The day is one of the single days.
abbrev pub is_single : List ℕ → ℕ → Bool
is_single singles d = list_any (λ e. e == d) singles

-- A day of the calendar is open unless its weekday is closed or the day itself is.
abbrev pub opens : List Bool → List ℕ → ℕ → Bool
opens week singles d =
    elim (nat_le FIRST_DAY d && (nat_le d LAST_DAY && not (slice_index_or week (weekday d) false))) [ true ↦ not (is_single singles d) | false ↦ false ]

-- The first of the n days from d on that passes the test.
abbrev pub least_within : (ℕ → Bool) → ℕ → ℕ → Option ℕ
least_within test zero d = None
least_within test (suc n) d = elim (test d) [ true ↦ Some d | false ↦ least_within test n (suc d) ]

-- The first day from d on that passes the test, if the calendar has one.
abbrev pub least : (ℕ → Bool) → ℕ → Option ℕ
least test d = least_within test (suc LAST_DAY - d) d

-- The day e passes the test and isn't before d, and no day from d up to e - 1 passes it.
pub record IsLeast (test : ℕ → Bool) (d e : ℕ) : Type 0 where
  pub from : d ≤ e
  pub within : e ≤ LAST_DAY
  pub opens : IsTrue (test e)
  pub first : (k : ℕ) → d ≤ k → k < e → IsFalse (test k)

-- How many of the n days after d pass the test, counted one by one.
abbrev pub open_days : (ℕ → Bool) → ℕ → ℕ → ℕ
open_days test d zero = 0
open_days test d (suc n) = open_days test d n + (if test (d + suc n) then 1 else 0)

-- The number of open days after the due day, up to and including the day t.
abbrev pub late : (ℕ → Bool) → ℕ → ℕ → ℕ
late test due t = open_days test due (t - due)
