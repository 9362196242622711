-- When a branch is open.
use Rattle.std.specs.Prelude.{◌≡◌, ℕ, zero, suc, ◌+◌, ◌-◌, ◌%◌, ◌<◌, ◌≤◌, Bool, true, false, not, ◌&&◌, ◌||◌, ◌==◌, if◌then◌else◌, List, []}
use Rattle.std.specs.Prelude.{◌∷◌, length, slice_index_or}
use Rattle.std.specs.List.{list_any}
use Rattle.calendar.specs.declared.limits.TheConstants.{MOST_CLOSED_DAYS}
use Rattle.calendar.specs.Days.{IsDayNumber, is_day}

-- a branch's closed days: the weekdays, Monday first, and the single days
pub record Closings : Type 0 where
  pub weekly : List Bool
  pub single : List ℕ

-- Monday is 0, and day 0 was a Thursday
abbrev pub weekday : ℕ → ℕ
weekday d = (d + 3) % 7

-- whether the weekday of a day is closed
abbrev pub is_weekly : Closings → ℕ → Bool
is_weekly c d = slice_index_or c.weekly (weekday d) false

-- whether a day is among these days
abbrev pub has_day : List ℕ → ℕ → Bool
has_day days d = list_any (λ e. e == d) days

-- whether a day occurs twice among these days
abbrev pub has_repeat : List ℕ → Bool
has_repeat [] = false
has_repeat (d ∷ days) = has_day days d || has_repeat days

-- whether a day is a single closed day
abbrev pub is_single : Closings → ℕ → Bool
is_single c d = has_day c.single d

-- whether a day is open: it is in the calendar, and neither its weekday nor the day itself is closed
unfoldable pub is_open : Closings → ℕ → Bool
is_open c d = is_day d && (not (is_weekly c d) && not (is_single c d))

-- the least open day from d on
abbrev pub IsLeastOpen : Closings → ℕ → ℕ → Type 0
IsLeastOpen c d e = (d ≤ e) × (is_open c e ≡ true) × ((k : ℕ) → d ≤ k → k < e → is_open c k ≡ false)

-- how many of the n days after d are open
unfoldable pub open_among : Closings → ℕ → ℕ → ℕ
open_among c d zero = 0
open_among c d (suc n) = open_among c d n + (if is_open c (d + suc n) then 1 else 0)

-- how many days e with due < e ≤ today are open
abbrev pub open_days_after : Closings → ℕ → ℕ → ℕ
open_days_after c due today = open_among c due (today - due)

-- some weekday is open
abbrev pub has_open_weekday : List Bool → Bool
has_open_weekday weekly = list_any (λ closed. not closed) weekly

-- the closed weekdays of a branch: a mask of seven, and never all of them
pub record AreWeekdays (weekly : List Bool) : Type 0 where
  pub seven : length weekly ≡ 7
  pub some_open : has_open_weekday weekly ≡ true

-- what holds of every branch's closed days: at most 400 single days of the calendar, each once
pub record AreClosings (c : Closings) : Type 0 where
  pub weekdays : AreWeekdays c.weekly
  pub in_range : (d : ℕ) → is_single c d ≡ true → IsDayNumber d
  pub once : has_repeat c.single ≡ false
  pub few : length c.single ≤ MOST_CLOSED_DAYS

-- the day is now closed, every other day unchanged
pub record ClosesOnly (old new : Closings) (day : ℕ) : Type 0 where
  pub weekly : new.weekly ≡ old.weekly
  pub single : (d : ℕ) → is_single new d ≡ ((d == day) || is_single old d)
  pub one_more : length new.single ≡ length old.single + 1

-- the day is no longer a single closed day, every other day unchanged
pub record ReopensOnly (old new : Closings) (day : ℕ) : Type 0 where
  pub weekly : new.weekly ≡ old.weekly
  pub single : (d : ℕ) → is_single new d ≡ (not (d == day) && is_single old d)
  pub one_less : length new.single + 1 ≡ length old.single

-- exactly these weekdays and single days are closed
pub record ClosesExactly (c : Closings) (mask : List Bool) (days : List ℕ) : Type 0 where
  pub weekly : c.weekly ≡ mask
  pub single : (d : ℕ) → is_single c d ≡ has_day days d
  pub as_many : length c.single ≡ length days

-- the two close the same days, in any order
pub record ClosesSame (c e : Closings) : Type 0 where
  pub weekly : c.weekly ≡ e.weekly
  pub single : (d : ℕ) → is_single c d ≡ is_single e d
