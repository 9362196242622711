-- Open weekdays, and single closed days in ascending order.
use Rattle.std.specs.Prelude.{◌≡◌, ℕ, zero, suc, ◌+◌, ◌<◌, ◌≤◌, Bool, false, not, ◌&&◌, if◌then◌else◌, List, length, slice_index, slice_index_or}
use Rattle.calendar.specs.Openings.{Closings, has_day, is_open, weekday}

-- whether the weekday of a day is closed
abbrev pub is_closed_weekday : List Bool → ℕ → Bool
is_closed_weekday weekly d = slice_index_or weekly (weekday d) false

-- how many of the n days after d fall on open weekdays
unfoldable pub open_weekdays_among : List Bool → ℕ → ℕ → ℕ
open_weekdays_among weekly d zero = 0
open_weekdays_among weekly d (suc n) = open_weekdays_among weekly d n + (if is_closed_weekday weekly (d + suc n) then 0 else 1)

-- how many of the n days after d are among these days and fall on open weekdays
unfoldable pub singles_among : List Bool → List ℕ → ℕ → ℕ → ℕ
singles_among weekly days d zero = 0
singles_among weekly days d (suc n) =
    singles_among weekly days d n + (if has_day days (d + suc n) && not (is_closed_weekday weekly (d + suc n)) then 1 else 0)

-- each of these days is later than those before it
abbrev pub IsRising : List ℕ → Type 0
IsRising days = (i j : ℕ) → i < j → j < length days → slice_index days i < slice_index days j

-- the first n of these days are those before d
pub record IsCountBelow (days : List ℕ) (d n : ℕ) : Type 0 where
  pub within : n ≤ length days
  pub before : (i : ℕ) → i < n → slice_index days i < d
  pub after : (i : ℕ) → n ≤ i → i < length days → d ≤ slice_index days i

-- the day is at this place
pub record IsPlaceOf (days : List ℕ) (d i : ℕ) : Type 0 where
  pub within : i < length days
  pub is_there : slice_index days i ≡ d

-- the day is missing: the days before this place are earlier, the others later
pub record IsPlaceFor (days : List ℕ) (d n : ℕ) : Type 0 where
  pub within : n ≤ length days
  pub before : (i : ℕ) → i < n → slice_index days i < d
  pub after : (i : ℕ) → n ≤ i → i < length days → d < slice_index days i

-- the first day from d on closed neither by its weekday nor singly, in the calendar or not
pub record IsOpenFrom (c : Closings) (d e : ℕ) : Type 0 where
  pub from : d ≤ e
  pub near : e ≤ 84012
  pub weekday : is_closed_weekday c.weekly e ≡ false
  pub single : has_day c.single e ≡ false
  pub closed : (k : ℕ) → d ≤ k → k < e → is_open c k ≡ false
