-- Worked examples of days: dates, weekdays, and the days on which a branch is open.
use Rattle.std.specs.Prelude.{◌≡◌, ℕ, List, [], ◌∷◌, map, codes, refl, Bool, true, false}
use Rattle.calendar.specs.Days.{Civil, date_text, day_after, civil_of, day_text, is_day}
use Rattle.calendar.specs.Openings.{Closings, weekday, has_repeat, is_open, open_among, open_days_after, has_open_weekday}
use Rattle.calendar.specs.Weeks.{open_weekdays_among, singles_among}

-- A date of year, month and day.
abbrev date : ℕ → ℕ → ℕ → Civil
date year month day = record { year = year; month = month; day = day }

-- The day after the last of a month and of a year; February has a 29th in years that four divides, but of full centuries only where four hundred does.
days_after : map day_after
    (date 2026 3 2 ∷ date 2026 3 31 ∷ date 2026 4 30 ∷ date 2026 12 31 ∷ date 2026 2 28 ∷ date 2024 2 28 ∷ date 2024 2 29 ∷ date 2000 2 28 ∷ date 2100 2 28 ∷ [])
    ≡ date 2026 3 3 ∷ date 2026 4 1 ∷ date 2026 5 1 ∷ date 2027 1 1 ∷ date 2026 3 1 ∷ date 2024 2 29 ∷ date 2024 3 1 ∷ date 2000 2 29 ∷ date 2100 3 1 ∷ []
days_after = refl

-- Days are counted from 1970-01-01.
dates_of_days : map civil_of (0 ∷ 1 ∷ 58 ∷ 59 ∷ 364 ∷ 365 ∷ 789 ∷ 790 ∷ []) ≡ date 1970 1 1 ∷ date 1970 1 2 ∷ date 1970 2 28 ∷ date 1970 3 1
    ∷ date 1970 12 31 ∷ date 1971 1 1 ∷ date 1972 2 29 ∷ date 1972 3 1 ∷ []
unfolding civil_of
dates_of_days = refl

texts_of_days : map day_text (0 ∷ 789 ∷ []) ≡ map codes ("1970-01-01" ∷ "1972-02-29" ∷ [])
unfolding day_text civil_of
texts_of_days = refl

texts_of_dates : date_text 2026 12 31 ∷ date_text 987 6 5 ∷ [] ≡ map codes ("2026-12-31" ∷ "0987-06-05" ∷ [])
texts_of_dates = refl

-- The calendar goes from 2000-01-01 to 2199-12-31.
days_of_the_calendar : map is_day (10956 ∷ 10957 ∷ 84005 ∷ 84006 ∷ []) ≡ false ∷ true ∷ true ∷ false ∷ []
days_of_the_calendar = refl

-- Day 0 was a Thursday, and 2026-03-02 is a Monday.
weekdays : map weekday (0 ∷ 3 ∷ 4 ∷ 20514 ∷ 20520 ∷ []) ≡ 3 ∷ 6 ∷ 0 ∷ 0 ∷ 6 ∷ []
weekdays = refl

-- ---- a branch that is closed on Sundays, on Tuesday 2026-03-03 and on Monday 2026-03-09

abbrev sundays : List Bool
sundays = false ∷ false ∷ false ∷ false ∷ false ∷ false ∷ true ∷ []

abbrev closings : Closings
closings = record { weekly = sundays; single = 20515 ∷ 20521 ∷ [] }

open_in_march : map (is_open closings) (10956 ∷ 20514 ∷ 20515 ∷ 20516 ∷ 20519 ∷ 20520 ∷ 20521 ∷ 20522 ∷ 84006 ∷ [])
    ≡ false ∷ true ∷ false ∷ true ∷ true ∷ false ∷ false ∷ true ∷ false ∷ []
unfolding is_open
open_in_march = refl

-- The day after which is counted doesn't count, and the last one does.
open_days_in_march : map (open_days_after closings 20514) (20513 ∷ 20514 ∷ 20515 ∷ 20516 ∷ 20519 ∷ 20520 ∷ 20521 ∷ 20522 ∷ [])
    ≡ 0 ∷ 0 ∷ 0 ∷ 1 ∷ 4 ∷ 4 ∷ 4 ∷ 5 ∷ []
unfolding is_open open_among
open_days_in_march = refl

-- By weekdays alone, and the single days among them that take an open weekday away.
counted_by_weekdays : map (open_weekdays_among sundays 20514) (0 ∷ 1 ∷ 6 ∷ 7 ∷ 8 ∷ []) ≡ 0 ∷ 1 ∷ 5 ∷ 6 ∷ 7 ∷ []
unfolding open_weekdays_among
counted_by_weekdays = refl

counted_from_a_saturday : map (open_weekdays_among sundays 20519) (1 ∷ 2 ∷ 7 ∷ 8 ∷ []) ≡ 0 ∷ 1 ∷ 6 ∷ 6 ∷ []
unfolding open_weekdays_among
counted_from_a_saturday = refl

singles_on_open_weekdays : map (singles_among sundays (20515 ∷ 20520 ∷ 20521 ∷ []) 20514) (0 ∷ 1 ∷ 6 ∷ 7 ∷ []) ≡ 0 ∷ 1 ∷ 1 ∷ 2 ∷ []
unfolding singles_among
singles_on_open_weekdays = refl

days_that_repeat : map has_repeat ([] ∷ (1 ∷ 2 ∷ []) ∷ (1 ∷ 2 ∷ 1 ∷ []) ∷ (3 ∷ 1 ∷ 1 ∷ []) ∷ []) ≡ false ∷ false ∷ true ∷ true ∷ []
days_that_repeat = refl

weeks_with_an_open_day : map has_open_weekday (sundays ∷ (true ∷ true ∷ true ∷ true ∷ true ∷ true ∷ true ∷ []) ∷ (true ∷ true ∷ true ∷ true ∷ true ∷ true ∷ false ∷ []) ∷ [])
    ≡ true ∷ false ∷ true ∷ []
weeks_with_an_open_day = refl
