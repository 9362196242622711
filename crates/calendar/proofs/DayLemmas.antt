-- A day number has one date, and a date one text.
use Rattle.std.proofs.Common.{◌≡◌, ℕ, zero, suc, ◌+◌, ◌/◌, ◌%◌, ◌<◌, ◌≤◌, arith, refl, ℤ, pos, sym, subst, ◌∙◌, List, Bool, true, false}
use Rattle.std.proofs.lemmas.Bool.Decides.{nat_tests}
use Rattle.std.specs.Prelude.{nat_lt, if◌then◌else◌}
use Rattle.jiff_core.specs.Calendar.{IsCivilDate, days_from_civil, days_in_month, day_count, IsYear}
use Rattle.jiff_core.specs.Date.{epoch_day}
use Rattle.jiff_core.specs.declared.civil.date.Date.{Date}
use Rattle.jiff_core.proofs.CalendarLemmas.{days_in_month_bounds, day_count-end, day_count-epoch, days_from_civil-day_count}
use Rattle.jiff_core.proofs.DateLemmas.{epoch_day_injective, days_from_civil-day, days_from_civil-next_month, days_from_civil-next_year}
use Rattle.jiff_core.proofs.SignedLemmas.{signed_arith}
use Rattle.calendar.specs.Days.{IsDateOf, Civil, civil_of, day_text, date_text}

-- the date is in the calendar, from 1970 on, and has that number
pub record IsCivilOf (c : Civil) (n : ℕ) : Type 0 where
  pub exists : IsCivilDate (pos c.year) c.month c.day
  pub numbered : days_from_civil (pos c.year) c.month c.day ≡ pos n

later_day : (c : Civil) (n : ℕ) → c.day < days_in_month (pos c.year) c.month → IsCivilOf c n
    → IsCivilOf (record { year = c.year; month = c.month; day = c.day + 1 }) (suc n)
later_day c n lt h = record {
  exists = (h.exists.0, h.exists.1, (omega arith, omega arith));
  numbered = let e = days_from_civil-day (pos c.year) c.month c.day (c.day + 1) h.exists.2.0 (omega arith) in omega (arith, signed_arith, e, h.numbered);
}

later_month : (c : Civil) (n : ℕ) → days_in_month (pos c.year) c.month ≤ c.day → c.month < 12 → IsCivilOf c n
    → IsCivilOf (record { year = c.year; month = c.month + 1; day = 1 }) (suc n)
later_month c n last lt h = record {
  exists = (h.exists.0, (omega arith, omega arith), (omega arith, omega (arith, days_in_month_bounds (pos c.year) (c.month + 1))));
  numbered = let e = days_from_civil-next_month (pos c.year) c.month c.day h.exists.1.0 (omega (arith, h.exists)) in omega (arith, signed_arith, e, h.numbered);
}

december : (y : ℤ) (m : ℕ) → m ≡ 12 → days_in_month y m ≡ 31
december y m e = rw e refl

-- a year that ends by that day is not the last of the library
year_in : (y n : ℕ) → n < 2_932_896 → IsYear (pos y) → days_from_civil (pos y) 12 31 ≡ pos n → IsYear (pos (y + 1))
year_in y n small in_range end =
    let next = days_from_civil-next_year (pos y) (pos (y + 1)) (omega (arith, signed_arith)) (omega (arith, signed_arith)) in
    let count = days_from_civil-day_count (pos (y + 1)) 1 1 in
    let last : y ≡ 9999 → day_count (pos (y + 1)) 1 1 ≡ 7_304_850 = λ (e : y ≡ 9999). rw e day_count-end in
    let not_last : y ≡ 9999 → ⊥ = λ (e : y ≡ 9999). omega (arith, signed_arith, next, count, last e, end) in
    (omega (arith, signed_arith), omega (arith, signed_arith))

later_year : (c : Civil) (n : ℕ) → days_in_month (pos c.year) c.month ≤ c.day → 12 ≤ c.month → n < 2_932_896 → IsCivilOf c n
    → IsCivilOf (record { year = c.year + 1; month = 1; day = 1 }) (suc n)
later_year c n last past small h =
    let e12 : c.month ≡ 12 = omega (arith, h.exists) in
    let long : days_in_month (pos c.year) c.month ≡ 31 = december (pos c.year) c.month e12 in
    let e31 : c.day ≡ 31 = omega (arith, h.exists) in
    let end : days_from_civil (pos c.year) 12 31 ≡ pos n =
    subst (λ (m : ℕ). days_from_civil (pos c.year) m 31 ≡ pos n) e12
    (subst (λ (d : ℕ). days_from_civil (pos c.year) c.month d ≡ pos n) e31 h.numbered) in
    let next = days_from_civil-next_year (pos c.year) (pos (c.year + 1)) (omega (arith, signed_arith)) (omega (arith, signed_arith)) in
    record {
      exists = (year_in c.year n small h.exists.0 end, (omega arith, omega arith), (omega arith, omega arith));
      numbered = omega (arith, signed_arith, next, end);
    }

after_is : (c : Civil) (n : ℕ) (more months : Bool) → nat_lt c.day (days_in_month (pos c.year) c.month) ≡ more → nat_lt c.month 12 ≡ months
    → n < 2_932_896 → IsCivilOf c n
    → IsCivilOf (if more then record { year = c.year; month = c.month; day = c.day + 1 } else
    (if months then record { year = c.year; month = c.month + 1; day = 1 } else record { year = c.year + 1; month = 1; day = 1 }))
    (suc n)
after_is c n true months p q small h = later_day c n (grind (arith, nat_tests)) h
after_is c n false true p q small h = later_month c n (grind (arith, nat_tests)) (grind (arith, nat_tests)) h
after_is c n false false p q small h = later_year c n (grind (arith, nat_tests)) (grind (arith, nat_tests)) small h

pub civil_of_is : (n : ℕ) → n ≤ 2_932_896 → IsCivilOf (civil_of n) n
unfolding civil_of
civil_of_is zero h = record {
  exists = (
    (omega (arith, signed_arith), omega (arith, signed_arith)),
    (omega arith, omega arith),
    (omega arith, omega arith),
  );
  numbered = let count = days_from_civil-day_count (pos 1970) 1 1 in
      omega (arith, signed_arith, count, day_count-epoch);
}
civil_of_is (suc n) h = after_is (civil_of n) n _ _ refl refl (omega arith) (civil_of_is n (omega arith))

date_from : (y : ℤ) (m d : ℕ) → IsCivilDate y m d → Date
date_from y m d h = record { year = y; month = m; day = d; year_in = h.0; month_in = h.1; day_in = h.2 }

-- two dates with one number are one date
same_civil : (y₁ m₁ d₁ y₂ m₂ d₂ : ℕ) → IsCivilDate (pos y₁) m₁ d₁ → IsCivilDate (pos y₂) m₂ d₂
    → days_from_civil (pos y₁) m₁ d₁ ≡ days_from_civil (pos y₂) m₂ d₂ → (y₁ ≡ y₂) × (m₁ ≡ m₂) × (d₁ ≡ d₂)
unfolding date_from
same_civil y₁ m₁ d₁ y₂ m₂ d₂ h₁ h₂ e =
    let same = epoch_day_injective (date_from (pos y₁) m₁ d₁ h₁) (date_from (pos y₂) m₂ d₂ h₂) e in
    let y : pos y₁ ≡ pos y₂ = same.0 in
    (cc, same.1, same.2)

-- the text of a day is its date
pub IsDateOf-day_text : (n : ℕ) → n ≤ 2_932_896 → IsDateOf (day_text n) n
unfolding day_text
IsDateOf-day_text n small =
    let h = civil_of_is n small in
    let c = civil_of n in
    record {
      year = c.year;
      month = c.month;
      day = c.day;
      four_digits = omega (arith, signed_arith, h.exists);
      exists = h.exists;
      written = refl;
      numbered = h.numbered;
    }

-- and no other text is
pub date-is_day_text : (t : List ℕ) (n : ℕ) → n ≤ 2_932_896 → IsDateOf t n → t ≡ day_text n
unfolding day_text
date-is_day_text t n small d =
    let h = civil_of_is n small in
    let c = civil_of n in
    let same = same_civil d.year d.month d.day c.year c.month c.day d.exists h.exists (d.numbered ∙ sym h.numbered) in
    let e0 = same.0 in
    let e1 = same.1 in
    let e2 = same.2 in
    d.written ∙ cc

digits_same : (m n : ℕ) → m < 100 → n < 100 → 48 + m / 10 ≡ 48 + n / 10 → 48 + m % 10 ≡ 48 + n % 10 → m ≡ n
digits_same m n a b p q = omega arith

date_text_injective : (y₁ m₁ d₁ y₂ m₂ d₂ : ℕ) → y₁ ≤ 9999 → y₂ ≤ 9999 → m₁ < 100 → m₂ < 100 → d₁ < 100 → d₂ < 100
    → date_text y₁ m₁ d₁ ≡ date_text y₂ m₂ d₂ → (y₁ ≡ y₂) × (m₁ ≡ m₂) × (d₁ ≡ d₂)
date_text_injective y₁ m₁ d₁ y₂ m₂ d₂ a b c d f g e =
    let century : y₁ / 100 ≡ y₂ / 100 = digits_same (y₁ / 100) (y₂ / 100) (omega arith) (omega arith) (cc) (cc) in
    let year : y₁ % 100 ≡ y₂ % 100 = digits_same (y₁ % 100) (y₂ % 100) (omega arith) (omega arith) (cc) (cc) in
    (omega arith, digits_same m₁ m₂ c d (cc) (cc), digits_same d₁ d₂ f g (cc) (cc))

-- a text is the date of one day at most
pub IsDateOf-unique : (t : List ℕ) (m n : ℕ) → IsDateOf t m → IsDateOf t n → m ≡ n
IsDateOf-unique t m n a b =
    let la = days_in_month_bounds (pos a.year) a.month in
    let lb = days_in_month_bounds (pos b.year) b.month in
    let same = date_text_injective a.year a.month a.day b.year b.month b.day a.four_digits b.four_digits
    (omega (arith, a.exists)) (omega (arith, b.exists)) (omega (arith, a.exists, la)) (omega (arith, b.exists, lb)) (sym a.written ∙ b.written) in
    let e0 = same.0 in
    let e1 = same.1 in
    let e2 = same.2 in
    let number : days_from_civil (pos a.year) a.month a.day ≡ days_from_civil (pos b.year) b.month b.day = cc in
    let one : pos m ≡ pos n = sym a.numbered ∙ (number ∙ b.numbered) in
    cc

pub day_text_injective : (m n : ℕ) → m ≤ 2_932_896 → n ≤ 2_932_896 → day_text m ≡ day_text n → m ≡ n
day_text_injective m n p q e =
    IsDateOf-unique (day_text n) m n (subst (λ (t : List ℕ). IsDateOf t m) e (IsDateOf-day_text m p)) (IsDateOf-day_text n q)

-- the date with that number has the parts of `civil_of`
pub civil_of_parts : (date : Date) (n : ℕ) → n ≤ 2_932_896 → epoch_day date ≡ pos n
    → (date.year ≡ pos (civil_of n).year) × (date.month ≡ (civil_of n).month) × (date.day ≡ (civil_of n).day)
    × ((civil_of n).year ≤ 9999) × ((civil_of n).month ≤ 12) × ((civil_of n).day ≤ 31)
unfolding date_from
civil_of_parts date n small e =
    let h = civil_of_is n small in
    let c = civil_of n in
    let same = epoch_day_injective date (date_from (pos c.year) c.month c.day h.exists) (e ∙ sym h.numbered) in
    (same.0, same.1, same.2, omega (arith, signed_arith, h.exists), omega (arith, h.exists), omega (arith, h.exists, days_in_month_bounds (pos c.year) c.month))

pub day_text-is : (n : ℕ) → date_text (civil_of n).year (civil_of n).month (civil_of n).day ≡ day_text n
unfolding day_text
day_text-is n = refl

-- the text of a day has its year in four digits, its month and its day
pub day_text-written : (n : ℕ) → n ≤ 2_932_896 → (y : ℕ) × (m : ℕ) × (d : ℕ) × (y ≤ 9999) × (m ≤ 12) × (d ≤ 31) × (day_text n ≡ date_text y m d)
day_text-written n small =
    let date = IsDateOf-day_text n small in
    let days = days_in_month_bounds (pos date.year) date.month in
    (date.year, date.month, date.day, date.four_digits, omega (arith, date.exists), omega (arith, date.exists, days), date.written)
