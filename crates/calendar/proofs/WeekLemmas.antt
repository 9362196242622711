-- Open weekdays counted week by week, and the single days that fall on them.
use Rattle.std.proofs.Common.{◌≡◌, ◌≢◌, ℕ, zero, suc, ◌+◌, ◌-◌, ◌*◌, ◌/◌, ◌%◌, ◌<◌, ◌≤◌, ◌⊎◌, List, [], ◌∷◌, ◌++◌, length, get_or, Bool}
use Rattle.std.proofs.Common.{true, false, not, ◌&&◌, ◌||◌, sym, ◌∙◌, refl, ap, arith, inl, inr}
use Rattle.std.specs.Prelude.{◌==◌, nat_lt, nat_le, if◌then◌else◌, slice_index_or}
use Rattle.std.proofs.Math.Nat.{suc-mul}
use Rattle.std.proofs.lemmas.Bool.{cases_order}
use Rattle.std.proofs.lemmas.Bool.Decides.{nat_tests, Decides-eqb}
use Rattle.calendar.specs.Days.{IsDayNumber}
use Rattle.calendar.specs.Openings.{Closings, has_day, has_repeat, is_open, is_single, is_weekly, open_among, open_days_after}
use Rattle.calendar.specs.Weeks.{is_closed_weekday, open_weekdays_among, singles_among}
use Rattle.calendar.proofs.OpeningLemmas.{is_open-inside, is_open-weekly}

-- ---- whole weeks

abbrev one_open : List Bool → ℕ → ℕ
one_open w d = if is_closed_weekday w d then 0 else 1

pub open_weekdays_among-none : (w : List Bool) (d n : ℕ) → n ≡ 0 → open_weekdays_among w d n ≡ 0
unfolding open_weekdays_among
open_weekdays_among-none w d n e = rw e refl

open_weekdays_among-more : (w : List Bool) (d n k : ℕ) → k ≡ suc n → open_weekdays_among w d k ≡ open_weekdays_among w d n + one_open w (d + suc n)
unfolding open_weekdays_among
open_weekdays_among-more w d n k e = rw e refl

pub open_weekdays_among-open : (w : List Bool) (d n k e : ℕ) → k ≡ suc n → e ≡ d + suc n → is_closed_weekday w e ≡ false
    → open_weekdays_among w d k ≡ open_weekdays_among w d n + 1
open_weekdays_among-open w d n k e p q o = open_weekdays_among-more w d n k p ∙ rw (← q, o) refl

pub open_weekdays_among-closed : (w : List Bool) (d n k e : ℕ) → k ≡ suc n → e ≡ d + suc n → is_closed_weekday w e ≡ true
    → open_weekdays_among w d k ≡ open_weekdays_among w d n
open_weekdays_among-closed w d n k e p q o = open_weekdays_among-more w d n k p ∙ rw (← q, o) (omega arith)

pub open_weekdays_among-le : (w : List Bool) (d n : ℕ) → open_weekdays_among w d n ≤ n
open_weekdays_among-le w d zero = let e = open_weekdays_among-none w d 0 refl in omega arith
open_weekdays_among-le w d (suc n) =
    last (is_closed_weekday w (d + suc n)) (open_weekdays_among w d n) (open_weekdays_among w d (suc n)) (open_weekdays_among-le w d n)
    (open_weekdays_among-more w d n (suc n) refl)
  where
    last : (b : Bool) (m k : ℕ) → m ≤ n → k ≡ m + (if b then 0 else 1) → k ≤ suc n
    last true m k h e = omega arith
    last false m k h e = omega arith

-- the weekday comes again after seven days
one_open-week : (w : List Bool) (d e : ℕ) → e ≡ d + 7 → one_open w e ≡ one_open w d
one_open-week w d e h = ap (λ (i : ℕ). if slice_index_or w i false then 0 else 1) (omega arith)

open_weekdays_among-week : (w : List Bool) (d m : ℕ) → open_weekdays_among w d (m + 7) ≡ open_weekdays_among w d m + open_weekdays_among w d 7
open_weekdays_among-week w d zero = let none = open_weekdays_among-none w d 0 refl in omega arith
open_weekdays_among-week w d (suc m) =
    let before = open_weekdays_among-week w d m in
    let last = open_weekdays_among-more w d (m + 7) (suc m + 7) (omega arith) in
    let same = one_open-week w (d + suc m) (d + suc (m + 7)) (omega arith) in
    let first = open_weekdays_among-more w d m (suc m) refl in
    omega arith

open_weekdays_among-weeks : (w : List Bool) (d r k : ℕ) → open_weekdays_among w d (r + 7 * k) ≡ k * open_weekdays_among w d 7 + open_weekdays_among w d r
open_weekdays_among-weeks w d r zero = let e : r + 7 * 0 ≡ r = omega arith in rw e (omega arith)
open_weekdays_among-weeks w d r (suc k) =
    let before = open_weekdays_among-weeks w d r k in
    let e : r + 7 * suc k ≡ r + 7 * k + 7 = omega arith in
    let longer = ap (open_weekdays_among w d) e in
    let week = open_weekdays_among-week w d (r + 7 * k) in
    let times : suc k * open_weekdays_among w d 7 ≡ k * open_weekdays_among w d 7 + open_weekdays_among w d 7 = suc-mul k (open_weekdays_among w d 7) in
    omega arith

-- whole weeks, and the rest
pub open_weekdays_among-split : (w : List Bool) (d n : ℕ) → open_weekdays_among w d n ≡ n / 7 * open_weekdays_among w d 7 + open_weekdays_among w d (n % 7)
open_weekdays_among-split w d n =
    let e : n ≡ n % 7 + 7 * (n / 7) = omega arith in
    ap (open_weekdays_among w d) e ∙ open_weekdays_among-weeks w d (n % 7) (n / 7)

-- ---- single days among them

abbrev one_single : List Bool → List ℕ → ℕ → ℕ
one_single w days d = if has_day days d && not (is_closed_weekday w d) then 1 else 0

singles_among-none : (w : List Bool) (days : List ℕ) (d n : ℕ) → n ≡ 0 → singles_among w days d n ≡ 0
unfolding singles_among
singles_among-none w days d n e = rw e refl

singles_among-more : (w : List Bool) (days : List ℕ) (d n : ℕ) → singles_among w days d (suc n) ≡ singles_among w days d n + one_single w days (d + suc n)
unfolding singles_among
singles_among-more w days d n = refl

open_among-zero : (c : Closings) (d : ℕ) → open_among c d 0 ≡ 0
unfolding open_among
open_among-zero c d = refl

open_among-more : (c : Closings) (d n : ℕ) → open_among c d (suc n) ≡ open_among c d n + (if is_open c (d + suc n) then 1 else 0)
unfolding open_among
open_among-more c d n = refl

-- a day of the calendar on an open weekday is open, or closed singly
one_day : (c : Closings) (d : ℕ) → IsDayNumber d → (if is_open c d then 1 else 0) + one_single c.weekly c.single d ≡ one_open c.weekly d
one_day c d h = by_weekday (is_weekly c d) refl
  where
    by_single : (s : Bool) → (if not s then 1 else 0) + (if s && true then 1 else 0) ≡ 1
    by_single true = refl
    by_single false = refl

    none : (s : Bool) → 0 + (if s && false then 1 else 0) ≡ 0
    none true = refl
    none false = refl

    by_weekday : (b : Bool) → is_weekly c d ≡ b → (if is_open c d then 1 else 0) + one_single c.weekly c.single d ≡ one_open c.weekly d
    by_weekday true w = rw (is_open-weekly c d h w, w) (none (is_single c d))
    by_weekday false w = rw (is_open-inside c d h w, w) (by_single (is_single c d))

-- the open days and the single days make the days on open weekdays
pub open_among-singles : (c : Closings) (d n : ℕ) → 10957 ≤ d → d + n ≤ 84005
    → open_among c d n + singles_among c.weekly c.single d n ≡ open_weekdays_among c.weekly d n
open_among-singles c d zero low high =
    let a = open_among-zero c d in
    let b = singles_among-none c.weekly c.single d 0 refl in
    let e = open_weekdays_among-none c.weekly d 0 refl in
    omega arith
open_among-singles c d (suc n) low high =
    let before = open_among-singles c d n low (omega arith) in
    let a = open_among-more c d n in
    let b = singles_among-more c.weekly c.single d n in
    let e = open_weekdays_among-more c.weekly d n (suc n) refl in
    let day = one_day c (d + suc n) (omega arith, omega arith) in
    omega arith

-- what weeks, the rest and the single days come to
pub record IsCounted (c : Closings) (due today whole closed : ℕ) : Type 0 where
  pub small : whole ≤ 73048
  pub enough : closed ≤ whole
  pub counted : whole - closed ≡ open_days_after c due today

pub IsCounted-weeks : (c : Closings) (due today days week rest closed : ℕ) → IsDayNumber due → IsDayNumber today → days ≡ today - due
    → week ≡ open_weekdays_among c.weekly due 7 → rest ≡ open_weekdays_among c.weekly due (days % 7)
    → closed ≡ singles_among c.weekly c.single due (today - due)
    → IsCounted c due today (days / 7 * week + rest) closed
IsCounted-weeks c due today days week rest closed h k long weekly left struck =
    let whole : days / 7 * week + rest ≡ open_weekdays_among c.weekly due (today - due) =
    rw (weekly, left, long) (sym (open_weekdays_among-split c.weekly due (today - due))) in
    let sum = open_among-singles c due (today - due) h.0 (omega (arith, h.1, k.1)) in
    let bound = open_weekdays_among-le c.weekly due (today - due) in
    record {
      small = omega (arith, h.0, k.1, whole, bound);
      enough = omega (arith, whole, sum, struck);
      counted = omega (arith, whole, sum, struck);
    }

-- ---- the same count, along the list

-- one for a test that holds
abbrev one_if : Bool → ℕ
one_if b = if b then 1 else 0

-- whether a day counts
abbrev counts : List Bool → ℕ → ℕ → ℕ → Bool
counts w d n e = nat_lt d e && (nat_le e (d + n) && not (is_closed_weekday w e))

abbrev one_listed : List Bool → ℕ → ℕ → ℕ → ℕ
one_listed w d n e = one_if (counts w d n e)

-- how many of these days count
abbrev pub listed : List Bool → ℕ → ℕ → List ℕ → ℕ
listed w d n [] = 0
listed w d n (e ∷ days) = one_listed w d n e + listed w d n days

out_of : (a b c : Bool) → (a ≡ false) ⊎ (b ≡ false) → one_if (a && (b && c)) ≡ 0
out_of true true c (inl p) = cc
out_of true true c (inr p) = cc
out_of true false c h = refl
out_of false b c h = refl

pub one_listed-outside : (w : List Bool) (d n e : ℕ) → (e ≤ d) ⊎ (d + n < e) → one_listed w d n e ≡ 0
one_listed-outside w d n e (inl before) = out_of (nat_lt d e) (nat_le e (d + n)) (not (is_closed_weekday w e)) (inl (grind (arith, nat_tests)))
one_listed-outside w d n e (inr after) = out_of (nat_lt d e) (nat_le e (d + n)) (not (is_closed_weekday w e)) (inr (grind (arith, nat_tests)))

pub one_listed-open : (w : List Bool) (d n e : ℕ) → d < e → e ≤ d + n → is_closed_weekday w e ≡ false → one_listed w d n e ≡ 1
one_listed-open w d n e p q o =
    let a : nat_lt d e ≡ true = grind (arith, nat_tests) in
    let b : nat_le e (d + n) ≡ true = grind (arith, nat_tests) in
    rw (a, b, o) refl

pub one_listed-closed : (w : List Bool) (d n e : ℕ) → d < e → e ≤ d + n → is_closed_weekday w e ≡ true → one_listed w d n e ≡ 0
one_listed-closed w d n e p q o =
    let a : nat_lt d e ≡ true = grind (arith, nat_tests) in
    let b : nat_le e (d + n) ≡ true = grind (arith, nat_tests) in
    rw (a, b, o) refl

-- a day that isn't the last counts as it does without the last
one_listed-other : (w : List Bool) (d n e : ℕ) → e ≢ d + suc n → one_listed w d (suc n) e ≡ one_listed w d n e
one_listed-other w d n e h =
    let same : nat_le e (d + suc n) ≡ nat_le e (d + n) = grind (arith, nat_tests) in
    ap (λ (b : Bool). if nat_lt d e && (b && not (is_closed_weekday w e)) then 1 else 0) same

one_listed-last : (w : List Bool) (d n e : ℕ) → e ≡ d + suc n → one_listed w d (suc n) e ≡ one_open w e
one_listed-last w d n e h = by_weekday (is_closed_weekday w e) refl
  where
    by_weekday : (b : Bool) → is_closed_weekday w e ≡ b → one_listed w d (suc n) e ≡ one_open w e
    by_weekday true o = one_listed-closed w d (suc n) e (omega arith) (omega arith) o ∙ rw o refl
    by_weekday false o = one_listed-open w d (suc n) e (omega arith) (omega arith) o ∙ rw o refl

-- one day more, which isn't there yet
singles_among-cons : (w : List Bool) (x : ℕ) (days : List ℕ) (d n : ℕ) → has_day days x ≡ false
    → singles_among w (x ∷ days) d n ≡ one_listed w d n x + singles_among w days d n
singles_among-cons w x days d zero new =
    let a = singles_among-none w (x ∷ days) d 0 refl in
    let b = singles_among-none w days d 0 refl in
    let e = one_listed-outside w d 0 x
    (elim (cases_order x d) [
      | inl same ↦ inl (omega arith)
      | inr apart ↦ elim apart
          [ inl below ↦ inl (omega arith) | inr above ↦ inr (omega arith) ]
    ]) in
    omega arith
singles_among-cons w x days d (suc n) new =
    let before = singles_among-cons w x days d n new in
    let a = singles_among-more w (x ∷ days) d n in
    let b = singles_among-more w days d n in
    let step = last (x == d + suc n) refl in
    omega arith
  where
    by_weekday : (o : Bool) → 0 + one_if (true && not o) ≡ (if o then 0 else 1) + one_if (false && not o)
    by_weekday true = refl
    by_weekday false = refl

    last : (b : Bool) → (x == d + suc n) ≡ b
        → one_listed w d n x + one_single w (x ∷ days) (d + suc n) ≡ one_listed w d (suc n) x + one_single w days (d + suc n)
    last true p =
        let same : x ≡ d + suc n = (Decides-eqb x (d + suc n)).0 p in
        let gone = one_listed-outside w d n x (inr (omega arith)) in
        let counted = one_listed-last w d n x same in
        let self : (x == x) ≡ true = (Decides-eqb x x).1 refl in
        rw (gone, counted, ← same, self, new) (by_weekday (is_closed_weekday w x))
    last false p =
        let other = one_listed-other w d n x (λ e. let t = (Decides-eqb x (d + suc n)).1 e in cc) in
        rw (p, other) refl

singles_among-empty : (w : List Bool) (d n : ℕ) → singles_among w [] d n ≡ 0
singles_among-empty w d zero = singles_among-none w [] d 0 refl
singles_among-empty w d (suc n) = let before = singles_among-empty w d n in let a = singles_among-more w [] d n in omega arith

pub no_repeat : (a b : Bool) → (a || b) ≡ false → (a ≡ false) × (b ≡ false)
no_repeat true b e = absurd cc
no_repeat false b e = (refl, e)

pub singles_among-listed : (w : List Bool) (days : List ℕ) (d n : ℕ) → has_repeat days ≡ false → singles_among w days d n ≡ listed w d n days
singles_among-listed w [] d n h = singles_among-empty w d n
singles_among-listed w (x ∷ days) d n h =
    let p = no_repeat (has_day days x) (has_repeat days) h in
    let more = singles_among-cons w x days d n p.0 in
    let rest = singles_among-listed w days d n p.1 in
    omega arith

pub listed-append : (w : List Bool) (d n : ℕ) (xs ys : List ℕ) → listed w d n (xs ++ ys) ≡ listed w d n xs + listed w d n ys
listed-append w d n [] ys = omega arith
listed-append w d n (x ∷ xs) ys = let rest = listed-append w d n xs ys in omega arith

pub listed-outside : (w : List Bool) (d n : ℕ) (xs : List ℕ) → ((i : ℕ) → i < length xs → (get_or xs i 0 ≤ d) ⊎ (d + n < get_or xs i 0)) → listed w d n xs ≡ 0
listed-outside w d n [] h = refl
listed-outside w d n (x ∷ xs) h =
    let rest = listed-outside w d n xs (λ i lt. h (suc i) (omega arith)) in
    let first = one_listed-outside w d n x (h 0 (omega arith)) in
    omega arith
