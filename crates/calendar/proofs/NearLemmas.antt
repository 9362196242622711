-- An open day is near: 400 single days close no more than 400 of 401 weeks' days of an open weekday.
use Rattle.std.proofs.Common.{◌≡◌, ℕ, zero, suc, ◌+◌, ◌-◌, ◌*◌, ◌%◌, ◌<◌, ◌≤◌, List, [], ◌∷◌, length, Bool, true, false, not, ◌||◌, sym}
use Rattle.std.proofs.Common.{◌∙◌, refl, arith, subst, inl, inr, nat_eq, Option, Some, None}
use Rattle.std.specs.Prelude.{◌==◌, IfNone, IfSome, IsSome, slice_index_or}
use Rattle.std.specs.Option.{SomeIff}
use Rattle.std.specs.List.{list_any, IsDistinct, AllByRecursion}
use Rattle.std.specs.Cmp.{nat_eq_equiv}
use Rattle.std.proofs.lemmas.Bool.{cases_order}
use Rattle.std.proofs.lemmas.Bool.Decides.{nat_tests, Decides-eqb}
use Rattle.std.proofs.lemmas.Map.Made.{length-le_from_is_member}
use Rattle.calendar.specs.Days.{IsDayNumber}
use Rattle.calendar.specs.Weeks.{IsOpenFrom, is_closed_weekday}
use Rattle.calendar.specs.Openings.{Closings, AreClosings, AreWeekdays, IsLeastOpen, has_day, has_open_weekday, is_open, is_single, is_weekly, weekday}
use Rattle.calendar.proofs.OpeningLemmas.{is_open-inside}
use Rattle.calendar.proofs.SinglesLemmas.{IsLeastOpen-IsOpenFrom, none_open-IsOpenFrom}

-- n days, each a week after the one before
abbrev weeks_from : ℕ → ℕ → List ℕ
weeks_from x zero = []
weeks_from x (suc n) = x ∷ weeks_from (x + 7) n

length-weeks_from : (x n : ℕ) → length (weeks_from x n) ≡ n
length-weeks_from x zero = refl
length-weeks_from x (suc n) = rw (length-weeks_from (x + 7) n) refl

later : (x y n : ℕ) → x < y → AllByRecursion (λ z. nat_eq x z ≡ false) (weeks_from y n)
later x y zero h = tt
later x y (suc n) h = (grind (arith, nat_tests), later x (y + 7) n (omega arith))

distinct : (x n : ℕ) → IsDistinct nat_eq (weeks_from x n)
unfolding IsDistinct
distinct x zero = tt
distinct x (suc n) = (later x (x + 7) n (omega arith), distinct (x + 7) n)

-- a day among them
record IsWeekFrom (x n q : ℕ) : Type 0 where
  pub from : x ≤ q
  pub below : q < x + 7 * n
  pub same : weekday q ≡ weekday x

member : (x n q : ℕ) → list_any (nat_eq q) (weeks_from x n) ≡ true → IsWeekFrom x n q
member x zero q h = absurd cc
member x (suc n) q h = one x n q _ refl h (member (x + 7) n q)
  where
    one : (x n q : ℕ) (b : Bool) → nat_eq q x ≡ b → (b || list_any (nat_eq q) (weeks_from (x + 7) n)) ≡ true
        → (list_any (nat_eq q) (weeks_from (x + 7) n) ≡ true → IsWeekFrom (x + 7) n q) → IsWeekFrom x (suc n) q
    one x n q true e h rest = let same : q ≡ x = (Decides-eqb q x).0 e in record { from = omega arith; below = omega arith; same = rw same refl }
    one x n q false e h rest = let r = rest h in record { from = omega (arith, r.from); below = omega (arith, r.below); same = omega (arith, r.same) }

turned : (days : List ℕ) (q : ℕ) → has_day days q ≡ true → list_any (nat_eq q) days ≡ true
turned [] q h = absurd cc
turned (x ∷ days) q h = one (x == q) (nat_eq q x) (grind (arith, nat_tests)) h (turned days q)
  where
    one : {a b : Bool} (s t : Bool) → s ≡ t → (s || a) ≡ true → (a ≡ true → b ≡ true) → (t || b) ≡ true
    one s true e h f = refl
    one true false e h f = absurd cc
    one false false e h f = f h

-- a weekday that is open
open_weekday : (weekly : List Bool) → has_open_weekday weekly ≡ true → (j : ℕ) × (j < length weekly) × (slice_index_or weekly j false ≡ false)
open_weekday [] h = absurd cc
open_weekday (false ∷ weekly) h = (0, omega arith, refl)
open_weekday (true ∷ weekly) h = let r = open_weekday weekly h in (suc r.0, omega (arith, r.1), r.2)

-- the first day from d on that has it
first_of_weekday : (d j : ℕ) → j < 7 → (x : ℕ) × (d ≤ x) × (x < d + 7) × (weekday x ≡ j)
first_of_weekday d j h = elim (cases_order ((d + 3) % 7) j) [
  | inl same ↦ (d, omega arith, omega arith, same)
  | inr apart ↦ elim apart [
    | inl below ↦ (d + (j - (d + 3) % 7), omega arith, omega arith, omega arith)
    | inr above ↦ (d + (j + 7 - (d + 3) % 7), omega arith, omega arith, omega arith)
  ]
]

-- no seven days in a row are all on closed weekdays
week_has_open : (w : List Bool) (d : ℕ) → AreWeekdays w → ((k : ℕ) → d ≤ k → k < d + 7 → is_closed_weekday w k ≡ true) → ⊥
week_has_open w d h closed =
    let o = open_weekday w h.some_open in
    let f = first_of_weekday d o.0 (omega (arith, o.1, h.seven)) in
    let opened : is_closed_weekday w f.0 ≡ false = subst (λ (i : ℕ). slice_index_or w i false ≡ false) (sym f.3) o.2 in
    let shut : is_closed_weekday w f.0 ≡ true = closed f.0 f.1 f.2 in
    cc

-- one closed weekday more, after so many that an open one is left
pub closed_further : (w : List Bool) (d n : ℕ) → AreWeekdays w → d ≤ n → n ≤ d + 6 → is_closed_weekday w n ≡ true
    → ((k : ℕ) → d ≤ k → k < n → is_closed_weekday w k ≡ true)
    → (n + 1 ≤ d + 6) × ((k : ℕ) → d ≤ k → k < n + 1 → is_closed_weekday w k ≡ true)
closed_further w d n h from near here closed = (
  elim (cases_order n (d + 6)) [
    | inl same ↦ absurd (week_has_open w d h (λ k a b. further k a (omega arith)))
    | inr apart ↦ elim apart [ inl below ↦ omega arith | inr above ↦ omega arith ]
  ],
  further,
)
  where
    further : (k : ℕ) → d ≤ k → k < n + 1 → is_closed_weekday w k ≡ true
    further k a b = elim (cases_order k n) [
      | inl same ↦ subst (λ (i : ℕ). is_closed_weekday w i ≡ true) (sym same) here
      | inr apart ↦ elim apart [ inl below ↦ closed k a below | inr above ↦ absurd (omega arith) ]
    ]

single_then : (c : Closings) (d : ℕ) → IsDayNumber d → is_weekly c d ≡ false → is_open c d ≡ false → is_single c d ≡ true
single_then c d h w e = turn (is_single c d) (sym (is_open-inside c d h w) ∙ e)
  where
    turn : (b : Bool) → not b ≡ false → b ≡ true
    turn true p = refl
    turn false p = absurd cc

-- not all of one day more than there are single days, each a week apart, are closed
never_all : (c : Closings) (d : ℕ) → AreClosings c → 10957 ≤ d → d + 2806 ≤ 84005 → ((k : ℕ) → d ≤ k → k ≤ d + 2806 → is_open c k ≡ false) → ⊥
never_all c d h low high closed =
    let w = open_weekday c.weekly h.weekdays.some_open in
    let f = first_of_weekday d w.0 (omega (arith, w.1, h.weekdays.seven)) in
    let x = f.0 in
    let n = suc (length c.single) in
    let too_many : length (weeks_from x n) ≤ length c.single = length-le_from_is_member nat_eq_equiv (weeks_from x n) c.single (distinct x n) (λ q m.
    let r = member x n q m in
    turned c.single q (single_then c q (omega (arith, r.from, f.1), omega (arith, r.below, f.2, h.few))
    (subst (λ (i : ℕ). slice_index_or c.weekly i false ≡ false) (sym (r.same ∙ f.3)) w.2)
    (closed q (omega (arith, r.from, f.1)) (omega (arith, r.below, f.2, h.few))))) in
    omega (arith, too_many, length-weeks_from x n)

-- the least open day from d on is at most 2806 days later
pub IsLeastOpen-near : (c : Closings) (d e : ℕ) → AreClosings c → 10957 ≤ d → e ≤ 84005 → IsLeastOpen c d e → e ≤ d + 2806
IsLeastOpen-near c d e h low high l = elim (cases_order e (d + 2806)) [
  | inl same ↦ omega arith
  | inr apart ↦ elim apart [ inl below ↦ omega arith | inr above ↦ absurd (never_all c d h low (omega arith) (λ k from until. l.2 k from (omega arith))) ]
]

-- and it is there while so many days are left
pub none_open-near : (c : Closings) (d : ℕ) → AreClosings c → 10957 ≤ d → ((k : ℕ) → d ≤ k → is_open c k ≡ false) → d + 2806 ≤ 84005 → ⊥
none_open-near c d h low closed high = never_all c d h low high (λ k from until. closed k from)

-- ---- the first open day number, as a day

pub least_some : (r : Option ℕ) (c : Closings) (day e : ℕ) → SomeIff r (IsDayNumber e) e → IsOpenFrom c day e → IfSome r (IsLeastOpen c day)
least_some None c day e h o = tt
least_some (Some x) c day e h o = rw h.1 (IsLeastOpen-IsOpenFrom c day e o h.0)

-- a number that is no day of the calendar, and not before it
past : (day e : ℕ) → 10957 ≤ day → day ≤ e → (IsDayNumber e → ⊥) → 84005 < e
past day e low from h = elim (cases_order e 84005) [
  | inl same ↦ absurd (h (omega arith, omega arith))
  | inr apart ↦ elim apart [ inl below ↦ absurd (h (omega arith, omega arith)) | inr above ↦ above ]
]

pub least_none : (r : Option ℕ) (c : Closings) (day e : ℕ) → IsDayNumber day → SomeIff r (IsDayNumber e) e → IsOpenFrom c day e
    → IfNone r ((k : ℕ) → day ≤ k → is_open c k ≡ false)
least_none None c day e low h o = none_open-IsOpenFrom c day e o (past day e low.0 o.from h)
least_none (Some x) c day e low h o = tt

pub least_near : (r : Option ℕ) (c : Closings) (day e : ℕ) → AreClosings c → IsDayNumber day → SomeIff r (IsDayNumber e) e
    → IsOpenFrom c day e → IfSome r (λ x. x ≤ day + 2806)
least_near None c day e k low h o = tt
least_near (Some x) c day e k low h o = rw h.1 (IsLeastOpen-near c day e k low.0 h.0.1 (IsLeastOpen-IsOpenFrom c day e o h.0))

pub least_found : (r : Option ℕ) (c : Closings) (day e : ℕ) → AreClosings c → IsDayNumber day → SomeIff r (IsDayNumber e) e
    → IsOpenFrom c day e → day + 2806 ≤ 84005 → IsSome r
least_found None c day e k low h o far = absurd (none_open-near c day k low.0 (none_open-IsOpenFrom c day e o (past day e low.0 o.from h)) far)
least_found (Some x) c day e k low h o far = refl
