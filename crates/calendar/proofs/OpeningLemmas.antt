-- Open days, their count, and the single closed days after a change.
use Rattle.std.proofs.Common.{◌≡◌, ℕ, zero, suc, ◌+◌, ◌<◌, ◌≤◌, List, [], ◌∷◌, ◌++◌, length, remove, get_or, Bool, true, false, not, ◌&&◌}
use Rattle.std.proofs.Common.{◌||◌, ap, sym, ◌∙◌, refl, arith, inl, inr}
use Rattle.std.specs.Prelude.{◌==◌}
use Rattle.std.proofs.lemmas.List.Folds.{list_any-append}
use Rattle.std.proofs.lemmas.Bool.{cases_order}
use Rattle.std.proofs.lemmas.Bool.Decides.{nat_tests, Decides-eqb}
use Rattle.std.proofs.lemmas.List.Edits.{length-remove}
use Rattle.calendar.specs.Days.{IsDayNumber, is_day}
use Rattle.calendar.specs.Openings.{Closings, AreClosings, ClosesOnly, ClosesSame, IsLeastOpen, ReopensOnly, has_day, has_repeat, is_open}
use Rattle.calendar.specs.Openings.{is_single, is_weekly, open_among}

is_day-inside : (d : ℕ) → IsDayNumber d → is_day d ≡ true
is_day-inside d h = grind (arith, nat_tests)

is_day-past : (d : ℕ) → 84005 < d → is_day d ≡ false
is_day-past d h = grind (arith, nat_tests)

-- a day of the calendar whose weekday is open
pub is_open-inside : (c : Closings) (d : ℕ) → IsDayNumber d → is_weekly c d ≡ false → is_open c d ≡ not (is_single c d)
unfolding is_open
is_open-inside c d h w = rw (is_day-inside d h, w) refl

-- a day whose weekday is closed
pub is_open-weekly : (c : Closings) (d : ℕ) → IsDayNumber d → is_weekly c d ≡ true → is_open c d ≡ false
unfolding is_open
is_open-weekly c d h w = rw (is_day-inside d h, w) refl

-- no day past the calendar is open
pub is_open-past : (c : Closings) (d : ℕ) → 84005 < d → is_open c d ≡ false
unfolding is_open
is_open-past c d h = rw (is_day-past d h) refl

flip : (a b : Bool) → (a || (b || false)) ≡ (b || a)
flip true true = refl
flip true false = refl
flip false true = refl
flip false false = refl

pub same_day : (a b : ℕ) → (a == b) ≡ (b == a)
same_day a b = grind (arith, nat_tests)

-- one day more
pub has_day-push : (days : List ℕ) (day d : ℕ) → has_day (days ++ day ∷ []) d ≡ ((d == day) || has_day days d)
has_day-push days day d = list_any-append (λ e. e == d) days (day ∷ []) ∙ (flip (has_day days d) (day == d) ∙ ap (λ b. b || has_day days d) (same_day day d))

or_false : (a b : Bool) → (a || b) ≡ false → (a ≡ false) × (b ≡ false)
or_false true b e = absurd cc
or_false false b e = (refl, e)

and_right : (a b : Bool) → (a && b) ≡ true → b ≡ true
and_right true b e = e
and_right false b e = absurd cc

swap_or : (a b c : Bool) → (a || (b || c)) ≡ (b || (a || c))
swap_or true true c = refl
swap_or true false c = refl
swap_or false true c = refl
swap_or false false c = refl

-- the days without the one at a place
has_day-place : (days : List ℕ) (i day d : ℕ) → i < length days → get_or days i 0 ≡ day → has_day days d ≡ ((day == d) || has_day (remove days i) d)
has_day-place [] i day d lt e = absurd (omega arith)
has_day-place (x ∷ days) zero day d lt e = rw e refl
has_day-place (x ∷ days) (suc i) day d lt e = rw (has_day-place days i day d (omega arith) e) (swap_or (x == d) (day == d) _)

once-remove : (days : List ℕ) (i day : ℕ) → i < length days → get_or days i 0 ≡ day → has_repeat days ≡ false
    → (has_repeat (remove days i) ≡ false) × (has_day (remove days i) day ≡ false)
once-remove [] i day lt e r = absurd (omega arith)
once-remove (x ∷ days) zero day lt e r =
    let p = or_false (has_day days x) (has_repeat days) r in
    (p.1, rw (← e) p.0)
once-remove (x ∷ days) (suc i) day lt e r =
    let p = or_false (has_day days x) (has_repeat days) r in
    let here = or_false (day == x) (has_day (remove days i) x) (sym (has_day-place days i day x (omega arith) e) ∙ p.0) in
    let later = once-remove days i day (omega arith) e p.1 in
    (rw (here.1, later.0) refl, rw (same_day x day, here.0, later.1) refl)

without : (a b r : Bool) → (a ≡ true → r ≡ false) → b ≡ (a || r) → r ≡ (not a && b)
without true b r h e = h refl
without false b r h e = sym e

pub has_day-remove : (days : List ℕ) (i day d : ℕ) → i < length days → get_or days i 0 ≡ day → has_repeat days ≡ false
    → has_day (remove days i) d ≡ (not (d == day) && has_day days d)
has_day-remove days i day d lt e r =
    without (d == day) (has_day days d) (has_day (remove days i) d)
    (λ t. let e' : d ≡ day = (Decides-eqb d day).0 t in rw e' (once-remove days i day lt e r).1)
    (has_day-place days i day d lt e ∙ ap (λ b. b || has_day (remove days i) d) (same_day day d))

-- the closed days with the one at a place left out
pub AreClosings-remove : (c : Closings) (i day : ℕ) → AreClosings c → i < length c.single → get_or c.single i 0 ≡ day
    → AreClosings (record { weekly = c.weekly; single = remove c.single i })
AreClosings-remove c i day h lt e = record {
  weekdays = h.weekdays;
  in_range = λ d t. h.in_range d (and_right (not (d == day)) _ (sym (has_day-remove c.single i day d lt e h.once) ∙ t));
  once = (once-remove c.single i day lt e h.once).0;
  few = let n = length-remove c.single i lt in omega (arith, n, h.few);
}

pub ReopensOnly-remove : (c : Closings) (i day : ℕ) → AreClosings c → i < length c.single → get_or c.single i 0 ≡ day
    → ReopensOnly c (record { weekly = c.weekly; single = remove c.single i }) day
ReopensOnly-remove c i day h lt e = record {
  weekly = refl;
  single = λ d. has_day-remove c.single i day d lt e h.once;
  one_less = length-remove c.single i lt;
}

-- a search that has reached the end of the calendar
pub none_open : (c : Closings) (day n : ℕ) → 84006 ≤ n → ((k : ℕ) → day ≤ k → k < n → is_open c k ≡ false) → (k : ℕ) → day ≤ k → is_open c k ≡ false
none_open c day n end closed k from = elim (cases_order k 84005) [
  | inl same ↦ closed k from (omega arith)
  | inr apart ↦ elim apart [ inl below ↦ closed k from (omega arith) | inr past ↦ is_open-past c k past ]
]

-- calendars that close the same days agree on every day, every count and every least open day
pub is_open-same : (c e : Closings) → ClosesSame c e → (d : ℕ) → is_open c d ≡ is_open e d
unfolding is_open
is_open-same c e h d = rw (h.weekly, h.single d) refl

pub open_among-same : (c e : Closings) → ClosesSame c e → (d n : ℕ) → open_among c d n ≡ open_among e d n
unfolding open_among
open_among-same c e h d zero = refl
open_among-same c e h d (suc n) = rw (open_among-same c e h d n, is_open-same c e h (d + suc n)) refl

pub IsLeastOpen-same : (c e : Closings) → ClosesSame c e → (d x : ℕ) → IsLeastOpen c d x → IsLeastOpen e d x
IsLeastOpen-same c e h d x l = (l.0, sym (is_open-same c e h x) ∙ l.1, λ k from below. sym (is_open-same c e h k) ∙ l.2 k from below)

-- there is one least open day at most
pub IsLeastOpen-unique : (c : Closings) (d x y : ℕ) → IsLeastOpen c d x → IsLeastOpen c d y → x ≡ y
IsLeastOpen-unique c d x y l m = elim (cases_order x y) [
  | inl same ↦ same
  | inr apart ↦ elim apart [ inl below ↦ absurd (open_closed _ l.1 (m.2 x l.0 below)) | inr above ↦ absurd (open_closed _ m.1 (l.2 y m.0 above)) ]
]
  where
    open_closed : (b : Bool) → b ≡ true → b ≡ false → ⊥
    open_closed b p q = cc

one_less : (a b e s : Bool) → (a && (b && not (e || s))) ≡ (not e && (a && (b && not s)))
one_less a b false s = refl
one_less true true true s = refl
one_less true false true s = refl
one_less false b true s = refl

-- after a day was closed, the others are as they were
pub is_open-ClosesOnly : (old new : Closings) (day : ℕ) → ClosesOnly old new day → (d : ℕ) → is_open new d ≡ (not (d == day) && is_open old d)
unfolding is_open
is_open-ClosesOnly old new day h d = rw (h.weekly, h.single d) (one_less (is_day d) (not (is_weekly old d)) (d == day) (is_single old d))

-- a day that was closed is one more in the list, wherever it stands
pub ClosesSame-ClosesOnly : (old new : Closings) (day : ℕ) → ClosesOnly old new day → ClosesSame new (record { weekly = old.weekly; single = day ∷ old.single })
ClosesSame-ClosesOnly old new day h = record {
  weekly = h.weekly;
  single = λ d. h.single d ∙ ap (λ b. b || is_single old d) (same_day d day);
}
