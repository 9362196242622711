-- If a branch is open on some weekday and has few single closed days, an open day isn't far.
use Rattle.calendar.specs.declared.limits.TheConstants.{FIRST_DAY, LAST_DAY}
use Rattle.std.proofs.Common.{◌≡◌, ℕ, zero, suc, ◌+◌, ◌-◌, ◌*◌, ◌%◌, ◌≤◌, ◌<◌, ◌==◌, Bool, true, false, cond, not, ◌&&◌, ◌||◌, List, []}
use Rattle.std.proofs.Common.{◌∷◌, length, refl, sym, ap, ◌∙◌, subst, arith, le-leb}
use Rattle.std.specs.Prelude.{Option, Some, filter, nat_le, slice_index_or}
use Rattle.std.proofs.lemmas.Bool.{eqb-true}
use Rattle.calendar.specs.Openings.{weekday}
use Rattle.model.specs.Calendar.{is_single, opens, least_within, least}
use Rattle.model.proofs.Moves.{false-ne}
use Rattle.model.proofs.Bindings.{clash}

-- ---- the search finds a day

found_at : (test : ℕ → Bool) (n d e : ℕ) (b : Bool) → test d ≡ b → d ≤ e → e < d + suc n → test e ≡ true
    → (suc d ≤ e → (x : ℕ) × (least_within test n (suc d) ≡ Some x))
    → (x : ℕ) × ((elim b as (λ _. Option ℕ) [ true ↦ Some d | false ↦ least_within test n (suc d) ]) ≡ Some x)
found_at test n d e true p low high on rest = (d, refl)
found_at test n d e false p low high on rest = rest (later (d == e) refl)
  where
    later : (x : Bool) → (d == e) ≡ x → suc d ≤ e
    later true q = absurd (clash _ (subst (λ k. test k ≡ true) (sym (eqb-true d e q)) on) p)
    later false q = omega (arith, low, false-ne d e q)

within-exists : (test : ℕ → Bool) (n d e : ℕ) → d ≤ e → e < d + n → test e ≡ true → (x : ℕ) × (least_within test n d ≡ Some x)
within-exists test zero d e low high on = let never : ⊥ = omega (arith, low, high) in absurd never
within-exists test (suc n) d e low high on = found_at test n d e (test d) refl low high on (λ le. within-exists test n (suc d) e le (omega (arith, high)) on)

-- With a day that passes, there is a least one.
pub least-exists : (test : ℕ → Bool) (d e : ℕ) → d ≤ e → e ≤ LAST_DAY → test e ≡ true → (x : ℕ) × (least test d ≡ Some x)
least-exists test d e low high on = within-exists test (suc LAST_DAY - d) d e low (omega (arith, low, high)) on

-- ---- more days than single closed ones

-- The days but x.
abbrev without : ℕ → List ℕ → List ℕ
without x s = filter (λ e. not (e == x)) s

length-cond : (b : Bool) (y : ℕ) (xs : List ℕ) → length (cond b (y ∷ xs) xs) ≤ suc (length xs)
length-cond true y xs = omega arith
length-cond false y xs = omega arith

pub length-filter-le : (test : ℕ → Bool) (s : List ℕ) → length (filter test s) ≤ length s
length-filter-le test [] = omega arith
length-filter-le test (y ∷ s) = omega (arith, length-cond (test y) y (filter test s), length-filter-le test s)

without-shorter : (x : ℕ) (s : List ℕ) → is_single s x ≡ true → length (without x s) < length s
without-shorter x [] e = let never : ⊥ = cc in absurd never
without-shorter x (y ∷ s) e = go (λ q. without-shorter x s q) (y == x) e
  where
    go : (is_single s x ≡ true → length (without x s) < length s) → (b : Bool) → (b || is_single s x) ≡ true
        → length (cond (not b) (y ∷ without x s) (without x s)) < suc (length s)
    go ih true q = omega (arith, length-filter-le (λ k. not (k == x)) s)
    go ih false q = omega (arith, ih q)

without-other : (x y : ℕ) (s : List ℕ) → (x ≡ y → ⊥) → is_single (without x s) y ≡ false → is_single s y ≡ false
without-other x y [] ne e = refl
without-other x y (z ∷ s) ne e = go (λ q. without-other x y s ne q) (z == x) refl (z == y) refl e
  where
    both : (a b : Bool) → (a || b) ≡ false → (a ≡ false) × (b ≡ false)
    both true b q = let never : ⊥ = cc in absurd never
    both false b q = (refl, q)

    neither : (b : Bool) → b ≡ false → is_single s y ≡ false → (b || is_single s y) ≡ false
    neither true p q = let never : ⊥ = cc in absurd never
    neither false p q = q

    go : (is_single (without x s) y ≡ false → is_single s y ≡ false) → (a : Bool) → (z == x) ≡ a → (b : Bool) → (z == y) ≡ b
        → is_single (cond (not a) (z ∷ without x s) (without x s)) y ≡ false → ((z == y) || is_single s y) ≡ false
    go ih true p true q r = absurd (ne (sym (eqb-true z x p) ∙ eqb-true z y q))
    go ih true p false q r = neither (z == y) q (ih r)
    go ih false p b q r = let w : ((z == y) ≡ false) × (is_single (without x s) y ≡ false) = both (z == y) _ r in neither (z == y) w.0 (ih w.1)

module _ (f : ℕ → ℕ) (injective : (j k : ℕ) → f j ≡ f k → j ≡ k) where
  -- Among more days than a list has, one isn't in it.
  gap : (n : ℕ) (s : List ℕ) → length s < n → (k : ℕ) × (k < n) × (is_single s (f k) ≡ false)
  gap zero s lt = let never : ⊥ = omega (arith, lt) in absurd never
  gap (suc n) s lt = go (is_single s (f n)) refl (λ le. gap n (without (f n) s) le)
    where
      go : (b : Bool) → is_single s (f n) ≡ b → (length (without (f n) s) < n → (k : ℕ) × (k < n) × (is_single (without (f n) s) (f k) ≡ false))
          → (k : ℕ) × (k < suc n) × (is_single s (f k) ≡ false)
      go false e ih = (n, omega arith, e)
      go true e ih =
          let w : (k : ℕ) × (k < n) × (is_single (without (f n) s) (f k) ≡ false) = ih (omega (arith, lt, without-shorter (f n) s e)) in
          (w.0, omega (arith, w.1), without-other (f n) (f w.0) s (λ same. let one : n ≡ w.0 = injective n w.0 same in omega (arith, one, w.1)) w.2)

-- ---- an open day

opens-is : (week : List Bool) (s : List ℕ) (d : ℕ) → FIRST_DAY ≤ d → d ≤ LAST_DAY → slice_index_or week (weekday d) false ≡ false
    → is_single s d ≡ false → opens week s d ≡ true
opens-is week s d low high open_weekday none =
    go (nat_le FIRST_DAY d) (nat_le d LAST_DAY) (slice_index_or week (weekday d) false) (is_single s d) (le-leb _ _ low) (le-leb _ _ high) open_weekday none
  where
    go : (a b c x : Bool) → a ≡ true → b ≡ true → c ≡ false → x ≡ false → (elim (a && (b && not c)) as (λ _. Bool) [ true ↦ not x | false ↦ false ]) ≡ true
    go true true false false p q r t = refl
    go false b c x p q r t = let never : ⊥ = cc in absurd never
    go true false c x p q r t = let never : ⊥ = cc in absurd never
    go true true true x p q r t = let never : ⊥ = cc in absurd never
    go true true false true p q r t = let never : ⊥ = cc in absurd never

-- The first day from d on with the weekday w.
abbrev next_weekday : ℕ → ℕ → ℕ
next_weekday d w = d + (w + 7 - (d + 3) % 7) % 7

-- With an open weekday and at most 400 single closed days, there is an open day within 2806 days.
pub open-exists : (week : List Bool) (s : List ℕ) (w d : ℕ) → w < 7 → slice_index_or week w false ≡ false → length s ≤ 400 → FIRST_DAY ≤ d → d + 2806 ≤ LAST_DAY
    → (e : ℕ) × (least (opens week s) d ≡ Some e)
open-exists week s w d small open_weekday few low high =
    let hole : (k : ℕ) × (k < 401) × (is_single s (next_weekday d w + 7 * k) ≡ false) =
    gap (λ k. next_weekday d w + 7 * k) (λ j k same. omega (arith, same)) 401 s (omega (arith, few)) in
    let day : weekday (next_weekday d w + 7 * hole.0) ≡ w = omega (arith, small) in
    least-exists (opens week s) d (next_weekday d w + 7 * hole.0) (omega arith) (omega (arith, hole.1, high))
    (opens-is week s (next_weekday d w + 7 * hole.0) (omega (arith, low)) (omega (arith, hole.1, high))
    (ap (λ i. slice_index_or week i false) day ∙ open_weekday) hole.2)
