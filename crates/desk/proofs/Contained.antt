-- What is in a list.
use Rattle.std.proofs.Common.{◌≡◌, ℕ, zero, suc, ◌<◌, ◌⊎◌, inl, inr, List, [], ◌∷◌, length, refl, sym, subst, arith}
use Rattle.std.specs.List.{Contains, AllByRecursion}

pub in-head : {R : Type 0} (x : R) (rows : List R) → Contains (x ∷ rows) x
in-head x rows = (0, omega arith, refl)

pub in-tail : {R : Type 0} (x r : R) (rows : List R) → Contains rows r → Contains (x ∷ rows) r
in-tail x r rows at = let lt : at.0 < length rows = at.1 in (suc at.0, omega (arith, lt), at.2)

pub in-cases : {R : Type 0} (x r : R) (rows : List R) → Contains (x ∷ rows) r → (r ≡ x) ⊎ Contains rows r
in-cases x r rows (zero, lt, is) = inl (sym is)
in-cases x r rows (suc k, lt, is) = inr (k, omega (arith, lt), is)

pub in-none : {R : Type 0} (r : R) → Contains [] r → ⊥
in-none r at = let lt : at.0 < 0 = at.1 in omega (arith, lt)

pub above-first : {R : Type 0} (number_of : R → ℕ) (n : ℕ) (rows : List R) → AllByRecursion (λ s. n < number_of s) rows → (r : R)
    → Contains rows r → n < number_of r
above-first number_of n [] all r at = absurd (in-none r at)
above-first number_of n (y ∷ rows) all r (zero, lt, is) = subst (λ s. n < number_of s) is all.0
above-first number_of n (y ∷ rows) all r (suc k, lt, is) = above-first number_of n rows all.1 r (k, omega (arith, lt), is)
