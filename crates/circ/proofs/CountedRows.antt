-- How many rows of a table pass a test.
use Rattle.std.proofs.Common.{◌≡◌, ℕ, ◌+◌, ◌<◌, ◌≤◌, ◌⊎◌, inl, inr, Bool, true, false, cond, List, [], ◌∷◌, get_or, refl, ap, arith}
use Rattle.std.specs.Prelude.{count_by, All}
use Rattle.std.specs.List.{Contains}
use Rattle.std.proofs.lemmas.Bool.{cases_lt}
use Rattle.std.proofs.lemmas.List.Sums.{sum_by-cons}
use Rattle.std.proofs.lemmas.List.Elements.{Contains-get_or}
use Rattle.terms.specs.Orders.{Rise}
use Rattle.desk.proofs.Contained.{in-head, in-tail, above-first}

-- ---- what is in a list

-- What holds of each row that is there.
pub all-there : {R : Type 0} (P : R → Type 0) (rows : List R) → ((r : R) → Contains rows r → P r) → All P rows
all-there P rows f k d lt = f (get_or rows k d) (Contains-get_or rows k d lt)

-- ---- counts

-- What a row that passes counts.
abbrev pub weight : Bool → ℕ
weight b = cond b 1 0

module _ {R : Type 0} (p : R → Bool) where
  pub counted-cons : (x : R) (rows : List R) → count_by p (x ∷ rows) ≡ weight (p x) + count_by p rows
  counted-cons x rows = sum_by-cons (λ y. weight (p y)) x rows

  -- A row that is counted is there.
  pub one-counted : (rows : List R) → 0 < count_by p rows → (r : R) × Contains rows r × (p r ≡ true)
  one-counted [] some = absurd (omega (arith, some))
  one-counted (x ∷ rows) some = go (λ more. one-counted rows more) (p x) refl
    where
      go : (0 < count_by p rows → (r : R) × Contains rows r × (p r ≡ true)) → (b : Bool) → p x ≡ b → (r : R) × Contains (x ∷ rows) r × (p r ≡ true)
      go ih true e = (x, in-head x rows, e)
      go ih false e =
          let split : count_by p (x ∷ rows) ≡ weight (p x) + count_by p rows = counted-cons x rows in
          let none : weight (p x) ≡ 0 = ap weight e in
          let found = ih (omega (arith, some, split, none)) in
          (found.0, in-tail x found.0 rows found.1, found.2)

  -- Where all that are counted have one number, at most one is.
  pub counted-once : (number_of : R → ℕ) (rows : List R) → Rise number_of rows
      → ((r s : R) → Contains rows r → Contains rows s → p r ≡ true → p s ≡ true → number_of r ≡ number_of s) → count_by p rows ≤ 1
  counted-once number_of [] rise same = omega arith
  counted-once number_of (x ∷ rows) rise same =
      go (counted-once number_of rows rise.1 (λ r s in_r in_s. same r s (in-tail x r rows in_r) (in-tail x s rows in_s))) (p x) refl
    where
      go : count_by p rows ≤ 1 → (b : Bool) → p x ≡ b → count_by p (x ∷ rows) ≤ 1
      go rest false e =
          let split : count_by p (x ∷ rows) ≡ weight (p x) + count_by p rows = counted-cons x rows in
          let none : weight (p x) ≡ 0 = ap weight e in
          omega (arith, split, none, rest)
      go rest true e = at (cases_lt 0 (count_by p rows))
        where
          at : (0 < count_by p rows) ⊎ (count_by p rows ≤ 0) → count_by p (x ∷ rows) ≤ 1
          at (inr none) =
              let split : count_by p (x ∷ rows) ≡ weight (p x) + count_by p rows = counted-cons x rows in
              let one : weight (p x) ≡ 1 = ap weight e in
              omega (arith, split, one, none)
          at (inl some) =
              let other = one-counted rows some in
              let equal : number_of x ≡ number_of other.0 = same x other.0 (in-head x rows) (in-tail x other.0 rows other.1) e other.2 in
              let less : number_of x < number_of other.0 = above-first number_of (number_of x) rows rise.0 other.0 other.1 in
              absurd (omega (arith, equal, less))

-- At most one of four counts is one, where no two are.
pub one-of-four : (a b c d : ℕ) → a ≤ 1 → b ≤ 1 → c ≤ 1 → d ≤ 1 → (0 < a → 0 < b → ⊥) → (0 < a → 0 < c → ⊥) → (0 < a → 0 < d → ⊥)
    → (0 < b → 0 < c → ⊥) → (0 < b → 0 < d → ⊥) → (0 < c → 0 < d → ⊥)
    → a + b + c + d ≤ 1
one-of-four a b c d la lb lc ld ab ac ad bc bd cd = go (cases_lt 0 a) (cases_lt 0 b) (cases_lt 0 c)
  where
    none : (n : ℕ) → (0 < n → ⊥) → n ≤ 0
    none n never = at (cases_lt 0 n)
      where
        at : (0 < n) ⊎ (n ≤ 0) → n ≤ 0
        at (inl some) = absurd (never some)
        at (inr le) = le

    go : (0 < a) ⊎ (a ≤ 0) → (0 < b) ⊎ (b ≤ 0) → (0 < c) ⊎ (c ≤ 0) → a + b + c + d ≤ 1
    go (inl pa) p q = let nb = none b (ab pa) in let nc = none c (ac pa) in let nd = none d (ad pa) in omega (arith, la, nb, nc, nd)
    go (inr na) (inl pb) q = let nc = none c (bc pb) in let nd = none d (bd pb) in omega (arith, na, lb, nc, nd)
    go (inr na) (inr nb) (inl pc) = let nd = none d (cd pc) in omega (arith, na, nb, lc, nd)
    go (inr na) (inr nb) (inr nc) = omega (arith, na, nb, nc, ld)
