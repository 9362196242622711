-- Ascending lists of numbers.
use Rattle.std.proofs.Common.{◌≡◌, ℕ, zero, suc, ◌≤◌, ◌<◌, ◌+◌, ◌-◌, Bool, true, false, cond, ◌⊎◌, inl, inr, List, []}
use Rattle.std.proofs.Common.{◌∷◌, length, map, slice_get, refl, ◌∙◌, ap, subst, arith}
use Rattle.std.specs.Prelude.{Some, option_map, filter}
use Rattle.std.proofs.lemmas.Bool.{lt-ltb}
use Rattle.std.proofs.lemmas.List.{length-append}
use Rattle.std.proofs.lemmas.List.Elements.{filter-append}
use Rattle.terms.specs.Orders.{Rise}
use Rattle.model.specs.Asking.{above}
use Rattle.model.specs.History.{numbers_to}
use Rattle.desk.proofs.RowLists.{has, has-first, has-later, has-cases, all-above}

-- ---- what is above a number

-- All is above 0 where no number is 0.
pub above-zero : (xs : List ℕ) → ((k : ℕ) → has k xs ≡ true → 1 ≤ k) → above 0 xs ≡ xs
above-zero [] low = refl
above-zero (x ∷ xs) low =
    let first : 0 < x = let le : 1 ≤ x = low x (has-first x xs) in omega (arith, le) in
    ap (λ (b : Bool). cond b (x ∷ above 0 xs) (above 0 xs)) (lt-ltb 0 x first)
    ∙ ap (λ (ys : List ℕ). x ∷ ys) (above-zero xs (λ k e. low k (has-later k x xs e)))

-- ---- how many

pub few-pass : (f : ℕ → Bool) (n : ℕ) → length (filter f (numbers_to n)) ≤ n
few-pass f zero = omega arith
few-pass f (suc n) =
    let all : length (filter f (numbers_to (suc n))) ≡ length (filter f (numbers_to n)) + length (filter f (suc n ∷ [])) =
    ap (λ (xs : List ℕ). length xs) (filter-append f (numbers_to n) (suc n ∷ [])) ∙ length-append (filter f (numbers_to n)) (filter f (suc n ∷ [])) in
    let one : length (filter f (suc n ∷ [])) ≤ 1 = last (f (suc n)) in
    let ih : length (filter f (numbers_to n)) ≤ n = few-pass f n in
    omega (arith, all, one, ih)
  where
    last : (b : Bool) → length (cond b (suc n ∷ []) []) ≤ 1
    last true = omega arith
    last false = omega arith

-- ---- the last of some rows

module _ {R : Type 0} (number_of : R → ℕ) where
  -- The number of the last row is the greatest, and one of them.
  pub last-is : (rows : List R) (at n : ℕ) → Rise number_of rows → at ≡ length rows - 1 → option_map number_of (slice_get rows at) ≡ Some n
      → ((k : ℕ) → has k (map number_of rows) ≡ true → k ≤ n) × (has n (map number_of rows) ≡ true)
  last-is [] at n up end is = let never : ⊥ = cc in absurd never
  last-is (r ∷ []) at n up end is =
      let zero_is : at ≡ 0 = omega (arith, end) in
      let got : option_map number_of (slice_get (r ∷ []) 0) ≡ Some n = subst (λ (i : ℕ). option_map number_of (slice_get (r ∷ []) i) ≡ Some n) zero_is is in
      let mine : number_of r ≡ n = cc in
      (λ k e. one k n mine (has-cases k (number_of r) [] e), subst (λ (m : ℕ). has m (number_of r ∷ []) ≡ true) mine (has-first (number_of r) []))
    where
      one : (k n : ℕ) → number_of r ≡ n → (k ≡ number_of r) ⊎ (has k [] ≡ true) → k ≤ n
      one k n mine (inl same) = omega (arith, same, mine)
      one k n mine (inr none) = let never : ⊥ = cc in absurd never
  last-is (r ∷ s ∷ rows) at n up end is =
      let next : at ≡ suc (length rows) = omega (arith, end) in
      let got : option_map number_of (slice_get (r ∷ s ∷ rows) (suc (length rows))) ≡ Some n =
      subst (λ (i : ℕ). option_map number_of (slice_get (r ∷ s ∷ rows) i) ≡ Some n) next is in
      let more = last-is (s ∷ rows) (length rows) n up.1 (omega arith) got in
      let less : number_of r < n = all-above number_of (number_of r) (s ∷ rows) up.0 n more.1 in
      (λ k e. one k less more.0 (has-cases k (number_of r) (map number_of (s ∷ rows)) e), has-later n (number_of r) (map number_of (s ∷ rows)) more.1)
    where
      one : (k : ℕ) → number_of r < n → ((j : ℕ) → has j (map number_of (s ∷ rows)) ≡ true → j ≤ n) → (k ≡ number_of r)
          ⊎ (has k (map number_of (s ∷ rows)) ≡ true) → k ≤ n
      one k less most (inl same) = omega (arith, same, less)
      one k less most (inr later) = most k later
