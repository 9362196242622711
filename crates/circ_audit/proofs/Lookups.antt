-- Rows looked up by number, in ascending order.
use Rattle.std.proofs.Common.{◌≡◌, ◌≢◌, ◌⊎◌, ℕ, zero, suc, ◌<◌, ◌≤◌, Bool, true, false, List, [], ◌∷◌, length, get_or, Some, None, Result, Ok, Err}
use Rattle.std.proofs.Common.{refl, sym, ◌∙◌, ap, subst, inl, inr, eqb, arith}
use Rattle.std.specs.Prelude.{find, is_some, is_ok, slice_get}
use Rattle.std.proofs.lemmas.Option.{slice_get-get_or}
use Rattle.std.specs.List.Sorted.{IsBinarySearchResult, IsNonDecreasingBy, IsSearchInRange}
use Rattle.std.specs.Ordering.{nat_cmp, ordering_index}
use Rattle.std.proofs.lemmas.Cmp.{ranked}
use Rattle.std.proofs.lemmas.Bool.{cases_eq, cases_lt, eqb-true, eq-eqb}
use Rattle.std.proofs.lemmas.Bool.Decides.{nat_tests}
use Rattle.terms.specs.Orders.{Rise}
use Rattle.terms.proofs.OrderLemmas.{ordered-at}

-- The first row that passes is found, where no earlier one does.
find-at : {R : Type 0} (p : R → Bool) (rows : List R) (i : ℕ) (x : R) → i < length rows → get_or rows i x ≡ x → p x ≡ true
    → ((k : ℕ) → k < i → p (get_or rows k x) ≡ false) → find p rows ≡ Some x
find-at p [] i x lt is passes before = absurd (omega (arith, lt))
find-at p (y ∷ rows) zero x lt is passes before = let here : p y ≡ true = ap p is ∙ passes in rw here (ap Some is)
find-at p (y ∷ rows) (suc i) x lt is passes before =
    let no : p y ≡ false = before 0 (omega arith) in
    rw no (find-at p rows i x (omega (arith, lt)) is passes (λ k below. before (suc k) (omega (arith, below))))

-- None is found where none passes.
pub find-none : {R : Type 0} (p : R → Bool) (rows : List R) → ((k : ℕ) (d : R) → k < length rows → p (get_or rows k d) ≡ false) → find p rows ≡ None
find-none p [] none = refl
find-none p (y ∷ rows) none = let no : p y ≡ false = none 0 y (omega arith) in rw no (find-none p rows (λ k d below. none (suc k) d (omega (arith, below))))

pub not-eqb : (m n : ℕ) → m ≢ n → eqb m n ≡ false
not-eqb m n differ = go (eqb m n) refl
  where
    go : (b : Bool) → eqb m n ≡ b → b ≡ false
    go true e = absurd (differ (eqb-true m n e))
    go false e = refl

module _ {R : Type 0} (number_of : R → ℕ) (rows : List R) (rise : Rise number_of rows) (n : ℕ) where
  -- A row with the number is the one that is found.
  pub row-found : (place : ℕ) (x : R) → place < length rows → get_or rows place x ≡ x → number_of x ≡ n → find (λ r. eqb (number_of r) n) rows ≡ Some x
  row-found place x within is has =
      find-at (λ r. eqb (number_of r) n) rows place x within is (eq-eqb (number_of x) n has)
      (λ k below. not-eqb (number_of (get_or rows k x)) n (differs k below))
    where
      differs : (k : ℕ) → k < place → number_of (get_or rows k x) ≢ n
      differs k below same =
          let less : number_of (get_or rows k x) < number_of (get_or rows place x) =
          ordered-at (λ r s. number_of r < number_of s) rows k place x below within rise in
          let at : number_of (get_or rows place x) ≡ number_of x = ap number_of is in
          omega (arith, less, at, has, same)

  -- The comparisons with the number rise along the rows, as a binary search asks.
  comparisons-rise : IsNonDecreasingBy (λ r. ordering_index (nat_cmp (number_of r) n)) rows
  comparisons-rise i j d le within = go (cases_eq i j)
    where
      go : (i ≡ j) ⊎ (i ≢ j) → ordering_index (nat_cmp (number_of (get_or rows i d)) n) ≤ ordering_index (nat_cmp (number_of (get_or rows j d)) n)
      go (inl same) = subst (λ (k : ℕ). ordering_index (nat_cmp (number_of (get_or rows i d)) n) ≤ ordering_index
          (nat_cmp (number_of (get_or rows k d)) n)) same (omega arith)
      go (inr other) =
          let less : number_of (get_or rows i d) < number_of (get_or rows j d) =
          ordered-at (λ r s. number_of r < number_of s) rows i j d (omega (arith, le, other)) within rise in
          compared (number_of (get_or rows i d)) (number_of (get_or rows j d)) less
        where
          compared : (a b : ℕ) → a < b → ordering_index (nat_cmp a n) ≤ ordering_index (nat_cmp b n)
          compared a b less = grind (arith, nat_tests)

  -- A binary search ends at the row with the number.
  pub searched-found : (place : ℕ) (x : R) → place < length rows → x ≡ get_or rows place x
      → IsBinarySearchResult (λ r. nat_cmp (number_of r) n) rows (Ok place) → Some x ≡ find (λ r. eqb (number_of r) n) rows
  searched-found place x within is equal =
      let has : number_of (get_or rows place x) ≡ n = ranked (number_of (get_or rows place x)) n _ (sym (equal x)) in
      sym (row-found place x within (sym is) (ap number_of is ∙ has))

  -- Or no row has it.
  pub searched-none : (gap : ℕ) → IsBinarySearchResult (λ r. nat_cmp (number_of r) n) rows (Err gap) → None ≡ find (λ r. eqb (number_of r) n) rows
  searched-none gap parted = sym (find-none (λ r. eqb (number_of r) n) rows none)
    where
      none : (k : ℕ) (d : R) → k < length rows → eqb (number_of (get_or rows k d)) n ≡ false
      none k d within = not-eqb (number_of (get_or rows k d)) n (λ same. ⊥_of same)
        where
          ⊥_of : number_of (get_or rows k d) ≡ n → ⊥
          ⊥_of same = go (cases_lt k gap)
            where
              go : (k < gap) ⊎ (gap ≤ k) → ⊥
              go (inl before) = let less : number_of (get_or rows k d) < n =
                  ranked (number_of (get_or rows k d)) n _ (sym ((parted comparisons-rise).0 k d (omega arith) before)) in
                  omega (arith, less, same)
              go (inr from) = let more : n < number_of (get_or rows k d) =
                  ranked (number_of (get_or rows k d)) n _ (sym ((parted comparisons-rise).1 k d from within)) in omega (arith, more, same)

  -- So it tells whether a row has the number.
  pub searched-has : (found : Result ℕ ℕ) → IsSearchInRange found (length rows)
      → IsBinarySearchResult (λ r. nat_cmp (number_of r) n) rows found → is_ok found ≡ is_some (find (λ r. eqb (number_of r) n) rows)
  searched-has (Ok place) within equal = go rows refl
    where
      go : (xs : List R) → rows ≡ xs → true ≡ is_some (find (λ r. eqb (number_of r) n) rows)
      go [] none = let empty : length rows ≡ 0 = ap (λ (l : List R). length l) none in absurd (omega (arith, within, empty))
      go (d ∷ xs) is =
          let x = get_or rows place d in
          let one : slice_get rows place ≡ Some x = slice_get-get_or rows place d within in
          let other : slice_get rows place ≡ Some (get_or rows place x) = slice_get-get_or rows place x within in
          ap is_some (searched-found place x within (let same : x ≡ get_or rows place x = cc in same) equal)
  searched-has (Err gap) within parted = ap is_some (searched-none gap parted)
