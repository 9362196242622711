-- The rows of a table read batch by batch.
use Rattle.std.proofs.Common.{◌≡◌, ℕ, suc, ◌+◌, ◌-◌, ◌<◌, ◌≤◌, ◌⊎◌, inl, inr, List, [], ◌∷◌, ◌++◌, length, refl, sym, ap, subst, arith}
use Rattle.std.specs.Prelude.{Option, Some, None, option_map, slice_get}
use Rattle.std.specs.List.{Contains, AllByRecursion}
use Rattle.std.proofs.lemmas.Bool.{cases_lt}
use Rattle.std.proofs.lemmas.List.Elements.{Contains-append_left, Contains-append_right, Contains-append_cases}
use Rattle.sqlite_rules.specs.Lists.{Has}
use Rattle.sqlite_rules.proofs.ListLemmas.{has_contained, contains_had, all_has, all_from}
use Rattle.circ_tables.specs.declared.by_number.TheConstants.{BATCH_ROWS}
use Rattle.store.specs.Lists.{AreRows, AllPass}
use Rattle.terms.specs.Orders.{Rise}
use Rattle.store.specs.Batches.{AreRowsAfter, AreNumbered}

-- ---- rows in order

pub rises_joined : {R : Type 0} (number_of : R → ℕ) (rows more : List R) → Rise number_of rows → Rise number_of more
    → ((r s : R) → Has rows r → Has more s → number_of r < number_of s) → Rise number_of (rows ++ more)
rises_joined number_of [] more rise next less = next
rises_joined number_of (r ∷ rows) more rise next less = (above, rises_joined number_of rows more rise.1 next (λ q s there. less q s (inr there)))
  where
    joined : (xs : List _) → AllByRecursion (λ s. number_of r < number_of s) xs → AllByRecursion (λ s. number_of r < number_of s) (xs ++ more)
    joined [] all = all_from (λ s. number_of r < number_of s) more (λ s there. less r s (inl refl) there)
    joined (x ∷ xs) all = (all.0, joined xs all.1)

    above : AllByRecursion (λ s. number_of r < number_of s) (rows ++ more)
    above = joined rows rise.0

-- The last of rows in order is there, and has the greatest number.
pub last_is : {R : Type 0} (number_of : R → ℕ) (rows : List R) → Rise number_of rows → (r : R) → slice_get rows (length rows - 1) ≡ Some r
    → Has rows r × ((s : R) → Has rows s → number_of s ≤ number_of r)
last_is number_of [] rise r e = let never : ⊥ = cc in absurd never
last_is number_of (x ∷ []) rise r e = let same : x ≡ r = cc in (inl (sym same), at same)
  where
    at : x ≡ r → (s : _) → Has (x ∷ []) s → number_of s ≤ number_of r
    at same s (inl is) = let one : number_of s ≡ number_of x = ap number_of is in let two : number_of x ≡ number_of r = ap number_of same in
        omega (arith, one, two)
    at same s (inr none) = absurd none
last_is number_of (x ∷ y ∷ rows) rise r e =
    let same : length (x ∷ y ∷ rows) - 1 ≡ suc (length (y ∷ rows) - 1) = omega arith in
    with_first (last_is number_of (y ∷ rows) rise.1 r (subst (λ (i : ℕ). slice_get (x ∷ y ∷ rows) i ≡ Some r) same e))
  where
    with_first : Has (y ∷ rows) r × ((s : _) → Has (y ∷ rows) s → number_of s ≤ number_of r) → Has (x ∷ y ∷ rows) r
        × ((s : _) → Has (x ∷ y ∷ rows) s → number_of s ≤ number_of r)
    with_first more = (inr more.0, at)
      where
        at : (s : _) → Has (x ∷ y ∷ rows) s → number_of s ≤ number_of r
        at s (inl is) =
            let less : number_of x < number_of r = all_has (λ z. number_of x < number_of z) (y ∷ rows) r rise.0 more.0 in
            let same : number_of s ≡ number_of x = ap number_of is in
            omega (arith, less, same)
        at s (inr later) = more.1 s later

-- A batch that has no last row is empty.
pub empty_if : {R : Type 0} (number_of : R → ℕ) (rows : List R) → option_map number_of (slice_get rows (length rows - 1)) ≡ None → length rows ≡ 0
empty_if number_of [] none = refl
empty_if number_of (x ∷ rows) none = let never : ⊥ = there x rows none in absurd never
  where
    there : (x : _) (rows : List _) → option_map number_of (slice_get (x ∷ rows) (length (x ∷ rows) - 1)) ≡ None → ⊥
    there x [] none = cc
    there x (y ∷ rows) none =
        let same : length (x ∷ y ∷ rows) - 1 ≡ suc (length (y ∷ rows) - 1) = omega arith in
        there y rows (subst (λ (i : ℕ). option_map number_of (slice_get (x ∷ y ∷ rows) i) ≡ None) same none)

-- One that has a last row.
pub last_there : {R : Type 0} (number_of : R → ℕ) (rows : List R) (n : ℕ) → option_map number_of (slice_get rows (length rows - 1)) ≡ Some n
    → (r : R) × (slice_get rows (length rows - 1) ≡ Some r) × (number_of r ≡ n)
last_there number_of rows n is = go (slice_get rows (length rows - 1)) refl is
  where
    go : (o : Option _) → slice_get rows (length rows - 1) ≡ o → option_map number_of o ≡ Some n → (r : _)
        × (slice_get rows (length rows - 1) ≡ Some r) × (number_of r ≡ n)
    go (Some r) e same = (r, e, let at : number_of r ≡ n = cc in at)
    go None e same = let never : ⊥ = cc in absurd never

-- ---- batch after batch

module _ {R : Type 0} (t : ℕ → Option R) (number_of : R → ℕ) where
  -- The rows that are read so far are those up to a number, and there were no more batches than that.
  pub record AreSoFar (after batches : ℕ) (kept : List R) : Type 0 where
    pub rows_are : AreNumbered t number_of → AreRows t number_of (λ r. number_of r ≤ after) kept
    pub few : batches ≤ after

  -- Nothing was read yet.
  pub none_so_far : (after : ℕ) (kept : List R) → after ≡ 0 → kept ≡ [] → AreSoFar after 0 kept
  none_so_far after kept first none = record {
    rows_are = λ numbered. subst (λ (rows : List R). AreRows t number_of (λ r. number_of r ≤ after) rows) (sym none) (record {
      sound = λ r there. let lt : there.0 < 0 = there.1 in absurd (omega (arith, lt));
      whole = λ n r e passes.
          let it = numbered n r e in
          let same : number_of r ≡ n = it.0 in
          let from : 1 ≤ n = it.1 in
          let to : number_of r ≤ after = passes in
          absurd (omega (arith, same, from, to, first));
      rise = tt;
    });
    few = omega arith;
  }

  module _ (after batches : ℕ) (kept : List R) (so_far : AreSoFar after batches kept) (batch : List R) (is : AreRowsAfter t number_of after batch) where
    -- A batch that is empty is the last.
    pub all_so_far : AreNumbered t number_of → length batch ≡ 0 → AreRows t number_of AllPass kept
    all_so_far numbered none = record {
      sound = λ r there. (((so_far.rows_are numbered).sound r there).0, tt);
      whole = λ n r e passes. go n r e (cases_lt after (number_of r));
      rise = (so_far.rows_are numbered).rise;
    }
      where
        go : (n : ℕ) (r : R) → t n ≡ Some r → (after < number_of r) ⊎ (number_of r ≤ after) → Contains kept r
        go n r e (inr low) = (so_far.rows_are numbered).whole n r e low
        go n r e (inl high) = elim (is.whole n r e high) [
          | inl there ↦ (let lt : there.0 < length batch = there.1 in absurd (omega (arith, lt, none)))
          | inr rest ↦ (let full : length batch ≡ BATCH_ROWS = rest.0 in absurd (omega (arith, full, none)))
        ]

    module _ (last : R) (end : slice_get batch (length batch - 1) ≡ Some last) where
      greatest : Has batch last × ((s : R) → Has batch s → number_of s ≤ number_of last)
      greatest = last_is number_of batch is.rise last end

      above_after : (r : R) → Has batch r → after < number_of r
      above_after r there = (is.sound r (contains_had batch r there)).1

      -- One batch more.
      more_so_far : AreSoFar (number_of last) (batches + 1) (kept ++ batch)
      more_so_far = record {
        rows_are = λ numbered. record { sound = sound numbered; whole = whole numbered; rise = rise numbered };
        few = let less : after < number_of last = above_after last greatest.0 in let few : batches ≤ after = so_far.few in omega (arith, less, few);
      }
        where
          less : after < number_of last
          less = above_after last greatest.0

          sound : AreNumbered t number_of → (r : R) → Contains (kept ++ batch) r → (t (number_of r) ≡ Some r) × (number_of r ≤ number_of last)
          sound numbered r there = elim (Contains-append_cases kept batch r there) [
            | inl before ↦
                let it = (so_far.rows_are numbered).sound r before in
                let low : number_of r ≤ after = it.1 in
                (it.0, omega (arith, low, less))
            | inr new ↦ ((is.sound r new).0, greatest.1 r (has_contained batch r new))
          ]

          whole : AreNumbered t number_of → (n : ℕ) (r : R) → t n ≡ Some r → number_of r ≤ number_of last → Contains (kept ++ batch) r
          whole numbered n r e to = go (cases_lt after (number_of r))
            where
              go : (after < number_of r) ⊎ (number_of r ≤ after) → Contains (kept ++ batch) r
              go (inr low) = Contains-append_left kept batch r ((so_far.rows_are numbered).whole n r e low)
              go (inl high) = elim (is.whole n r e high) [
                | inl there ↦ Contains-append_right kept batch r there
                | inr rest ↦
                    let under : number_of last < n = rest.1 last (contains_had batch last greatest.0) in
                    let own : number_of r ≡ n = (numbered n r e).0 in
                    absurd (omega (arith, under, own, to))
              ]

          rise : AreNumbered t number_of → Rise number_of (kept ++ batch)
          rise numbered = rises_joined number_of kept batch (so_far.rows_are numbered).rise is.rise (λ r s before new.
              let low : number_of r ≤ after = ((so_far.rows_are numbered).sound r (contains_had kept r before)).1 in
              let high : after < number_of s = above_after s new in
              omega (arith, low, high))

    -- The same, where the number and the rows are named.
    pub next_so_far : (last : ℕ) → option_map number_of (slice_get batch (length batch - 1)) ≡ Some last → (more : List R) → more ≡ kept ++ batch
        → AreSoFar last (batches + 1) more
    next_so_far last end more is =
        let it = last_there number_of batch last end in
        subst (λ (n : ℕ). AreSoFar n (batches + 1) more) it.2 (subst (λ (l : List R). AreSoFar (number_of it.0) (batches + 1) l) (sym is) (more_so_far it.0 it.1))
