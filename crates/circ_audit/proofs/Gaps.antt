-- Numbers given without a gap.
use Rattle.std.proofs.Common.{◌≡◌, ◌≢◌, ◌⊎◌, ℕ, zero, suc, ◌+◌, ◌-◌, ◌<◌, ◌≤◌, true, false, List, [], ◌∷◌, length, get_or, take, drop, Option, Some, None}
use Rattle.std.proofs.Common.{refl, sym, ◌∙◌, ap, subst, inl, inr, arith}
use Rattle.std.specs.Prelude.{is_some, nat_lt, ◌==◌, option_map, slice_get}
use Rattle.std.specs.List.Sorted.{IsNonDecreasingBy, IsPartitionedBy, IsPartitionPoint}
use Rattle.std.proofs.lemmas.Bool.{cases_eq, cases_lt, lt-ltb, le-ltb, ltb-true, ltb-false, false≢true}
use Rattle.std.proofs.lemmas.List.{length-drop, get_or-drop, take_all}
use Rattle.std.proofs.lemmas.List.Sorted.{IsPartitionedBy-ltb}
use Rattle.std.proofs.lemmas.List.Elements.{Contains-get_or}
use Rattle.std.proofs.lemmas.Option.{slice_get_cases, slice_get_within, get_or_from_slice_get}
use Rattle.terms.specs.Orders.{Rise}
use Rattle.terms.proofs.OrderLemmas.{ordered-at}
use Rattle.circ_audit.specs.References.{has}
use Rattle.circ_audit.specs.Numbers.{is_given, IsGiven, begins_with_zero, next_of, IsPlaceOf, IsBeforeGap}
use Rattle.circ_audit.specs.Sound.{FailsFirst}
use Rattle.circ_audit.specs.Spans.{is_after, HoldsAfter, FailsAfter}
use Rattle.circ_audit.proofs.Firsts.{fails-same}
use Rattle.circ_audit.proofs.Lookups.{row-found, find-none, not-eqb}

module _ {R : Type 0} (number_of : R → ℕ) where
  -- A first row of number 0 is found, and where it has another, none has 0.
  zero-there : (rows : List R) → begins_with_zero number_of rows ≡ true → has number_of rows 0 ≡ true
  zero-there [] is = is
  zero-there (r ∷ rows) is = rw is refl

  -- A row of number 0 was never given.
  pub begun : (rows : List R) (next : ℕ) → begins_with_zero number_of rows ≡ true → FailsAfter None (IsGiven number_of next rows) (Some 0)
  begun rows next is = record {
    broken = λ given. false≢true (sym (given refl) ∙ zero-there rows is);
    below = λ m lt. absurd (omega (arith, lt));
  }

  pub zero-not-there : (rows : List R) → Rise number_of rows → begins_with_zero number_of rows ≡ false → has number_of rows 0 ≡ false
  zero-not-there [] rise is = refl
  zero-not-there (r ∷ rows) rise is = ap is_some (find-none (λ q. number_of q == 0) (r ∷ rows) none)
    where
      none : (k : ℕ) (d : R) → k < length (r ∷ rows) → (number_of (get_or (r ∷ rows) k d) == 0) ≡ false
      none zero d within = is
      none (suc k) d within =
          let above : number_of r < number_of (get_or (r ∷ rows) (suc k) d) =
          ordered-at (λ q s. number_of q < number_of s) (r ∷ rows) zero (suc k) d (omega arith) within rise in
          not-eqb (number_of (get_or (r ∷ rows) (suc k) d)) 0 (λ same. omega (arith, above, same))

  -- ---- rows from a place on

  pub rise-drop : (rows : List R) (place : ℕ) → Rise number_of rows → Rise number_of (drop place rows)
  rise-drop rows zero rise = rise
  rise-drop [] (suc place) rise = rise
  rise-drop (r ∷ rows) (suc place) rise = rise-drop rows place rise.1

  rises : (rows : List R) → Rise number_of rows → IsNonDecreasingBy number_of rows
  rises rows rise i j d le within = go (cases_eq i j)
    where
      go : (i ≡ j) ⊎ (i ≢ j) → number_of (get_or rows i d) ≤ number_of (get_or rows j d)
      go (inl same) = subst (λ (k : ℕ). number_of (get_or rows i d) ≤ number_of (get_or rows k d)) same (omega arith)
      go (inr other) =
          let less : number_of (get_or rows i d) < number_of (get_or rows j d) =
          ordered-at (λ r s. number_of r < number_of s) rows i j d (omega (arith, le, other)) within rise in
          omega (arith, less)

  pub parted : (rows : List R) → Rise number_of rows → (from : ℕ) → IsPartitionedBy (λ r. nat_lt (number_of r) from) rows
  parted rows rise from = IsPartitionedBy-ltb number_of rows from (rises rows rise)

  pub place-parted : (rows : List R) (from place : ℕ) → place ≤ length rows
      → IsPartitionPoint (λ r. nat_lt (number_of r) from ≡ true) (λ r. nat_lt (number_of r) from ≡ false) rows place → IsPlaceOf number_of rows from place
  place-parted rows from place within point = record {
    within = within;
    before = λ i d lt. ltb-true (number_of (get_or rows i d)) from (point.0 i d (omega arith) lt);
    after = λ i d low lt. ltb-false (number_of (get_or rows i d)) from (point.1 i d low lt);
  }

  -- The rows from there on have no lower number.
  pub rest-above : (rows : List R) (from place : ℕ) → IsPlaceOf number_of rows from place → (k : ℕ) (d : R) → k < length (drop place rows)
      → from ≤ number_of (get_or (drop place rows) k d)
  rest-above rows from place is k d within =
      let size : length (drop place rows) ≡ length rows - place = length-drop place rows in
      subst (λ (r : R). from ≤ number_of r) (sym (get_or-drop place rows k d)) (is.after (place + k) d (omega arith) (omega (arith, within, size)))

  -- They are all that there are from there on.
  pub rest-is : (rows : List R) (place : ℕ) → take (length rows - place) (drop place rows) ≡ drop place rows
  rest-is rows place =
      let size : length (drop place rows) ≡ length rows - place = length-drop place rows in
      take_all (length rows - place) (drop place rows) (omega (arith, size))

  -- Those before it have lower numbers, so it isn't there.
  has-from : (rows : List R) (place n : ℕ) → ((i : ℕ) (d : R) → i < place → number_of (get_or rows i d) < n)
      → has number_of rows n ≡ has number_of (drop place rows) n
  has-from rows zero n below = refl
  has-from [] (suc place) n below = refl
  has-from (r ∷ rows) (suc place) n below =
      let less : number_of r < n = below 0 r (omega arith) in
      let no : (number_of r == n) ≡ false = not-eqb (number_of r) n (λ same. omega (arith, less, same)) in
      rw no (has-from rows place n (λ i d lt. below (suc i) d (omega (arith, lt))))

  -- What is found among the numbers from the next one on is found among all after the other.
  pub misgiven-after : (rows : List R) (next place : ℕ) (after found : Option ℕ) → IsPlaceOf number_of rows (next_of after) place
      → (after ≡ None → has number_of rows 0 ≡ false) → FailsFirst (λ n. next_of after ≤ n → IsGiven number_of next (drop place rows) n) found
      → FailsAfter after (IsGiven number_of next rows) found
  misgiven-after rows next place after found parted zeroth =
      fails-same (λ n. next_of after ≤ n → IsGiven number_of next (drop place rows) n) (HoldsAfter after (IsGiven number_of next rows)) found back on
    where
      same : (m : ℕ) → next_of after ≤ m → has number_of rows m ≡ has number_of (drop place rows) m
      same m low = has-from rows place m (λ i d lt. let less : number_of (get_or rows i d) < next_of after = parted.before i d lt in omega (arith, less, low))

      comes : (after : Option ℕ) (m : ℕ) → next_of after ≤ m → is_after after m ≡ true
      comes None m low = refl
      comes (Some n) m low = lt-ltb n m (omega (arith, low))

      back : (m : ℕ) → HoldsAfter after (IsGiven number_of next rows) m → next_of after ≤ m → IsGiven number_of next (drop place rows) m
      back m law low = sym (same m low) ∙ law (comes after m low)

      early : (other : Option ℕ) (m : ℕ) → after ≡ other → m < next_of other → is_after other m ≡ true → IsGiven number_of next rows m
      early None zero is lt after-is = zeroth is
      early None (suc m) is lt after-is = absurd (omega (arith, lt))
      early (Some n) m is lt after-is = let above : n < m = ltb-true n m after-is in absurd (omega (arith, lt, above))

      on : (m : ℕ) → (next_of after ≤ m → IsGiven number_of next (drop place rows) m) → HoldsAfter after (IsGiven number_of next rows) m
      on m law is = go (cases_lt m (next_of after))
        where
          go : (m < next_of after) ⊎ (next_of after ≤ m) → IsGiven number_of next rows m
          go (inl lt) = early after m refl lt is
          go (inr low) = same m low ∙ law low

module _ {R : Type 0} (number_of : R → ℕ) (from : ℕ) (positive : 1 ≤ from) (rows : List R) (rise : Rise number_of rows)
    (above : (k : ℕ) (d : R) → k < length rows → from ≤ number_of (get_or rows k d)) (count : ℕ) (gap : IsBeforeGap number_of from rows count) where
  -- A number before the gap has its row.
  there-at : (n : ℕ) (d : R) → from ≤ n → n < from + count → has number_of rows n ≡ true
  there-at n d low to =
      let within : n - from < length rows = let few = gap.within in omega (arith, few, low, to) in
      let x = get_or rows (n - from) d in
      let c = Contains-get_or rows (n - from) d within in
      let is : number_of x ≡ from + (n - from) = gap.before (n - from) d (omega (arith, low, to)) in
      ap is_some (row-found number_of rows rise n c.0 x c.1 c.2 (omega (arith, is, low)))

  there : (n : ℕ) → from ≤ n → n < from + count → has number_of rows n ≡ true
  there n low to = go rows refl
    where
      go : (xs : List R) → rows ≡ xs → has number_of rows n ≡ true
      go [] none =
          let few = gap.within in
          let empty : length rows ≡ 0 = ap (λ (l : List R). length l) none in
          absurd (omega (arith, few, empty, low, to))
      go (d ∷ xs) is = there-at n d low to

  -- A number after the gap has none, if it is below that of the row there.
  not-there : (n : ℕ) → from + count ≤ n → ((d : R) → count < length rows → n < number_of (get_or rows count d)) → has number_of rows n ≡ false
  not-there n past below = ap is_some (find-none (λ r. number_of r == n) rows none)
    where
      none : (k : ℕ) (d : R) → k < length rows → (number_of (get_or rows k d) == n) ≡ false
      none k d within = not-eqb (number_of (get_or rows k d)) n (differs (cases_lt k count))
        where
          later : (count < k) ⊎ (k ≤ count) → count ≤ k → number_of (get_or rows k d) ≢ n
          later (inl more) low same =
              let higher : number_of (get_or rows count d) < number_of (get_or rows k d) =
              ordered-at (λ r s. number_of r < number_of s) rows count k d more within rise in
              let less : n < number_of (get_or rows count d) = below d (omega (arith, low, within)) in
              omega (arith, higher, less, same)
          later (inr to) low same =
              let is : k ≡ count = omega (arith, to, low) in
              let less : n < number_of (get_or rows count d) = below d (omega (arith, low, within)) in
              let at : number_of (get_or rows count d) ≡ n = subst (λ (i : ℕ). number_of (get_or rows i d) ≡ n) is same in
              omega (arith, less, at)

          differs : (k < count) ⊎ (count ≤ k) → number_of (get_or rows k d) ≢ n
          differs (inl before) same = let is : number_of (get_or rows k d) ≡ from + k = gap.before k d before in omega (arith, is, same, before, past)
          differs (inr low) same = later (cases_lt count k) low same

  -- The row at the gap has a greater number.
  past-gap : (d : R) → count < length rows → from + count < number_of (get_or rows count d)
  past-gap d within = go (cases_lt 0 count)
    where
      differs : number_of (get_or rows count d) ≢ from + count
      differs = gap.after d within

      go : (0 < count) ⊎ (count ≤ 0) → from + count < number_of (get_or rows count d)
      go (inl some) =
          let last : number_of (get_or rows (count - 1) d) ≡ from + (count - 1) = gap.before (count - 1) d (omega (arith, some)) in
          let higher : number_of (get_or rows (count - 1) d) < number_of (get_or rows count d) =
          ordered-at (λ r s. number_of r < number_of s) rows (count - 1) count d (omega (arith, some)) within rise in
          omega (arith, last, higher, some, differs)
      go (inr none) = let low : from ≤ number_of (get_or rows count d) = above count d within in omega (arith, low, none, differs)

  module _ (next : ℕ) where
    given-is : (n : ℕ) → from ≤ n → is_given next n ≡ nat_lt n next
    given-is zero low = absurd (omega (arith, low, positive))
    given-is (suc n) low = rw (lt-ltb 0 (suc n) (omega arith)) refl

    given : (n : ℕ) → from ≤ n → n < next → is_given next n ≡ true
    given n low lt = given-is n low ∙ lt-ltb n next lt

    not-given : (n : ℕ) → from ≤ n → next ≤ n → is_given next n ≡ false
    not-given n low le = given-is n low ∙ le-ltb n next le

    abbrev Right : ℕ → Type 0
    Right n = from ≤ n → IsGiven number_of next rows n

    -- Up to the gap and the numbers that were given, each is right.
    right : (m : ℕ) → m < from + count → m < next → Right m
    right m to lt low = there m low to ∙ sym (given m low lt)

    pub too-few : count < next - from → FailsFirst Right (Some (from + count))
    too-few less = record {
      broken = λ law. false≢true (sym (not-there (from + count) (omega arith) past-gap) ∙ law (omega arith)
          ∙ given (from + count) (omega arith) (omega (arith, less)));
      below = λ m lt. right m lt (omega (arith, lt, less));
    }

    -- Where all that were given are there, each later row is wrong.
    pub as-many : next - from ≤ count → FailsFirst Right (option_map number_of (slice_get rows (next - from)))
    as-many enough = go (slice_get rows (next - from)) refl
      where
        go : (o : Option R) → slice_get rows (next - from) ≡ o → FailsFirst Right (option_map number_of o)
        go None none = λ n. at n (cases_lt n (from + (next - from)))
          where
            past : length rows ≤ next - from
            past = beyond (slice_get_cases rows (next - from)).1
              where
                beyond : ((x : R) × (next - from < length rows) × (slice_get rows (next - from) ≡ Some x) × (get_or rows (next - from) x ≡ x))
                    ⊎ ((length rows ≤ next - from) × (slice_get rows (next - from) ≡ None)) → length rows ≤ next - from
                beyond (inl w) = let some : slice_get rows (next - from) ≡ Some w.0 = w.2 in let never : ⊥ = cc in absurd never
                beyond (inr w) = w.0

            at : (n : ℕ) → (n < from + (next - from)) ⊎ (from + (next - from) ≤ n) → Right n
            at n (inl lt) low = right n (omega (arith, lt, enough)) (omega (arith, lt, low)) low
            at n (inr ge) low =
                let all : length rows ≤ next - from = past in
                let few = gap.within in
                not-there n (omega (arith, ge, all, few)) (λ d within. absurd (omega (arith, within, all, enough))) ∙ sym (not-given n low (omega (arith, ge)))
        go (Some r) some =
            let within = slice_get_within rows (next - from) r some in
            let is : get_or rows (next - from) r ≡ r = get_or_from_slice_get rows (next - from) r r some in
            record {
              broken = λ law.
                  let low : from + (next - from) ≤ number_of r = at-least in
                  let found : has number_of rows (number_of r) ≡ true = ap is_some (row-found number_of rows rise (number_of r) (next - from) r within is refl) in
                  false≢true (sym (not-given (number_of r) (omega (arith, low)) (omega (arith, low))) ∙ sym (law (omega (arith, low))) ∙ found);
              below = λ m lt. at m lt (cases_lt m (from + (next - from)));
            }
          where
            is-here : (d : R) → get_or rows (next - from) d ≡ r
            is-here d = get_or_from_slice_get rows (next - from) r d some

            inside : next - from < length rows
            inside = slice_get_within rows (next - from) r some

            exact : next - from < count → number_of r ≡ from + (next - from)
            exact before = subst (λ (q : R). number_of q ≡ from + (next - from)) (is-here r) (gap.before (next - from) r before)

            at-least : from + (next - from) ≤ number_of r
            at-least = subst (λ (q : R). from + (next - from) ≤ number_of q) (is-here r) (reach (cases_lt (next - from) count))
              where
                reach : (next - from < count) ⊎ (count ≤ next - from) → from + (next - from) ≤ number_of (get_or rows (next - from) r)
                reach (inl before) = let same : number_of (get_or rows (next - from) r) ≡ from + (next - from) = gap.before (next - from) r before in omega (arith, same)
                reach (inr le) =
                    let equal : count ≡ next - from = omega (arith, le, enough) in
                    let more : from + count < number_of (get_or rows count r) = past-gap r (omega (arith, equal, inside)) in
                    let here : from + count < number_of (get_or rows (next - from) r) =
                    subst (λ (i : ℕ). from + count < number_of (get_or rows i r)) equal more in
                    omega (arith, here, equal)

            at : (m : ℕ) → m < number_of r → (m < from + (next - from)) ⊎ (from + (next - from) ≤ m) → Right m
            at m lt (inl early) low = right m (omega (arith, early, enough)) (omega (arith, early, low)) low
            at m lt (inr ge) low = later (cases_lt (next - from) count)
              where
                later : (next - from < count) ⊎ (count ≤ next - from) → IsGiven number_of next rows m
                later (inl before) = let same : number_of r ≡ from + (next - from) = exact before in absurd (omega (arith, same, lt, ge))
                later (inr le) =
                    let equal : count ≡ next - from = omega (arith, le, enough) in
                    not-there m (omega (arith, ge, le, enough)) (λ d within'. subst (λ (q : R). m < number_of q)
                    (sym (subst (λ (i : ℕ). get_or rows i d ≡ r) (sym equal) (is-here d))) lt) ∙ sym (not-given m low (omega (arith, ge)))
