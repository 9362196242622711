-- A list reported row by row is the requested part of it.
use Rattle.std.proofs.Common.{◌≡◌, ℕ, zero, suc, ◌≤◌, ◌<◌, ◌+◌, ◌-◌, ◌==◌, nat_lt, Bool, true, false, cond, ◌||◌, ◌⊎◌, inl, inr, List, [], ◌∷◌, ◌++◌}
use Rattle.std.proofs.Common.{length, map, take, drop, slice_get, slice_index_or, append_assoc, append-nil}
use Rattle.std.proofs.Common.{refl, sym, ◌∙◌, ap, ap₂, subst, arith}
use Rattle.std.specs.Prelude.{Some, option_map, codes, decimal}
use Rattle.std.specs.List.{Contains, join_with_byte}
use Rattle.std.proofs.lemmas.Bool.{eqb-true, eq-eqb, ne_eqb, ltb-true, lt-ltb, le-ltb, or_cases, cases_lt, cases_eq}
use Rattle.std.proofs.Math.Seq.{take-append-add}
use Rattle.std.proofs.lemmas.List.{map-append, length-append, length-take-le, take_all, take-append-le}
use Rattle.circ_tables.specs.declared.by_number.TheConstants.{BATCH_ROWS}
use Rattle.terms.specs.Orders.{Rise}
use Rattle.terms.specs.declared.limits.TheConstants.{MOST_ROWS}
use Rattle.model.specs.Asking.{Listing, above, last_of, listed, end_line}
use Rattle.model.specs.AskingLaws.{Rises, AreRising, has_number}
use Rattle.model.specs.Pages.{spaced}
use Rattle.model.specs.Reports.{report_lines}
use Rattle.model.proofs.Members.{has}
use Rattle.desk.specs.Listing.{HasBatch, IsAdded, IsTold, IsRowCut, HasTold, IsSoFar, lines_of, end_words}
use Rattle.desk.specs.Parts.{IsFront}
use Rattle.desk.specs.declared.listing.Told.{Told}
use Rattle.desk.proofs.Parts.{front-then}
use Rattle.desk.proofs.Contained.{in-head, in-tail, in-cases, in-none, above-first}
use Rattle.desk.proofs.ReportLines.{report-more, report-last}

-- ---- what is in a list

pub has-cases : (x k : ℕ) (xs : List ℕ) → has (x ∷ xs) k ≡ true → (x ≡ k) ⊎ (has xs k ≡ true)
has-cases x k xs e = go (or_cases (x == k) (has xs k) e)
  where
    go : ((x == k) ≡ true) ⊎ (has xs k ≡ true) → (x ≡ k) ⊎ (has xs k ≡ true)
    go (inl p) = inl (eqb-true x k p)
    go (inr q) = inr q

pub has-first : (x : ℕ) (xs : List ℕ) → has (x ∷ xs) x ≡ true
has-first x xs = ap (λ b. b || has xs x) (eq-eqb x x refl)

pub has-later : (x k : ℕ) (xs : List ℕ) → has xs k ≡ true → has (x ∷ xs) k ≡ true
has-later x k xs e = go (x == k)
  where
    go : (b : Bool) → (b || has xs k) ≡ true
    go true = refl
    go false = e

rises-above : (a k : ℕ) (xs : List ℕ) → Rises a xs → has xs k ≡ true → a < k
rises-above a k [] r e = let never : ⊥ = cc in absurd never
rises-above a k (x ∷ xs) r e = go (rises-above x k xs r.1) (has-cases x k xs e)
  where
    go : (has xs k ≡ true → x < k) → (x ≡ k) ⊎ (has xs k ≡ true) → a < k
    go ih (inl same) = let lt : a < x = r.0 in omega (arith, lt, same)
    go ih (inr more) = let lt : a < x = r.0 in let next : x < k = ih more in omega (arith, lt, next)

-- The last is not below any of them.
rises-last : (a k : ℕ) (xs : List ℕ) → Rises a xs → (k ≡ a) ⊎ (has xs k ≡ true) → k ≤ last_of a xs
rises-last a k [] r (inl same) = omega (arith, same)
rises-last a k [] r (inr none) = let never : ⊥ = cc in absurd never
rises-last a k (x ∷ xs) r (inl same) =
    let lt : a < x = r.0 in let le : x ≤ last_of x xs = rises-last x x xs r.1 (inl refl) in omega (arith, same, lt, le)
rises-last a k (x ∷ xs) r (inr e) = go (rises-last x k xs r.1) (has-cases x k xs e)
  where
    go : ((k ≡ x) ⊎ (has xs k ≡ true) → k ≤ last_of x xs) → (x ≡ k) ⊎ (has xs k ≡ true) → k ≤ last_of x xs
    go ih (inl same) = ih (inl (sym same))
    go ih (inr more) = ih (inr more)

-- ---- above a number

-- All of numbers that rise from one are above each that isn't above it.
above-all : (a b : ℕ) (xs : List ℕ) → a ≤ b → Rises b xs → above a xs ≡ xs
above-all a b [] le r = refl
above-all a b (x ∷ xs) le r =
    let lt : b < x = r.0 in
    ap (λ (c : Bool). cond c (x ∷ above a xs) (above a xs)) (lt-ltb a x (omega (arith, le, lt)))
    ∙ ap (λ (ys : List ℕ). x ∷ ys) (above-all a x xs (omega (arith, le, lt)) r.1)

above-none : (a : ℕ) (xs : List ℕ) → ((k : ℕ) → has xs k ≡ true → k ≤ a) → above a xs ≡ []
above-none a [] low = refl
above-none a (x ∷ xs) low = go (above-none a xs (λ k there. low k (has-later x k xs there))) (nat_lt a x) refl
  where
    go : above a xs ≡ [] → (b : Bool) → nat_lt a x ≡ b → cond b (x ∷ above a xs) (above a xs) ≡ []
    go ih true e = let lt : a < x = ltb-true a x e in let le : x ≤ a = low x (has-first x xs) in absurd (omega (arith, lt, le))
    go ih false e = ih

tail-rises : (x : ℕ) (xs : List ℕ) → Rises x xs → AreRising xs
tail-rises x [] r = tt
tail-rises x (y ∷ xs) r = r.1

-- What is above a number begins with the next one, where that is in the list and none is between them; where it isn't, what is above both is the same.
abbrev next_above : ℕ → List ℕ → Bool → List ℕ
next_above n xs b = cond b (n ∷ above n xs) (above n xs)

module _ (at n : ℕ) (less : at < n) where
  -- where the first is above
  from_above : (x : ℕ) (xs : List ℕ) → Rises x xs → n ≤ x → (x ≡ n) ⊎ (x ≡ n → ⊥) → (b : Bool) → has (x ∷ xs) n ≡ b
      → x ∷ xs ≡ next_above n (x ∷ xs) b
  from_above x xs r le (inl same) true e =
      let rest : above n (x ∷ xs) ≡ xs = ap (λ (d : Bool). cond d (x ∷ above n xs) (above n xs)) (le-ltb n x (omega (arith, same)))
      ∙ above-all n x xs (omega (arith, same)) r in
      ap₂ (λ (y : ℕ) (ys : List ℕ). y ∷ ys) same (sym rest)
  from_above x xs r le (inl same) false e =
      let yes : has (x ∷ xs) n ≡ true = ap (λ d. d || has xs n) (eq-eqb x n same) in let never : ⊥ = cc in absurd never
  from_above x xs r le (inr other) true e = absurd (elim (has-cases x n xs e) [
    | inl is ↦ other is
    | inr more ↦ (let lt : x < n = rises-above x n xs r more in omega (arith, lt, le))
  ])
  from_above x xs r le (inr other) false e =
      let lt : n < x = elim (cases_lt n x) [ inl lt ↦ lt | inr ge ↦ absurd (other (omega (arith, le, ge))) ] in
      sym (ap (λ (d : Bool). cond d (x ∷ above n xs) (above n xs)) (lt-ltb n x lt) ∙ ap (λ (ys : List ℕ). x ∷ ys) (above-all n x xs le r))

  pub above-next : (xs : List ℕ) → AreRising xs → ((k : ℕ) → has xs k ≡ true → at < k → n ≤ k) → (b : Bool) → has xs n ≡ b
      → above at xs ≡ next_above n xs b
  above-next [] r between true e = let never : ⊥ = cc in absurd never
  above-next [] r between false e = refl
  above-next (x ∷ xs) r between b e = go (λ k. above-next xs (tail-rises x xs r) k b) (cases_lt at x)
    where
      go : (((k : ℕ) → has xs k ≡ true → at < k → n ≤ k) → has xs n ≡ b → above at xs ≡ next_above n xs b) → (at < x) ⊎ (x ≤ at)
          → above at (x ∷ xs) ≡ next_above n (x ∷ xs) b
      go ih (inl lt) =
          ap (λ (d : Bool). cond d (x ∷ above at xs) (above at xs)) (lt-ltb at x lt)
          ∙ ap (λ (ys : List ℕ). x ∷ ys) (above-all at x xs (omega (arith, lt)) r)
          ∙ from_above x xs r (between x (has-first x xs) lt) (cases_eq x n) b e
      go ih (inr le) =
          let low : nat_lt n x ≡ false = le-ltb n x (omega (arith, le, less)) in
          let other : (x == n) ≡ false = ne_eqb x n (λ same. omega (arith, same, le, less)) in
          ap (λ (d : Bool). cond d (x ∷ above at xs) (above at xs)) (le-ltb at x le)
          ∙ ih (λ k there. between k (has-later x k xs there)) (sym (ap (λ (d : Bool). d || has xs n) other) ∙ e)
          ∙ sym (ap (λ (ys : List ℕ). cond b (n ∷ ys) ys) (ap (λ (d : Bool). cond d (x ∷ above n xs) (above n xs)) low))

-- ---- one row more

module _ (x : Listing) (most : ℕ) (front : List ℕ) (n : ℕ) (old new : Told) (before sent : List ℕ) (so_far : HasTold x most front old before) where
  more-rows : length (front ++ n ∷ []) ≡ length front + 1
  more-rows = length-append front (n ∷ [])

  last-more : (a : ℕ) (xs : List ℕ) → last_of a (xs ++ n ∷ []) ≡ n
  last-more a [] = refl
  last-more a (y ∷ xs) = last-more y xs

  -- there was room
  room : length front < most → IsAdded most n (x.row n) old new sent → HasTold x most (front ++ n ∷ []) new (before ++ sent)
  room lt add =
      let whole : take most front ≡ front = take_all most front (omega (arith, lt)) in
      let next : take most (front ++ n ∷ []) ≡ front ++ n ∷ [] = take_all most (front ++ n ∷ []) (omega (arith, lt, more-rows)) in
      let had : old.rows ≡ length front = so_far.rows ∙ ap (λ (ys : List ℕ). length ys) whole in
      let fits : nat_lt old.rows most ≡ true = lt-ltb old.rows most (omega (arith, had, lt)) in
      record {
        lines = ap₂ (λ (t u : List ℕ). t ++ u) (so_far.lines ∙ ap (λ (ys : List ℕ). report_lines (map x.row ys)) whole) (rw fits at add.lines)
            ∙ sym (report-last (map x.row front) (x.row n))
            ∙ ap report_lines (sym (map-append x.row front (n ∷ [])))
            ∙ ap (λ (ys : List ℕ). report_lines (map x.row ys)) (sym next);
        rows = (rw fits at add.rows) ∙ ap (λ (k : ℕ). k + 1) had ∙ sym more-rows ∙ ap (λ (ys : List ℕ). length ys) (sym next);
        last = (rw fits at add.last) ∙ sym (last-more 0 front) ∙ ap (last_of 0) (sym next);
        more = (rw fits at add.more) ∙ so_far.more ∙ le-ltb most (length front) (omega (arith, lt))
            ∙ sym (le-ltb most (length (front ++ n ∷ [])) (omega (arith, lt, more-rows)));
      }

  -- as many as wanted were told
  full : most ≤ length front → IsAdded most n (x.row n) old new sent → HasTold x most (front ++ n ∷ []) new (before ++ sent)
  full ge add =
      let same : take most (front ++ n ∷ []) ≡ take most front = take-append-le most front (n ∷ []) ge in
      let had : old.rows ≡ most = so_far.rows ∙ length-take-le most front ge in
      let none : nat_lt old.rows most ≡ false = le-ltb old.rows most (omega (arith, had)) in
      record {
        lines = ap₂ (λ (t u : List ℕ). t ++ u) so_far.lines (rw none at add.lines) ∙ append-nil (report_lines (map x.row (take most front)))
            ∙ ap (λ (ys : List ℕ). report_lines (map x.row ys)) (sym same);
        rows = (rw none at add.rows) ∙ so_far.rows ∙ ap (λ (ys : List ℕ). length ys) (sym same);
        last = (rw none at add.last) ∙ so_far.last ∙ ap (last_of 0) (sym same);
        more = (rw none at add.more) ∙ sym (lt-ltb most (length (front ++ n ∷ [])) (omega (arith, ge, more-rows)));
      }

  told-more : IsAdded most n (x.row n) old new sent → HasTold x most (front ++ n ∷ []) new (before ++ sent)
  told-more add = elim (cases_lt (length front) most) [ inl lt ↦ room lt add | inr ge ↦ full ge add ]

-- ---- what may be left of a list that was cut off

take-parts : (n : ℕ) (xs ys : List ℕ) → take n (xs ++ ys) ≡ take n xs ++ take (n - length xs) ys
take-parts n xs ys = elim (cases_lt n (length xs)) [
  | inl lt ↦ (
      let none : 0 ≡ n - length xs = omega (arith, lt) in
      take-append-le n xs ys (omega (arith, lt)) ∙ sym (append-nil (take n xs)) ∙ ap (λ (k : ℕ). take n xs ++ take k ys) none
      )
  | inr ge ↦ (
      let all : n ≡ length xs + (n - length xs) = omega (arith, ge) in
      ap (λ (k : ℕ). take k (xs ++ ys)) all ∙ take-append-add xs ys (n - length xs)
      ∙ ap (λ (t : List ℕ). t ++ take (n - length xs) ys) (sym (take_all n xs ge))
      )
]

lines-parts : (x : Listing) (most : ℕ) (front rest : List ℕ)
    → report_lines (map x.row (take most (front ++ rest)))
    ≡ report_lines (map x.row (take most front)) ++ report_lines (map x.row (take (most - length front) rest))
lines-parts x most front rest =
    ap (λ (ys : List ℕ). report_lines (map x.row ys)) (take-parts most front rest)
    ∙ ap report_lines (map-append x.row (take most front) (take (most - length front) rest))
    ∙ report-more (map x.row (take most front)) (map x.row (take (most - length front) rest))

module _ (x : Listing) (most after at : ℕ) (told : Told) (before : List ℕ) (so_far : IsSoFar x most after at told before) where
  -- What is wanted begins with what was told.
  parted : lines_of x most after ≡ before ++ report_lines (map x.row (take (most - length so_far.front) (above at x.numbers)))
  parted =
      ap (λ (ys : List ℕ). report_lines (map x.row (take most ys))) so_far.split ∙ lines-parts x most so_far.front (above at x.numbers)
      ∙ ap (λ (t : List ℕ). t ++ report_lines (map x.row (take (most - length so_far.front) (above at x.numbers)))) (sym so_far.is.lines)

  pub so-far-front : IsFront before (lines_of x most after)
  so-far-front = (report_lines (map x.row (take (most - length so_far.front) (above at x.numbers))), parted)

  -- The next row goes on with it, or a beginning of that row.
  pub row-cut : (n : ℕ) (sent : List ℕ) → AreRising x.numbers → at < n → ((k : ℕ) → has_number x.numbers k → at < k → n ≤ k)
      → IsRowCut x most n told sent → IsFront (before ++ sent) (lines_of x most after)
  row-cut n sent rising less between (inl none) =
      subst (λ (t : List ℕ). IsFront t (lines_of x most after)) (sym (append-nil before) ∙ ap (λ (t : List ℕ). before ++ t) (sym none)) so-far-front
  row-cut n sent rising less between (inr cut) =
      let room : told.rows < most = cut.1 in
      let had : told.rows ≡ length (take most so_far.front) = so_far.is.rows in
      let short : length so_far.front < most = elim (cases_lt (length so_far.front) most) [
        | inl lt ↦ lt
        | inr ge ↦ (let full : length (take most so_far.front) ≡ most = length-take-le most so_far.front ge in absurd (omega (arith, room, had, full)))
      ] in
      let left : ℕ = most - length so_far.front - 1 in
      let some : most - length so_far.front ≡ suc left = omega (arith, short) in
      let next : above at x.numbers ≡ n ∷ above n x.numbers = above-next at n less x.numbers rising between true cut.0 in
      front-then before sent (x.row n ++ 10 ∷ []) (report_lines (map x.row (take left (above n x.numbers)))) (lines_of x most after)
      (parted ∙ (λ i. before ++ report_lines (map x.row (take (some i) (next i))))) cut.2

-- The next row was told, or isn't one of the list.
pub row-so-far : (x : Listing) (most after at n : ℕ) (old new : Told) (before sent : List ℕ) → AreRising x.numbers → at < n
    → ((k : ℕ) → has_number x.numbers k → at < k → n ≤ k) → IsTold x most n old new sent → IsSoFar x most after at old before
    → IsSoFar x most after n new (before ++ sent)
row-so-far x most after at n old new before sent rising less between (inl told) so_far = record {
  front = so_far.front ++ n ∷ [];
  split = so_far.split ∙ ap (λ (t : List ℕ). so_far.front ++ t) (above-next at n less x.numbers rising between true told.0)
      ∙ sym (append_assoc so_far.front (n ∷ []) (above n x.numbers));
  is = told-more x most so_far.front n old new before sent so_far.is told.1;
}
row-so-far x most after at n old new before sent rising less between (inr none) so_far = record {
  front = so_far.front;
  split = so_far.split ∙ ap (λ (t : List ℕ). so_far.front ++ t) (above-next at n less x.numbers rising between false none.0);
  is = subst (λ (t : Told). HasTold x most so_far.front t (before ++ sent)) (sym none.1)
      (subst (HasTold x most so_far.front old) (sym (ap (λ (t : List ℕ). before ++ t) none.2 ∙ append-nil before)) so_far.is);
}

-- ---- the rows of a batch

-- Rising numbers among which all of the others are that are above a number, or the others come after them.
record Covers (xs : List ℕ) (at : ℕ) (ns : List ℕ) : Type 0 where
  pub rises : Rises at ns
  pub whole : (k : ℕ) → has xs k ≡ true → at < k → (has ns k ≡ true) ⊎ ((m : ℕ) → has ns m ≡ true → m < k)

covers-tail : (xs : List ℕ) (at n : ℕ) (ns : List ℕ) → Covers xs at (n ∷ ns) → Covers xs n ns
covers-tail xs at n ns is = record {
  rises = is.rises.1;
  whole = λ k there more. let lt : at < n = is.rises.0 in elim (is.whole k there (omega (arith, lt, more))) [
    | inl has ↦ elim (has-cases n k ns has) [ inl same ↦ absurd (omega (arith, same, more)) | inr later ↦ inl later ]
    | inr all ↦ inr (λ m later. all m (has-later n m ns later))
  ];
}

covers-first : (xs : List ℕ) (at n : ℕ) (ns : List ℕ) → Covers xs at (n ∷ ns) → (k : ℕ) → has xs k ≡ true → at < k → n ≤ k
covers-first xs at n ns is k there more = elim (is.whole k there more) [
  | inl has ↦ elim (has-cases n k ns has) [
    | inl same ↦ omega (arith, same)
    | inr later ↦ (let lt : n < k = rises-above n k ns is.rises.1 later in omega (arith, lt))
  ]
  | inr all ↦ (let lt : n < k = all n (has-first n ns) in omega (arith, lt))
]

module _ {R : Type 0} (number_of : R → ℕ) where
  abbrev reached : ℕ → List R → ℕ
  reached at rows = last_of at (map number_of rows)

  rises-rows : (at : ℕ) (rows : List R) → ((r : R) → Contains rows r → at < number_of r) → Rise number_of rows → Rises at (map number_of rows)
  rises-rows at [] low rise = tt
  rises-rows at (r ∷ rows) low rise =
      (low r (in-head r rows), rises-rows (number_of r) rows (λ s there. above-first number_of (number_of r) rows rise.0 s there) rise.1)

  has-row : (rows : List R) (k : ℕ) → has (map number_of rows) k ≡ true → (r : R) × Contains rows r × (number_of r ≡ k)
  has-row [] k e = let never : ⊥ = cc in absurd never
  has-row (r ∷ rows) k e = go (λ q. has-row rows k q) (has-cases (number_of r) k (map number_of rows) e)
    where
      go : (has (map number_of rows) k ≡ true → (s : R) × Contains rows s × (number_of s ≡ k)) → (number_of r ≡ k)
          ⊎ (has (map number_of rows) k ≡ true) → (s : R) × Contains (r ∷ rows) s × (number_of s ≡ k)
      go ih (inl same) = (r, in-head r rows, same)
      go ih (inr more) = let it = ih more in (it.0, in-tail r it.0 rows it.1, it.2)

  pub row-has : (rows : List R) (r : R) → Contains rows r → has (map number_of rows) (number_of r) ≡ true
  row-has [] r there = absurd (in-none r there)
  row-has (x ∷ rows) r there = elim (in-cases x r rows there) [
    | inl same ↦ ap (λ (k : ℕ). (k == number_of r) || has (map number_of rows) (number_of r)) (ap number_of (sym same))
        ∙ ap (λ (b : Bool). b || has (map number_of rows) (number_of r)) (eq-eqb (number_of r) (number_of r) refl)
    | inr later ↦ has-later (number_of x) (number_of r) (map number_of rows) (row-has rows r later)
  ]

  module _ (Is : R → Type 0) (x : Listing) where
    covers : (at : ℕ) (rows : List R) → HasBatch number_of Is x at rows → Covers x.numbers at (map number_of rows)
    covers at rows batch = record {
      rises = rises-rows at rows (λ r there. (batch.sound r there).1) batch.rise;
      whole = λ k there more. elim (batch.whole k there more) [
        | inl is ↦ inl is
        | inr rest ↦ inr (λ m is. let it = has-row rows m is in subst (λ (j : ℕ). j < k) it.2 (rest.1 it.0 it.1))
      ];
    }

    -- each row in turn
    turn : (i : ℕ) (at : ℕ) (rows : List R) (r : R) → i < length rows → r ≡ slice_index_or rows i r → Covers x.numbers at (map number_of rows)
        → (reached at (take i rows) < number_of r) × ((k : ℕ) → has_number x.numbers k → reached at (take i rows) < k → number_of r ≤ k)
        × (reached at (take (i + 1) rows) ≡ number_of r)
    turn i at [] r lt e is = absurd (omega (arith, lt))
    turn zero at (y ∷ rows) r lt e is =
        let same : number_of r ≡ number_of y = ap number_of e in (
          subst (λ (m : ℕ). at < m) (sym same) is.rises.0,
          λ k there more. subst (λ (m : ℕ). m ≤ k) (sym same) (covers-first x.numbers at (number_of y) (map number_of rows) is k there more),
          sym same,
        )
    turn (suc i) at (y ∷ rows) r lt e is =
        let it = turn i (number_of y) rows r (omega (arith, lt)) e (covers-tail x.numbers at (number_of y) (map number_of rows) is) in
        let next : suc i + 1 ≡ suc (i + 1) = omega arith in
        (it.0, it.1, subst (λ (n : ℕ). reached at (take n (y ∷ rows)) ≡ number_of r) (sym next) it.2)

    pub turn-of : (i : ℕ) (at : ℕ) (rows : List R) (r : R) → i < length rows → r ≡ slice_index_or rows i r → HasBatch number_of Is x at rows
        → (reached at (take i rows) < number_of r) × ((k : ℕ) → has_number x.numbers k → reached at (take i rows) < k → number_of r ≤ k)
        × (number_of r ≡ reached at (take (i + 1) rows))
    turn-of i at rows r lt e batch = let it = turn i at rows r lt e (covers at rows batch) in (it.0, it.1, sym it.2)

    -- Nothing of the list is left after a batch that isn't full.
    pub batch-ends : (at : ℕ) (rows : List R) → HasBatch number_of Is x at rows → length rows < BATCH_ROWS → above (reached at rows) x.numbers ≡ []
    batch-ends at rows batch short = above-none (reached at rows) x.numbers (λ k there. elim (cases_lt at k) [
      | inl more ↦ elim (batch.whole k there more) [
        | inl is ↦ rises-last at k (map number_of rows) (covers at rows batch).rises (inr is)
        | inr rest ↦ (let all : length rows ≡ BATCH_ROWS = rest.0 in absurd (omega (arith, all, short)))
      ]
      | inr low ↦ (let le : at ≤ reached at rows = rises-last at at (map number_of rows) (covers at rows batch).rises (inl refl) in omega (arith, low, le))
    ])

    -- The last number of a batch isn't below that of its first row.
    pub batch-reaches : (at : ℕ) (r : R) (rows : List R) → HasBatch number_of Is x at (r ∷ rows) → number_of r ≤ last_of at (map number_of (r ∷ rows))
    batch-reaches at r rows batch =
        rises-last at (number_of r) (map number_of (r ∷ rows)) (covers at (r ∷ rows) batch).rises (inr (has-first (number_of r) (map number_of rows)))

    -- The last row of a batch has the greatest number.
    pub batch-last : (at last : ℕ) (rows : List R) → option_map number_of (slice_get rows (length rows - 1)) ≡ Some last → reached at rows ≡ last
    batch-last at last [] e = let never : ⊥ = cc in absurd never
    batch-last at last (r ∷ []) e = cc
    batch-last at last (r ∷ s ∷ rows) e =
        let same : length (r ∷ s ∷ rows) - 1 ≡ suc (length (s ∷ rows) - 1) = omega arith in
        batch-last (number_of r) last (s ∷ rows) (subst (λ (i : ℕ). option_map number_of (slice_get (r ∷ s ∷ rows) i) ≡ Some last) same e)

-- ---- the answer

-- Nothing was told yet.
pub none-so-far : (x : Listing) (most after : ℕ) (told : Told) (sent : List ℕ) → sent ≡ [] → told.rows ≡ 0 → told.last ≡ 0
    → told.more ≡ false → IsSoFar x most after after told sent
none-so-far x most after told sent none rows last more =
    let empty : [] ≡ take most [] = sym (take_all {A = ℕ} most [] (omega arith)) in
    record {
      front = [];
      split = refl;
      is = record {
        lines = none ∙ ap (λ (ys : List ℕ). report_lines (map x.row ys)) empty;
        rows = rows ∙ ap (λ (ys : List ℕ). length ys) empty;
        last = last ∙ ap (last_of 0) empty;
        more = more ∙ sym (le-ltb most 0 (omega arith));
      };
    }

-- More were told than are wanted: so the others make no difference.
told-enough : (x : Listing) (most : ℕ) (front rest : List ℕ) (told : Told) (sent : List ℕ) → told.more ≡ true → HasTold x most front told sent
    → HasTold x most (front ++ rest) told sent
told-enough x most front rest told sent more is =
    let many : most < length front = ltb-true most (length front) (sym is.more ∙ more) in
    let same : take most (front ++ rest) ≡ take most front = take-append-le most front rest (omega (arith, many)) in
    let all : length (front ++ rest) ≡ length front + length rest = length-append front rest in
    record {
      lines = is.lines ∙ ap (λ (ys : List ℕ). report_lines (map x.row ys)) (sym same);
      rows = is.rows ∙ ap (λ (ys : List ℕ). length ys) (sym same);
      last = is.last ∙ ap (last_of 0) (sym same);
      more = more ∙ sym (lt-ltb most (length (front ++ rest)) (omega (arith, many, all)));
    }

-- All was told once nothing is left, or once there are more.
told-all : (x : Listing) (most after at : ℕ) (told : Told) (sent : List ℕ) → (above at x.numbers ≡ []) ⊎ (told.more ≡ true)
    → IsSoFar x most after at told sent → HasTold x most (above after x.numbers) told sent
told-all x most after at told sent (inl none) so_far =
    let all : above after x.numbers ≡ so_far.front = so_far.split ∙ ap (λ (t : List ℕ). so_far.front ++ t) none ∙ append-nil so_far.front in
    subst (λ (ns : List ℕ). HasTold x most ns told sent) (sym all) so_far.is
told-all x most after at told sent (inr more) so_far =
    subst (λ (ns : List ℕ). HasTold x most ns told sent) (sym so_far.split)
    (told-enough x most so_far.front (above at x.numbers) told sent more so_far.is)

-- After a batch that isn't full, or once there are more than are wanted, all was told.
pub told-end : {R : Type 0} (number_of : R → ℕ) (Is : R → Type 0) (x : Listing) (most after at : ℕ) (told : Told) (sent : List ℕ) (rows : List R)
    → HasBatch number_of Is x at rows → (length rows < BATCH_ROWS) ⊎ (told.more ≡ true)
    → IsSoFar x most after (last_of at (map number_of rows)) told sent → HasTold x most (above after x.numbers) told sent
told-end number_of Is x most after at told sent rows batch (inl short) so_far =
    told-all x most after (last_of at (map number_of rows)) told sent (inl (batch-ends number_of Is x at rows batch short)) so_far
told-end number_of Is x most after at told sent rows batch (inr more) so_far =
    told-all x most after (last_of at (map number_of rows)) told sent (inr more) so_far

-- After one that is, the next begins at its last number, which is above the one before it.
pub told-next : {R : Type 0} (number_of : R → ℕ) (Is : R → Type 0) (x : Listing) (most after at last : ℕ) (told : Told) (sent : List ℕ)
    (rows : List R) → HasBatch number_of Is x at rows → option_map number_of (slice_get rows (length rows - 1)) ≡ Some last
    → IsSoFar x most after (last_of at (map number_of rows)) told sent → IsSoFar x most after last told sent × (at < last)
told-next number_of Is x most after at last told sent [] batch end so_far = let never : ⊥ = cc in absurd never
told-next number_of Is x most after at last told sent (r ∷ rows) batch end so_far =
    let same : last_of at (map number_of (r ∷ rows)) ≡ last = batch-last number_of Is x at last (r ∷ rows) end in
    let more : at < number_of r = (batch.sound r (in-head r rows)).1 in
    let le : number_of r ≤ last_of at (map number_of (r ∷ rows)) =
    rises-last at (number_of r) (map number_of (r ∷ rows)) (covers number_of Is x at (r
    ∷ rows) batch).rises (inr (has-first (number_of r) (map number_of rows))) in
    (subst (λ (n : ℕ). IsSoFar x most after n told sent) same so_far, omega (arith, same, more, le))

pub join-last : (ls : List (List ℕ)) (e : List ℕ) → join_with_byte 10 (ls ++ e ∷ []) ≡ report_lines ls ++ e
join-last [] e = refl
join-last (l ∷ []) e = sym (ap (λ (t : List ℕ). t ++ e) (append-nil (l ++ 10 ∷ [])) ∙ append_assoc l (10 ∷ []) e)
join-last (l ∷ m ∷ ms) e =
    ap (λ (t : List ℕ). l ++ 10 ∷ t) (join-last (m ∷ ms) e)
    ∙ sym (append_assoc (l ++ 10 ∷ []) (report_lines (m ∷ ms)) e ∙ append_assoc l (10 ∷ []) (report_lines (m ∷ ms) ++ e))

drop-some : (n : ℕ) (xs : List ℕ) → n < length xs → (y : ℕ) × (ys : List ℕ) × (drop n xs ≡ y ∷ ys)
drop-some n [] lt = absurd (omega (arith, lt))
drop-some zero (x ∷ xs) lt = (x, xs, refl)
drop-some (suc n) (x ∷ xs) lt = drop-some n xs (omega (arith, lt))

drop-none : (n : ℕ) (xs : List ℕ) → length xs ≤ n → drop n xs ≡ []
drop-none zero [] le = refl
drop-none (suc n) [] le = refl
drop-none zero (x ∷ xs) le = absurd (omega (arith, le))
drop-none (suc n) (x ∷ xs) le = drop-none n xs (omega (arith, le))

end-is : (x : Listing) (numbers : List ℕ) (told : Told) (sent : List ℕ) → HasTold x MOST_ROWS numbers told sent
    → end_words told ≡ end_line (take MOST_ROWS numbers) (drop MOST_ROWS numbers)
end-is x numbers told sent is = elim (cases_lt MOST_ROWS (length numbers)) [
  | inl lt ↦ (
      let some = drop-some MOST_ROWS numbers lt in
      let more : told.more ≡ true = is.more ∙ lt-ltb MOST_ROWS (length numbers) lt in
      ap (λ (b : Bool). elim b [ true ↦ spaced (codes "after" ∷ decimal told.last ∷ []) | false ↦ codes "end" ]) more
      ∙ ap (λ (n : ℕ). spaced (codes "after" ∷ decimal n ∷ [])) is.last
      ∙ sym (ap (end_line (take MOST_ROWS numbers)) some.2)
      )
  | inr ge ↦ (
      let more : told.more ≡ false = is.more ∙ le-ltb MOST_ROWS (length numbers) ge in
      ap (λ (b : Bool). elim b [ true ↦ spaced (codes "after" ∷ decimal told.last ∷ []) | false ↦ codes "end" ]) more
      ∙ sym (ap (end_line (take MOST_ROWS numbers)) (drop-none MOST_ROWS numbers ge))
      )
]

-- The head and the rows, with their end, are what is shown of the list.
pub listed-is : (x : Listing) (after : ℕ) (told : Told) (sent text : List ℕ) → HasTold x MOST_ROWS (above after x.numbers) told sent
    → text ≡ report_lines x.head ++ sent → text ++ end_words told ≡ listed x after
listed-is x after told sent text is grown =
    let numbers = above after x.numbers in
    let shown = map x.row (take MOST_ROWS numbers) in
    ap (λ (t : List ℕ). t ++ end_words told) (grown ∙ ap (λ (t : List ℕ). report_lines x.head ++ t) is.lines ∙ sym (report-more x.head shown))
    ∙ ap (λ (t : List ℕ). report_lines (x.head ++ shown) ++ t) (end-is x numbers told sent is)
    ∙ sym (join-last (x.head ++ shown) (end_line (take MOST_ROWS numbers) (drop MOST_ROWS numbers)))
