-- The copy to pull from its shelf for a hold.
use Rattle.std.proofs.Common.{◌≡◌, ℕ, ◌≤◌, ◌<◌, ◌==◌, Bool, true, false, ◌&&◌, ◌⊎◌, inl, inr, List, [], ◌∷◌, refl, sym, ◌∙◌, ap, subst, arith}
use Rattle.std.specs.Prelude.{Option, Some, None, option_map, unwrap_or, filter, slice_get}
use Rattle.std.proofs.lemmas.Bool.{eqb-true, eq-eqb, ne_eqb, and_parts, and_from}
use Rattle.circ_core.specs.Views.{IsFirstOf}
use Rattle.circ_core.proofs.Claims.{loan_row-is, hold_row-is, named-is}
use Rattle.circ_core.proofs.FirstInLine.{line_none, line_some}
use Rattle.store.specs.Batches.{IsShelved, IsLeastShelved}
use Rattle.terms.specs.declared.row.Condition.TheVariants.{Present}
use Rattle.terms.specs.declared.row.CopyRow.{CopyRow}
use Rattle.terms.specs.declared.row.HoldRow.{HoldRow}
use Rattle.terms.specs.declared.row.HoldState.{HoldState}
use Rattle.terms.specs.declared.row.LoanRow.{LoanRow}
use Rattle.model.specs.Asking.{rising, pulled_for, is_first, first_of, is_shelf_of}
use Rattle.model.specs.AskingLaws.{Rises, AreRising}
use Rattle.model.specs.History.{History, CopyFacts, copy_of, copies, HoldFacts, hold_of}
use Rattle.model.specs.Invariant.{Invariant}
use Rattle.model.specs.Loans.{LoanFacts, loan_of, ended}
use Rattle.model.specs.Picture.{picture, copy_columns, loan_columns, hold_columns, condition_at, transit_at}
use Rattle.model.specs.Places.{Place, Nowhere, Shelf, HoldShelf, Transit, Loan, MissingCopy}
use Rattle.model.specs.Places.{WithdrawnCopy, place, state, line, title_of_copy, title_of_hold, home_of}
use Rattle.model.proofs.Asking.{rising-rises, rising-filter}
use Rattle.model.proofs.Members.{has, filter-has, filter-passes}
use Rattle.desk.specs.Placing.{unclaimed, IsAt}
use Rattle.desk.proofs.Listings.{has-cases, has-first}
use Rattle.desk.proofs.ListNumbers.{copy-has, placed-copy}
use Rattle.desk.proofs.Placings.{on-shelf}

-- ---- the first that passes

below-rises : (a k : ℕ) (xs : List ℕ) → Rises a xs → has xs k ≡ true → a < k
below-rises a k [] r e = let never : ⊥ = cc in absurd never
below-rises a k (x ∷ xs) r e = go (below-rises x k xs r.1) (has-cases x k xs e)
  where
    go : (has xs k ≡ true → x < k) → (x ≡ k) ⊎ (has xs k ≡ true) → a < k
    go ih (inl same) = let lt : a < x = r.0 in omega (arith, lt, same)
    go ih (inr more) = let lt : a < x = r.0 in let next : x < k = ih more in omega (arith, lt, next)

-- The least of rising numbers is their first.
first-least : (xs : List ℕ) (c : ℕ) → AreRising xs → has xs c ≡ true → ((d : ℕ) → has xs d ≡ true → c ≤ d) → slice_get xs 0 ≡ Some c
first-least [] c r there least = let never : ⊥ = cc in absurd never
first-least (x ∷ xs) c r there least = elim (has-cases x c xs there) [
  | inl same ↦ ap Some same
  | inr later ↦ (
      let le : c ≤ x = least x (has-first x xs) in
      let lt : x < c = below-rises x c xs r later in
      absurd (omega (arith, le, lt))
      )
]

none-first : (xs : List ℕ) → ((d : ℕ) → has xs d ≡ true → ⊥) → slice_get xs 0 ≡ None
none-first [] none = refl
none-first (x ∷ xs) none = absurd (none x (has-first x xs))

module _ (H : History) (inv : Invariant H) (t b : ℕ) where
  abbrev stands_here : ℕ → Bool
  stands_here c = (title_of_copy H c == t) && is_shelf_of b (place H c)

  abbrev standing : List ℕ
  standing = filter stands_here (rising (copies H))

  shelf-is : (p : Place) → is_shelf_of b p ≡ true → p ≡ Shelf b
  shelf-is (Shelf n) e = ap Shelf (eqb-true n b e)
  shelf-is Nowhere e = let never : ⊥ = cc in absurd never
  shelf-is (HoldShelf h) e = let never : ⊥ = cc in absurd never
  shelf-is (Transit g h) e = let never : ⊥ = cc in absurd never
  shelf-is (Loan l) e = let never : ⊥ = cc in absurd never
  shelf-is MissingCopy e = let never : ⊥ = cc in absurd never
  shelf-is WithdrawnCopy e = let never : ⊥ = cc in absurd never

  -- a copy that stands there is one whose row says so and that nothing claims
  standing-row : (c : ℕ) → has standing c ≡ true → (r : CopyRow) × IsShelved (picture H) t b c r
  standing-row c is =
      let passes = and_parts _ _ (filter-passes stands_here c (rising (copies H)) is) in
      let here : place H c ≡ Shelf b = shelf-is (place H c) passes.1 in
      let f = placed-copy H inv c (λ no. let clash : Nowhere ≡ Shelf b = sym no ∙ here in let never : ⊥ = cc in never) in
      let row : (picture H).copies c ≡ Some (copy_columns H c f.0) = ap (option_map (copy_columns H c)) f.1 in
      let title : title_of_copy H c ≡ t = eqb-true _ _ passes.0 in
      let home : b ≡ home_of H c = sym (inv.at_home c b here) in (
        copy_columns H c f.0,
        record {
          there = row;
          of_title = sym (ap (λ (o : Option CopyFacts). unwrap_or (option_map (λ x. x.title) o) 0) f.1) ∙ title;
          at_home = sym (ap (λ (o : Option CopyFacts). unwrap_or (option_map (λ x. x.home) o) 0) f.1) ∙ sym home;
          present = condition f.0 here;
          still = ap (transit_at c) here;
          unlent = λ l q there mine still.
              let lent : (x : LoanFacts) × (loan_of H l ≡ Some x) × (loan_columns H l x ≡ q) = loan_row-is H l q there in
              let of_copy : lent.0.copy ≡ c = ap (λ (x : LoanRow). x.copy) lent.2 ∙ mine in
              let open_still : ended H l ≡ None = ap (λ (x : LoanRow). x.ended) lent.2 ∙ still in
              let at : place H lent.0.copy ≡ Loan l = inv.open_loan l lent.0 lent.1 open_still in
              let clash : Loan l ≡ Shelf b = sym (subst (λ (k : ℕ). place H k ≡ Loan l) of_copy at) ∙ here in
              let never : ⊥ = cc in never;
          unnamed = λ h q there names.
              let is : (s : HoldState) × (x : HoldFacts) × (state H h ≡ Some s) × (hold_of H h ≡ Some x)
              × (hold_columns H h s x ≡ q) = hold_row-is H h q there in
              let number : q.hold ≡ h = sym (ap (λ (x : HoldRow). x.hold) is.4) in
              let own : (picture H).holds q.hold ≡ Some q = subst (λ (k : ℕ). (picture H).holds k ≡ Some q) (sym number) there in
              let at : place H c ≡ HoldShelf q.hold = named-is H inv c f.0 f.1 q own names in
              let clash : HoldShelf q.hold ≡ Shelf b = sym at ∙ here in
              let never : ⊥ = cc in never;
        },
      )
    where
      condition : (f : CopyFacts) → place H c ≡ Shelf b → (copy_columns H c f).condition ≡ Present
      condition f here = ap condition_at here

  row-stands : (c : ℕ) (r : CopyRow) → IsShelved (picture H) t b c r → has standing c ≡ true
  row-stands c r is = go (copy_of H c) refl is.there
    where
      go : (o : Option CopyFacts) → copy_of H c ≡ o → option_map (copy_columns H c) o ≡ Some r → has standing c ≡ true
      go (Some f) e q =
          let same : copy_columns H c f ≡ r = cc in
          let at : IsAt H c (unclaimed r.condition r.home) = on-shelf H inv c f e r same None is.unlent refl None is.unnamed refl is.still in
          let shelf : place H c ≡ Shelf r.home = subst (λ d. IsAt H c (unclaimed d r.home)) is.present at in
          let title : title_of_copy H c ≡ t = ap (λ (o : Option CopyFacts). unwrap_or (option_map (λ x. x.title) o) 0) e
          ∙ ap (λ (x : CopyRow). x.title) same ∙ is.of_title in
          filter-has stands_here c (rising (copies H))
          (and_from _ _ (eq-eqb _ _ title) (ap (is_shelf_of b) shelf ∙ eq-eqb _ _ is.at_home)) (copy-has H inv c f e)
      go None e q = let never : ⊥ = cc in absurd never

  standing-rises : AreRising standing
  standing-rises = rising-filter stands_here (rising (copies H)) (rising-rises (copies H))

  -- The least that stands there.
  least-is : (o : Option CopyRow) → IsLeastShelved (picture H) t b o → first_of standing ≡ option_map (λ r. r.copy) o
  least-is (Some r) is = first-least standing r.copy standing-rises (row-stands r.copy r is.0)
      (λ d there. let row = standing-row d there in is.1 d row.0 row.1)
  least-is None none = none-first standing (λ d there. let row = standing-row d there in none d row.0 row.1)

-- ---- whose turn it is

-- The title of a hold, by its row.
pub hold-title-is : (H : History) (r : HoldRow) → (picture H).holds r.hold ≡ Some r → title_of_hold H r.hold ≡ r.title
hold-title-is H r there =
    let is : (s : HoldState) × (f : HoldFacts) × (state H r.hold ≡ Some s) × (hold_of H r.hold ≡ Some f)
    × (hold_columns H r.hold s f ≡ r) = hold_row-is H r.hold r there in
    ap (λ (o : Option HoldFacts). unwrap_or (option_map (λ x. x.title) o) 0) is.3 ∙ ap (λ (x : HoldRow). x.title) is.4

module _ (H : History) (inv : Invariant H) (b : ℕ) (r : HoldRow) (there : (picture H).holds r.hold ≡ Some r) where
  abbrev pulled_if : Bool → ℕ → Option ℕ
  pulled_if first t = elim first [ true ↦ first_of (standing H inv t b) | false ↦ None ]

  turn : (xs : List ℕ) → line H r.title ≡ xs → pulled_for H b r.hold ≡ pulled_if (is_first xs r.hold) r.title
  turn xs e =
      ap (λ (t : ℕ). pulled_if (is_first (line H t) r.hold) t) (hold-title-is H r there) ∙ ap (λ (ys : List ℕ). pulled_if (is_first ys r.hold) r.title) e

  -- nobody stands in line
  pub pulled-none : IsFirstOf (picture H) r.title None → pulled_for H b r.hold ≡ None
  pulled-none none = turn [] (line_none H inv r.title none)

  -- another is the first
  pub pulled-later : (q : HoldRow) → IsFirstOf (picture H) r.title (Some q) → (q.hold ≡ r.hold → ⊥) → pulled_for H b r.hold ≡ None
  pulled-later q is other =
      let first = line_some H inv r.title q is in
      turn (q.hold ∷ first.0.0) first.0.1 ∙ ap (λ (x : Bool). pulled_if x r.title) (ne_eqb q.hold r.hold other)

  -- it is its turn
  pub pulled-now : (q : HoldRow) → IsFirstOf (picture H) r.title (Some q) → q.hold ≡ r.hold → (o : Option CopyRow) → IsLeastShelved (picture H) r.title b o
      → pulled_for H b r.hold ≡ option_map (λ (x : CopyRow). x.copy) o
  pulled-now q is same o least =
      let first = line_some H inv r.title q is in
      turn (q.hold ∷ first.0.0) first.0.1 ∙ ap (λ (x : Bool). pulled_if x r.title) (eq-eqb q.hold r.hold same) ∙ least-is H inv r.title b o least
