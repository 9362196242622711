-- The rows that claim a copy tell its place.
use Rattle.std.proofs.Common.{◌≡◌, ℕ, Bool, true, false, refl, sym, ◌∙◌, ap, subst}
use Rattle.std.specs.Prelude.{Option, Some, None, option_map, option_and_then, is_some}
use Rattle.std.proofs.lemmas.Bool.{eqb-true, eq-eqb}
use Rattle.terms.specs.declared.row.LoanRow.{LoanRow}
use Rattle.terms.specs.declared.row.HoldRow.{HoldRow}
use Rattle.terms.specs.declared.row.HoldState.{HoldState}
use Rattle.terms.specs.declared.row.HoldState.TheVariants.{Waiting, Ready, Filled, Cancelled, Expired}
use Rattle.terms.specs.declared.row.TransitRow.{TransitRow}
use Rattle.circ_core.specs.Views.{IsLoanOf, IsHoldOf}
use Rattle.model.specs.Invariant.{Invariant, Serves}
use Rattle.circ_core.proofs.Rows.{option_map-is}
use Rattle.circ_core.proofs.Rising.{find-passes, find-only}
use Rattle.model.specs.History.{History, HoldFacts, hold_of, CopyFacts, copy_of, copies}
use Rattle.model.specs.Places.{Place, Nowhere, Shelf, HoldShelf, Transit, Loan, MissingCopy, WithdrawnCopy as Withdrawn, is_kept_for, place, state, kept_for}
use Rattle.model.specs.Loans.{LoanFacts, loan_of, ended}
use Rattle.model.specs.Refusals.{is_on_loan, is_in_transit, is_on_hold_shelf}
use Rattle.model.specs.Picture.{picture, loan_row, loan_columns, hold_row, hold_columns, transit_row, transit_at, if_ready}

-- ---- what a row says

pub option_and_then-is : {A B : Type 0} (f : A → Option B) (o : Option A) (y : B) → option_and_then f o ≡ Some y → (x : A) × (o ≡ Some x) × (f x ≡ Some y)
option_and_then-is f (Some x) y e = (x, refl, e)
option_and_then-is f None y e = let never : ⊥ = cc in absurd never

pub loan_row-is : (H : History) (l : ℕ) (q : LoanRow) → loan_row H l ≡ Some q → (r : LoanFacts) × (loan_of H l ≡ Some r) × (loan_columns H l r ≡ q)
loan_row-is H l q e = option_map-is (loan_columns H l) (loan_of H l) q e

pub hold_row-is : (H : History) (h : ℕ) (q : HoldRow) → hold_row H h ≡ Some q
    → (s : HoldState) × (r : HoldFacts) × (state H h ≡ Some s) × (hold_of H h ≡ Some r) × (hold_columns H h s r ≡ q)
hold_row-is H h q e =
    let a : (s : HoldState) × (state H h ≡ Some s) × (option_map (hold_columns H h s) (hold_of H h) ≡ Some q) = option_and_then-is _ (state H h) q e in
    let b : (r : HoldFacts) × (hold_of H h ≡ Some r) × (hold_columns H h a.0 r ≡ q) = option_map-is (hold_columns H h a.0) (hold_of H h) q a.2 in
    (a.0, b.0, a.1, b.1, b.2)

pub hold_row-from : (H : History) (h : ℕ) (s : HoldState) (r : HoldFacts) → state H h ≡ Some s → hold_of H h ≡ Some r
    → hold_row H h ≡ Some (hold_columns H h s r)
hold_row-from H h s r e f =
    ap (λ o. option_and_then (λ x. option_map (hold_columns H h x) (hold_of H h)) o) e ∙ ap (λ o. option_map (hold_columns H h s) o) f

-- ---- the open loan

is_some-true : {A : Type 0} (o : Option A) (x : A) → o ≡ Some x → is_some o ≡ true
is_some-true o x e = ap is_some e

loan-is : (p : Place) → is_on_loan p ≡ true → (l : ℕ) × (p ≡ Loan l)
loan-is (Loan l) e = (l, refl)
loan-is Nowhere e = let never : ⊥ = cc in absurd never
loan-is (Shelf b) e = let never : ⊥ = cc in absurd never
loan-is (HoldShelf h) e = let never : ⊥ = cc in absurd never
loan-is (Transit b h) e = let never : ⊥ = cc in absurd never
loan-is MissingCopy e = let never : ⊥ = cc in absurd never
loan-is Withdrawn e = let never : ⊥ = cc in absurd never

module _ (H : History) (inv : Invariant H) (c : ℕ) where
  pub loan_claims : (v : Option LoanRow) → IsLoanOf (picture H) c v → is_some v ≡ is_on_loan (place H c)
  loan_claims (Some q) w =
      let is : (r : LoanFacts) × (loan_of H q.loan ≡ Some r) × (loan_columns H q.loan r ≡ q) = loan_row-is H q.loan q w.0 in
      let copy : is.0.copy ≡ c = ap (λ x. x.copy) is.2 ∙ w.1 in
      let open_still : ended H q.loan ≡ None = ap (λ x. x.ended) is.2 ∙ w.2 in
      let at : place H is.0.copy ≡ Loan q.loan = inv.open_loan q.loan is.0 is.1 open_still in
      let at' : place H c ≡ Loan q.loan = rw copy at at in
      sym (ap is_on_loan at')
  loan_claims None w = go (is_on_loan (place H c)) refl
    where
      go : (b : Bool) → is_on_loan (place H c) ≡ b → ◌≡◌ {A = Bool} false b
      go false e = refl
      go true e =
          let at : (l : ℕ) × (place H c ≡ Loan l) = loan-is (place H c) e in
          let is : (r : LoanFacts) × (loan_of H at.0 ≡ Some r) × (r.copy ≡ c) × (ended H at.0 ≡ None) = inv.on_loan c at.0 at.1 in
          absurd (w at.0 (loan_columns H at.0 is.0) (ap (λ o. option_map (loan_columns H at.0) o) is.1) is.2 is.3)

  pub transit_claims : (v : Option TransitRow) → v ≡ transit_row H c → is_some v ≡ is_in_transit (place H c)
  transit_claims v e = ap is_some e ∙ at (place H c)
    where
      at : (p : Place) → is_some (transit_at c p) ≡ is_in_transit p
      at (Transit g h) = refl
      at _ = refl

-- ---- the ready hold

pub kept-is : (p : Place) (h : ℕ) → is_kept_for p h ≡ true → p ≡ HoldShelf h
kept-is (HoldShelf g) h e = ap HoldShelf (eqb-true g h e)
kept-is Nowhere h e = let never : ⊥ = cc in absurd never
kept-is (Loan l) h e = let never : ⊥ = cc in absurd never
kept-is (Shelf b) h e = let never : ⊥ = cc in absurd never
kept-is (Transit b g) h e = let never : ⊥ = cc in absurd never
kept-is MissingCopy h e = let never : ⊥ = cc in absurd never
kept-is Withdrawn h e = let never : ⊥ = cc in absurd never

if_ready-is : (s : HoldState) (o : Option ℕ) (c : ℕ) → if_ready (Some s) o ≡ Some c → o ≡ Some c
if_ready-is Ready o c e = e
if_ready-is Waiting o c e = let never : ⊥ = cc in absurd never
if_ready-is Filled o c e = let never : ⊥ = cc in absurd never
if_ready-is Cancelled o c e = let never : ⊥ = cc in absurd never
if_ready-is Expired o c e = let never : ⊥ = cc in absurd never

-- What the ready hold that names a copy tells.
pub record IsKept (H : History) (c h : ℕ) (q : HoldRow) : Type 0 where
  pub here : place H c ≡ HoldShelf h
  pub number : q.hold ≡ h
  pub facts : (r : HoldFacts) × (hold_of H h ≡ Some r) × (hold_columns H h Ready r ≡ q)

module _ (H : History) (inv : Invariant H) (c : ℕ) (r : CopyFacts) (there : copy_of H c ≡ Some r) where
  -- The row that names a copy is that of the hold on whose shelf it stands.
  pub named-is : (q : HoldRow) → hold_row H q.hold ≡ Some q → q.copy ≡ Some c → place H c ≡ HoldShelf q.hold
  named-is q row names =
      let is : (s : HoldState) × (f : HoldFacts) × (state H q.hold ≡ Some s) × (hold_of H q.hold ≡ Some f)
      × (hold_columns H q.hold s f ≡ q) = hold_row-is H q.hold q row in
      let kept : kept_for H q.hold ≡ Some c = if_ready-is is.0 (kept_for H q.hold) c (ap (λ x. x.copy) is.4 ∙ names) in
      kept-is (place H c) q.hold (find-passes (λ x. is_kept_for (place H x) q.hold) (copies H) c kept)

  kept_for-is : (h : ℕ) → place H c ≡ HoldShelf h → kept_for H h ≡ Some c
  kept_for-is h at =
      find-only (λ x. is_kept_for (place H x) h) (copies H) c (inv.acquired c r there).1 (ap (λ p. is_kept_for p h) at ∙ eq-eqb h h refl)
      (λ y e. inv.bound.once c y h (serves c at) (serves y (kept-is (place H y) h e)))
    where
      serves : (x : ℕ) → place H x ≡ HoldShelf h → Serves (place H x) h
      serves x e = rw e refl

  -- The row of the hold on whose shelf the copy stands names it.
  pub shelf_row : (h : ℕ) → place H c ≡ HoldShelf h → (f : HoldFacts) × (hold_of H h ≡ Some f)
      × (hold_row H h ≡ Some (hold_columns H h Ready f)) × (kept_for H h ≡ Some c)
  shelf_row h at =
      let serves : Serves (place H c) h = rw at refl in
      let ready : state H h ≡ Some Ready = rw at at (inv.bound.fits c h serves) in
      let placed : (f : HoldFacts) × (hold_of H h ≡ Some f) = inv.placed h Ready ready in
      (placed.0, placed.1, hold_row-from H h Ready placed.0 ready placed.1, kept_for-is h at)

  pub hold_claims : (v : Option HoldRow) (h : ℕ) → IsHoldOf (picture H) c v → place H c ≡ HoldShelf h → (q : HoldRow) × (v ≡ Some q) × IsKept H c h q
  hold_claims (Some q) h w at =
      let at' : place H c ≡ HoldShelf q.hold = named-is q w.0 w.1 in
      let same : q.hold ≡ h = cc in
      let row : (f : HoldFacts) × (hold_of H h ≡ Some f) × (hold_row H h ≡ Some (hold_columns H h Ready f)) × (kept_for H h ≡ Some c) = shelf_row h at in
      let row' : hold_row H h ≡ Some q = subst (λ x. hold_row H x ≡ Some q) same w.0 in
      let is : hold_columns H h Ready row.0 ≡ q = let both : Some (hold_columns H h Ready row.0) ≡ Some q = sym row.2 ∙ row' in cc in
      (q, refl, record { here = at; number = same; facts = (row.0, row.1, is) })
  hold_claims None h w at =
      let row : (f : HoldFacts) × (hold_of H h ≡ Some f) × (hold_row H h ≡ Some (hold_columns H h Ready f)) × (kept_for H h ≡ Some c) = shelf_row h at in
      absurd (w h (hold_columns H h Ready row.0) row.2 row.3)

  pub hold_none : (v : Option HoldRow) → IsHoldOf (picture H) c v → is_on_hold_shelf (place H c) ≡ false → v ≡ None
  hold_none (Some q) w e =
      let at : place H c ≡ HoldShelf q.hold = named-is q w.0 w.1 in
      let yes' : is_on_hold_shelf (place H c) ≡ true = ap is_on_hold_shelf at in
      let never : ⊥ = cc in absurd never
  hold_none None w e = refl
