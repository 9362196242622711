-- A legal history's tables make at most one claim on a copy, that of its place.
use Rattle.std.proofs.Common.{◌≡◌, ℕ, refl, sym, ◌∙◌, ap, subst}
use Rattle.std.specs.Prelude.{Option, Some, None, option_map, option_and_then}
use Rattle.terms.specs.declared.row.HoldState.{HoldState}
use Rattle.terms.specs.declared.row.HoldState.TheVariants.{Ready}
use Rattle.terms.specs.declared.row.Condition.TheVariants.{Missing, Withdrawn}
use Rattle.terms.specs.declared.row.LoanRow.{LoanRow}
use Rattle.terms.specs.declared.row.HoldRow.{HoldRow}
use Rattle.terms.specs.declared.row.TransitRow.{TransitRow}
use Rattle.terms.specs.declared.row.CopyRow.{CopyRow}
use Rattle.model.specs.History.{History, copy_of, copies, hold_of, HoldFacts, CopyFacts}
use Rattle.model.specs.Places.{Place, Nowhere, Shelf, HoldShelf, Transit, Loan, MissingCopy, WithdrawnCopy, place, state, is_kept_for, kept_for, goal_of}
use Rattle.model.specs.Loans.{loan_of, ended, LoanFacts}
use Rattle.model.specs.Picture.{picture, copy_row, copy_columns, loan_row, loan_columns, hold_row, hold_columns, condition_at, transit_at, if_ready}
use Rattle.model.specs.Claims.{Claims, AtMostOne, IsAway, IsInOnePlace}
use Rattle.model.specs.Requests.{IsLegal}
use Rattle.model.specs.Invariant.{Fits}
use Rattle.model.proofs.Bindings.{IsBound, kept-is, kept-found, find-some}
use Rattle.model.proofs.Legal.{legal-bound, some-none}
use Rattle.model.proofs.LoanLaws.{legal-LoanLaws}

pub map-some : {A B : Type 0} (f : A → B) (o : Option A) (r : B) → option_map f o ≡ Some r
    → (x : A) × (o ≡ Some x) × (f x ≡ r)
map-some f (Some x) r e = let same : f x ≡ r = cc in (x, refl, same)
map-some f None r e = let never : ⊥ = cc in absurd never

then-some : {A B : Type 0} (f : A → Option B) (o : Option A) (r : B)
    → option_and_then f o ≡ Some r → (x : A) × (o ≡ Some x) × (f x ≡ Some r)
then-some f (Some x) r e = (x, refl, e)
then-some f None r e = let never : ⊥ = cc in absurd never

-- The place and the number of a copy that has a transit row.
pub transit-place : (c : ℕ) (r : TransitRow) (p : Place) → transit_at c p ≡ Some r
    → (p ≡ Transit r.goal r.hold) × (r.copy ≡ c)
transit-place c r (Transit g h) e =
    let same : ◌≡◌ {A = TransitRow} (record { copy = c; goal = g; hold = h }) r = cc in
    subst (λ x. (Transit g h ≡ Transit x.goal x.hold) × (x.copy ≡ c)) same (refl, refl)
transit-place c r _ e = let never : ⊥ = cc in absurd never

-- The state and the facts of a hold that has a row.
pub hold-facts : (H : History) (h : ℕ) (r : HoldRow) → hold_row H h ≡ Some r
    → (s : HoldState) × (f : HoldFacts) × (state H h ≡ Some s) × (hold_of H h ≡ Some f)
    × (hold_columns H h s f ≡ r)
hold-facts H h r row =
    let s = then-some (λ t. option_map (hold_columns H h t) (hold_of H h)) (state H h) r row in
    let f = map-some (hold_columns H h s.0) (hold_of H h) r s.2 in
    (s.0, f.0, s.1, f.1, f.2)

missing-place : (p : Place) → condition_at p ≡ Missing → p ≡ MissingCopy
missing-place MissingCopy e = refl
missing-place _ e = let never : ⊥ = cc in absurd never

withdrawn-place : (p : Place) → condition_at p ≡ Withdrawn → p ≡ WithdrawnCopy
withdrawn-place WithdrawnCopy e = refl
withdrawn-place _ e = let never : ⊥ = cc in absurd never

module _ (H : History) (legal : IsLegal H) where
  inv : IsBound H
  inv = legal-bound H legal

  hold-claim : (c h : ℕ) (r : HoldRow) → hold_row H h ≡ Some r → r.copy ≡ Some c → r.state ≡ Ready → place H c ≡ HoldShelf h
  hold-claim c h r row copy ready =
      let a = hold-facts H h r row in
      let is_ready' : a.0 ≡ Ready = ap (λ q. q.state) a.4 ∙ ready in
      let held : if_ready (Some a.0) (kept_for H h) ≡ Some c = ap (λ q. q.copy) a.4 ∙ copy in
      let kept : kept_for H h ≡ Some c = subst (λ s. if_ready (Some s) (kept_for H h) ≡ Some c) is_ready' held in
      kept-is (place H c) h (find-some (λ d. is_kept_for (place H d) h) (copies H) c kept)

  loan-claim : (c l : ℕ) (r : LoanRow) → loan_row H l ≡ Some r → r.copy ≡ c → r.ended ≡ None → place H c ≡ Loan l
  loan-claim c l r row copy open_end =
      let a : (x : LoanFacts) × (loan_of H l ≡ Some x) × (loan_columns H l x ≡ r) = map-some (loan_columns H l) (loan_of H l) r row in
      subst (λ d. place H d ≡ Loan l) (ap (λ q. q.copy) a.2 ∙ copy) ((legal-LoanLaws H legal).open_loan l a.0 a.1 (ap (λ q. q.ended) a.2 ∙ open_end))

  condition-claim : (c : ℕ) (r : CopyRow) → copy_row H c ≡ Some r → condition_at (place H c) ≡ r.condition
  condition-claim c r row =
      let a : (x : CopyFacts) × (copy_of H c ≡ Some x) × (copy_columns H c x ≡ r) = map-some (copy_columns H c) (copy_of H c) r row in
      ap (λ q. q.condition) a.2

  -- A claim is that of the copy's place.
  pub claims-place : (c : ℕ) (q : Place) → Claims (picture H) c q → place H c ≡ q
  claims-place c (Loan l) x = loan-claim c l x.0 x.1 x.2 x.3
  claims-place c (HoldShelf h) x = hold-claim c h x.0 x.1 x.2 x.3
  claims-place c (Transit g h) x = (transit-place c (record { copy = c; goal = g; hold = h })
      (place H c) x).0
  claims-place c MissingCopy x = missing-place (place H c) (condition-claim c x.0 x.1 ∙ x.2)
  claims-place c WithdrawnCopy x = withdrawn-place (place H c) (condition-claim c x.0 x.1 ∙ x.2)
  claims-place c Nowhere x = absurd x
  claims-place c (Shelf b) x = absurd x

  -- No copy has two claims.
  pub one-claim : (c : ℕ) → AtMostOne (picture H) c
  one-claim c p q x y = sym (claims-place c p x) ∙ claims-place c q y

  -- ---- the other way: a copy off the shelf has the claim of its place

  row_there : (c : ℕ) → (place H c ≡ Nowhere → ⊥) → (r : CopyFacts) × (copy_of H c ≡ Some r)
  row_there c somewhere = go (copy_of H c) refl
    where
      go : (o : Option CopyFacts) → copy_of H c ≡ o → (r : CopyFacts) × (copy_of H c ≡ Some r)
      go (Some r) e = (r, e)
      go None e = absurd (somewhere (inv.nowhere c (rw e refl)))

  hold_there : (h : ℕ) (s : HoldState) → state H h ≡ Some s → (r : HoldFacts) × (hold_of H h ≡ Some r)
  hold_there h s e = go (hold_of H h) refl
    where
      go : (o : Option HoldFacts) → hold_of H h ≡ o → (r : HoldFacts) × (hold_of H h ≡ Some r)
      go (Some r) f = (r, f)
      go None f = absurd (some-none _ s e (inv.unplaced h f))

  pub place-loan : (c l : ℕ) → place H c ≡ Loan l → Claims (picture H) c (Loan l)
  place-loan c l at =
      let o : (r : LoanFacts) × (loan_of H l ≡ Some r) × (r.copy ≡ c) × (ended H l ≡ None) = (legal-LoanLaws H legal).on_loan c l at in
      (loan_columns H l o.0, ap (option_map (loan_columns H l)) o.1, o.2, o.3)

  pub place-shelf : (c h : ℕ) → place H c ≡ HoldShelf h → Claims (picture H) c (HoldShelf h)
  place-shelf c h at =
      let f : state H h ≡ Some Ready = let g : Fits (goal_of H) (HoldShelf h) h (state H h) = rw at at (inv.bound.fits c h (rw at refl)) in g in
      let r : (r : HoldFacts) × (hold_of H h ≡ Some r) = hold_there h Ready f in
      let kept : kept_for H h ≡ Some c = kept-found H c h inv at in (
        hold_columns H h Ready r.0,
        ap (option_and_then (λ s. option_map (hold_columns H h s) (hold_of H h))) f ∙ ap (option_map (hold_columns H h Ready)) r.1,
        kept,
        refl,
      )

  pub place-transit : (c g : ℕ) (h : Option ℕ) → place H c ≡ Transit g h → Claims (picture H) c (Transit g h)
  place-transit c g h at = ap (transit_at c) at

  pub place-missing : (c : ℕ) → place H c ≡ MissingCopy → Claims (picture H) c MissingCopy
  place-missing c at =
      let r : (r : CopyFacts) × (copy_of H c ≡ Some r) = row_there c (λ e. let two : MissingCopy ≡ Nowhere = sym at ∙ e in let never : ⊥ = cc in never) in
      (copy_columns H c r.0, ap (option_map (copy_columns H c)) r.1, ap condition_at at)

  pub place-withdrawn : (c : ℕ) → place H c ≡ WithdrawnCopy → Claims (picture H) c WithdrawnCopy
  place-withdrawn c at =
      let r : (r : CopyFacts) × (copy_of H c ≡ Some r) = row_there c (λ e. let two : WithdrawnCopy ≡ Nowhere = sym at ∙ e in let never : ⊥ = cc in never) in
      (copy_columns H c r.0, ap (option_map (copy_columns H c)) r.1, ap condition_at at)

  pub away-claimed : (c : ℕ) (p : Place) → place H c ≡ p → IsAway p → Claims (picture H) c p
  away-claimed c (Loan l) at away = place-loan c l at
  away-claimed c (HoldShelf h) at away = place-shelf c h at
  away-claimed c (Transit g h) at away = place-transit c g h at
  away-claimed c MissingCopy at away = place-missing c at
  away-claimed c WithdrawnCopy at away = place-withdrawn c at
  away-claimed c Nowhere at away = absurd away
  away-claimed c (Shelf b) at away = absurd away

-- Each copy of a legal history is in one place.
pub in-one-place : (H : History) (c : ℕ) → IsLegal H → IsInOnePlace (picture H) c (place H c)
in-one-place H c legal = record {
  one = one-claim H legal c;
  named = λ other claim. sym (claims-place H legal c other claim);
  shown = away-claimed H legal c (place H c) refl;
}
