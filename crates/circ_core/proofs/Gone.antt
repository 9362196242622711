-- The tables after a copy has left for a place that is neither a hold shelf nor transit.
use Rattle.std.proofs.Common.{◌≡◌, ℕ, ◌==◌, Bool, true, false, refl, sym, ◌∙◌, ap, subst}
use Rattle.std.specs.Prelude.{Option, Some, None, option_map, is_some, find}
use Rattle.std.proofs.lemmas.Bool.{eqb-true}
use Rattle.terms.specs.declared.row.CopyRow.{CopyRow}
use Rattle.terms.specs.declared.row.HoldRow.{HoldRow}
use Rattle.terms.specs.declared.row.HoldState.{HoldState}
use Rattle.terms.specs.declared.row.HoldState.TheVariants.{Waiting}
use Rattle.terms.specs.declared.row.TransitRow.{TransitRow}
use Rattle.terms.specs.Pictures.{put}
use Rattle.model.specs.History.{History, CopyFacts, copy_of, copies, hold_of}
use Rattle.model.specs.Places.{Place, Nowhere, Shelf, HoldShelf, Transit, Loan, MissingCopy, WithdrawnCopy, place, state, is_kept_for, kept_for, limit}
use Rattle.model.specs.Invariant.{Invariant}
use Rattle.model.specs.Refusals.{is_on_hold_shelf, is_in_transit}
use Rattle.model.specs.Picture.{picture, copy_row, copy_columns, hold_row, transit_row, transit_at, condition_at, hold_by, hold_with}
use Rattle.circ_core.specs.Missing.{waiting_again}
use Rattle.circ_core.specs.Views.{IsHoldOf}
use Rattle.circ_core.proofs.Rising.{find-same}
use Rattle.circ_core.proofs.Claims.{IsKept, hold_claims, hold_none, named-is}

-- A place that is no hold shelf keeps its copy for no hold.
pub unkept : (p : Place) (h : ℕ) → is_on_hold_shelf p ≡ false → is_kept_for p h ≡ false
unkept (HoldShelf g) h e = let never : ⊥ = cc in absurd never
unkept _ h e = refl

still-at : (n : ℕ) (p : Place) → is_in_transit p ≡ false → transit_at n p ≡ None
still-at n (Transit g h) e = let never : ⊥ = cc in absurd never
still-at n _ e = refl

-- ---- what the hold's row tells

module _ (H : History) (inv : Invariant H) (c : ℕ) (r : CopyFacts) (there : copy_of H c ≡ Some r) where
  -- A hold names the copy exactly if the copy is on a hold shelf.
  pub shelf_claims : (o : Option HoldRow) → IsHoldOf (picture H) c o → is_some o ≡ is_on_hold_shelf (place H c)
  shelf_claims o w = go (place H c) refl
    where
      none_at : is_on_hold_shelf (place H c) ≡ false → is_some o ≡ false
      none_at e = ap is_some (hold_none H inv c r there o w e)

      go : (p : Place) → place H c ≡ p → is_some o ≡ is_on_hold_shelf p
      go (HoldShelf h) at = let k : (q : HoldRow) × (o ≡ Some q) × IsKept H c h q = hold_claims H inv c r there o h w at in ap is_some k.1
      go Nowhere at = none_at (ap is_on_hold_shelf at)
      go (Shelf b) at = none_at (ap is_on_hold_shelf at)
      go (Transit b h) at = none_at (ap is_on_hold_shelf at)
      go (Loan l) at = none_at (ap is_on_hold_shelf at)
      go MissingCopy at = none_at (ap is_on_hold_shelf at)
      go WithdrawnCopy at = none_at (ap is_on_hold_shelf at)

  -- The row that names the copy is that of the hold that it is kept for.
  pub kept_by : (q : HoldRow) → IsHoldOf (picture H) c (Some q) → IsKept H c q.hold q
  kept_by q w =
      let k : (x : HoldRow) × (Some q ≡ Some x) × IsKept H c q.hold x = hold_claims H inv c r there (Some q) q.hold w (named-is H inv c r there q w.0 w.1) in
      let same : k.0 ≡ q = cc in
      subst (λ x. IsKept H c q.hold x) same k.2

-- ---- the tables

module _ (H : History) (c : ℕ) (to : Place) (no_shelf : is_on_hold_shelf to ≡ false) (no_transit : is_in_transit to ≡ false) where
  abbrev pub gone_to : Bool → ℕ → Place
  gone_to x n = elim x as (λ _. Place) [ true ↦ to | false ↦ place H n ]

  pub copies_gone : (r : CopyFacts) → copy_of H c ≡ Some r → (n : ℕ)
      → put (copy_row H) c (Some (record (copy_columns H c r) { condition = condition_at to })) n
      ≡ option_map (λ x. record (copy_columns H n x) { condition = condition_at (gone_to (c == n) n) }) (copy_of H n)
  copies_gone r there n = go (c == n) refl
    where
      go : (x : Bool) → (c == n) ≡ x
          → (elim x as (λ _. Option CopyRow) [ true ↦ Some (record (copy_columns H c r) { condition = condition_at to }) | false ↦ copy_row H n ])
          ≡ option_map (λ y. record (copy_columns H n y) { condition = condition_at (gone_to x n) }) (copy_of H n)
      go true d = subst (λ m. Some (record (copy_columns H c r) { condition = condition_at to }) ≡ option_map
          (λ y. record (copy_columns H m y) { condition = condition_at to }) (copy_of H m)) (eqb-true c n d)
          (sym (ap (option_map (λ y. record (copy_columns H c y) { condition = condition_at to })) there))
      go false d = refl

  -- A copy that didn't travel leaves no transit behind.
  pub transits_still : is_in_transit (place H c) ≡ false → (n : ℕ) → transit_row H n ≡ transit_at n (gone_to (c == n) n)
  transits_still still n = go (c == n) refl
    where
      go : (x : Bool) → (c == n) ≡ x → transit_at n (place H n) ≡ transit_at n (gone_to x n)
      go true d = subst (λ m. transit_at m (place H m) ≡ transit_at m to) (eqb-true c n d) (still-at c (place H c) still ∙ sym (still-at c to no_transit))
      go false d = refl

  -- The transit of a copy that travelled is taken away.
  pub transits_over : (n : ℕ) → put (transit_row H) c None n ≡ transit_at n (gone_to (c == n) n)
  transits_over n = go (c == n) refl
    where
      go : (x : Bool) → (c == n) ≡ x → (elim x as (λ _. Option TransitRow) [ true ↦ None | false ↦ transit_row H n ]) ≡ transit_at n (gone_to x n)
      go true d = sym (still-at n to no_transit)
      go false d = refl

  -- The copy was kept for no hold, or for another.
  pub kept_same : (h : ℕ) → is_kept_for (place H c) h ≡ false → find (λ x. is_kept_for (gone_to (c == x) x) h) (copies H) ≡ kept_for H h
  kept_same h off = find-same _ _ (λ x. go x (c == x) refl) (copies H)
    where
      go : (x : ℕ) (y : Bool) → (c == x) ≡ y → is_kept_for (gone_to y x) h ≡ is_kept_for (place H x) h
      go x true d = subst (λ m. is_kept_for to h ≡ is_kept_for (place H m) h) (eqb-true c x d) (unkept to h no_shelf ∙ sym off)
      go x false d = refl

  -- A hold's row after it, by whether the hold waits again.
  abbrev pub hold_gone : ℕ → Bool → Option HoldRow
  hold_gone n again =
      hold_by n (hold_of H n) (elim again as (λ _. Option HoldState) [ true ↦ Some Waiting | false ↦ state H n ])
      (find (λ y. is_kept_for (gone_to (c == y) y) n) (copies H)) (limit H n)

  pub holds_stay : (n : ℕ) → is_kept_for (place H c) n ≡ false → hold_row H n ≡ hold_gone n false
  holds_stay n off =
      ap (λ k. hold_by n (hold_of H n) (state H n) k (limit H n)) (sym (kept_same n off))

  -- No hold is touched by a copy that stood on no hold shelf.
  pub holds_all_stay : is_on_hold_shelf (place H c) ≡ false → (n : ℕ) → hold_row H n ≡ hold_gone n (is_kept_for (place H c) n)
  holds_all_stay off n = let no : is_kept_for (place H c) n ≡ false = unkept (place H c) n off in holds_stay n no ∙ ap (hold_gone n) (sym no)

  -- The hold that the copy was kept for waits again.
  pub holds_again : (q : HoldRow) → IsKept H c q.hold q → (n : ℕ) → put (hold_row H) q.hold (Some (waiting_again q)) n ≡ hold_gone n (is_kept_for (place H c) n)
  holds_again q k n = go (q.hold == n) refl ∙ ap (hold_gone n) (sym (ap (λ p. is_kept_for p n) k.here))
    where
      here : Some (waiting_again q) ≡ hold_gone q.hold true
      here =
          ap (λ (x : HoldRow). Some (waiting_again x)) (sym k.facts.2)
          ∙ sym (ap (option_map (hold_with q.hold Waiting None None)) k.facts.1)

      go : (x : Bool) → (q.hold == n) ≡ x → (elim x as (λ _. Option HoldRow) [ true ↦ Some (waiting_again q) | false ↦ hold_row H n ]) ≡ hold_gone n x
      go true d = subst (λ m. Some (waiting_again q) ≡ hold_gone m true) (eqb-true _ _ d) here
      go false d = holds_stay n (ap (λ p. is_kept_for p n) k.here ∙ d)
