-- Every legal history is bound: places and states fit each other, unknown copies are nowhere, unplaced holds
-- have no state.
use Rattle.std.proofs.Common.{◌≡◌, ℕ, ◌==◌, Bool, true, false, cond, List, [], ◌∷◌, refl, sym, ◌∙◌}
use Rattle.std.specs.Prelude.{Option, Some, None, is_none}
use Rattle.std.specs.Option.{option_or}
use Rattle.std.proofs.lemmas.Bool.{eqb-true, and_parts}
use Rattle.terms.specs.declared.command.Owner.{Owner}
use Rattle.terms.specs.declared.row.HoldState.{HoldState}
use Rattle.terms.specs.declared.row.HoldState.TheVariants.{Waiting, Ready, Filled, Cancelled, Expired}
use Rattle.terms.specs.declared.command.Command.{Command}
use Rattle.terms.specs.declared.command.Command.TheVariants.{AmendCopy, Rehome}
use Rattle.terms.specs.declared.command.Command.TheVariants.{Acquire, CheckOut, CheckIn, CancelHold, Unshelve, UnshelveCancelled, Missing, Withdraw}
use Rattle.terms.specs.declared.refusal.Refusal.TheVariants as check
use Rattle.model.specs.History.{History, copy_of, CopyFacts, HoldFacts, hold_made, hold_of, hold_after, next_hold}
use Rattle.model.specs.Places.{Place, Nowhere, Shelf, HoldShelf, Transit, place, state, line, route, is_kept_for, title_of_copy, goal_of}
use Rattle.model.specs.Places.{fills_from, fills_by, fills_first, kept_for_by, place_let_go, place_unshelved, state_unshelved, state_moved}
use Rattle.model.specs.Places.{state_made, is_begun}
use Rattle.model.specs.Refusals.{refusal, checks}
use Rattle.model.specs.Laws.{IsBinding}
use Rattle.model.specs.Requests.{IsLegal}
use Rattle.model.proofs.Passing.{passed}
use Rattle.model.specs.Invariant.{Fits}
use Rattle.model.proofs.Moves.{moved}
use Rattle.model.proofs.Bindings.{IsBound, event, event-bound, clash, line-head, kept-is, route-goes, arrived, left, waiting-is, ready-is, not-false}
use Rattle.model.proofs.Amending.{amended-is_none}

-- ---- unknown copies are nowhere

moved-nowhere : (H : History) (n x : ℕ) (q : Place) → IsBound H → is_none (copy_of H n) ≡ false → is_none (copy_of H x) ≡ true → moved n q (place H) x ≡ Nowhere
moved-nowhere H n x q inv here none = go (n == x) refl
  where
    go : (b : Bool) → (n == x) ≡ b → elim b as (λ _. Place) [ true ↦ q | false ↦ place H x ] ≡ Nowhere
    go true e = absurd (clash _ (rw (eqb-true n x e) none) here)
    go false e = inv.nowhere x none

pub none_before : (o : Option CopyFacts) (p : Option CopyFacts) → is_none (option_or o p) ≡ true → (is_none o ≡ true) × (is_none p ≡ true)
none_before None p e = (refl, e)
none_before (Some x) p e = let never : ⊥ = cc in absurd never

acquire-nowhere : (H : History) (n x home : ℕ) (r : CopyFacts) (y b : Bool) → IsBound H → (n == x) ≡ y
    → is_none (option_or (copy_of H x) (cond y (Some r) None)) ≡ true
    → elim b as (λ _. Place) [ true ↦ elim y as (λ _. Place) [ true ↦ Shelf home | false ↦ place H x ] | false ↦ place H x ] ≡ Nowhere
acquire-nowhere H n x home r true b inv e none = let no_row : is_none (Some r) ≡ true = (none_before (copy_of H x) (Some r) none).1 in
    let never : ⊥ = cc in absurd never
acquire-nowhere H n x home r false true inv e none = inv.nowhere x (none_before (copy_of H x) None none).0
acquire-nowhere H n x home r false false inv e none = inv.nowhere x (none_before (copy_of H x) None none).0

unshelved-nowhere : (H : History) (g x : ℕ) → IsBound H → is_none (copy_of H x) ≡ true → place_unshelved H (place H) (state H) (is_begun H) g x ≡ Nowhere
unshelved-nowhere H g x inv none = rw (inv.nowhere x none, place_unshelved) (inv.nowhere x none)

event-nowhere : (H : History) (o : Owner) (k : List ℕ) (c : Command) → IsBound H → refusal H o c ≡ None
    → (x : ℕ) → is_none (copy_of (event o k c ∷ H) x) ≡ true → place (event o k c ∷ H) x ≡ Nowhere
event-nowhere H o k (Acquire n t kind home price text) inv ok x none = acquire-nowhere H n x home _ (n == x) (is_none (copy_of H n)) inv refl none
event-nowhere H o k (CheckOut p n b) inv ok x none = moved-nowhere H n x _ inv (passed (checks H o (CheckOut p n b)) ok check.UnknownCopy) none
event-nowhere H o k (CheckIn n b) inv ok x none = moved-nowhere H n x _ inv (passed (checks H o (CheckIn n b)) ok check.UnknownCopy) none
event-nowhere H o k (CancelHold g) inv ok x none =
    let gone : place_let_go H (place H) (state H) (is_begun H) g (place H x) ≡ Nowhere = rw (inv.nowhere x none) refl in gone
event-nowhere H o k (Unshelve g) inv ok x none = unshelved-nowhere H g x inv none
event-nowhere H o k (UnshelveCancelled g) inv ok x none = unshelved-nowhere H g x inv none
event-nowhere H o k (Missing n) inv ok x none = moved-nowhere H n x _ inv (passed (checks H o (Missing n)) ok check.UnknownCopy) none
event-nowhere H o k (Withdraw n) inv ok x none = moved-nowhere H n x _ inv (passed (checks H o (Withdraw n)) ok check.UnknownCopy) none
event-nowhere H o k (AmendCopy n kind price) inv ok x none = inv.nowhere x (sym (amended-is_none (n == x) _ (copy_of H x)) ∙ none)
event-nowhere H o k (Rehome n b) inv ok x none =
    moved-nowhere H n x _ inv (passed (checks H o (Rehome n b)) ok check.UnknownCopy) (sym (amended-is_none (n == x) _ (copy_of H x)) ∙ none)
event-nowhere H o k _ inv ok x none = inv.nowhere x none

-- ---- holds that aren't placed have no state

pub some-none : {A : Type 0} (s : Option A) (x : A) → s ≡ Some x → s ≡ None → ⊥
some-none s x e f = let both : Some x ≡ None = sym e ∙ f in let never : ⊥ = cc in never

fills_first-placed : (H : History) (t p h : ℕ) (hs : List ℕ) → line H t ≡ hs → fills_first H (place H) (state H) (is_begun H) p hs h ≡ true
    → state H h ≡ None → ⊥
fills_first-placed H t p h [] at e none = let never : ⊥ = cc in never
fills_first-placed H t p h (g ∷ gs) at e none =
    some-none (state H g) Waiting (line-head H t g gs at).0 (rw (eqb-true g h (and_parts _ _ e).0) none)

pub fills-placed : (H : History) (n p h : ℕ) (at : Place) → place H n ≡ at → IsBound H
    → fills_from H (place H) (state H) (is_begun H) p n at h ≡ true → state H h ≡ None → ⊥
fills-placed H n p h (HoldShelf g) at inv e none =
    let f : Fits (goal_of H) (HoldShelf g) h (state H h) = rw at at (inv.bound.fits n h (rw at (eqb-true g h e))) in some-none _ Ready f none
fills-placed H n p h (Shelf b) at inv e none = fills_first-placed H (title_of_copy H n) p h (line H (title_of_copy H n)) refl e none
fills-placed H n p h _ at inv e none = let never : ⊥ = cc in never

module _ (H : History) (h : ℕ) (none : state H h ≡ None) where
  left-unplaced : (ends : HoldState) (b : Bool) → (b ≡ true → ⊥) → left (state H h) ends b ≡ None
  left-unplaced ends true off = absurd (off refl)
  left-unplaced ends false off = none

  arrived-unplaced : (n b : ℕ) → IsBound H → arrived (state H h) (is_kept_for (route H n b) h) ≡ None
  arrived-unplaced n b inv = go (is_kept_for (route H n b) h) refl
    where
      go : (x : Bool) → is_kept_for (route H n b) h ≡ x → arrived (state H h) x ≡ None
      go true e = absurd (some-none _ Waiting (route-goes H n b inv h (rw (kept-is (route H n b) h e) refl)).1 none)
      go false e = none

  unshelved-unplaced : (g : ℕ) (ends : HoldState) (found : Option ℕ) → IsBound H → state H g ≡ Some Ready
      → state_unshelved H (place H) (state H) (is_begun H) g ends found h ≡ None
  unshelved-unplaced g ends found inv ready = go found (g == h) refl
    where
      other : (g == h) ≡ true → ⊥
      other e = some-none _ Ready (rw (← eqb-true g h e) ready) none

      go : (f : Option ℕ) (x : Bool) → (g == h) ≡ x → state_unshelved H (place H) (state H) (is_begun H) g ends f h ≡ None
      go f true e = absurd (other e)
      go None false e = rw (e, state_unshelved) none
      go (Some c) false e = rw (e, state_unshelved) (arrived-unplaced c (goal_of H g) inv)

moved-unplaced : (H : History) (o : Owner) (c : Command) → IsBound H → refusal H o c ≡ None → (h : ℕ) → hold_of H h ≡ None
    → state_moved H (place H) (state H) (is_begun H) c h ≡ None
moved-unplaced H o (CheckOut p n b) inv ok h late =
    left-unplaced H h (inv.unplaced h late) Filled (fills_by H (place H) (state H) (is_begun H) p n h)
    (λ e. fills-placed H n p h (place H n) refl inv e (inv.unplaced h late))
moved-unplaced H o (CheckIn n b) inv ok h late = arrived-unplaced H h (inv.unplaced h late) n b inv
moved-unplaced H o (CancelHold g) inv ok h late =
    left-unplaced H h (inv.unplaced h late) Cancelled (g == h)
    (λ e. some-none _ Waiting (rw (← eqb-true g h e) (waiting-is _ (not-false _ (passed (checks H o (CancelHold g)) ok check.WrongHoldState)))) (inv.unplaced h late))
moved-unplaced H o (Unshelve g) inv ok h late =
    unshelved-unplaced H h (inv.unplaced h late) g Expired (kept_for_by H (place H) (state H) (is_begun H) g) inv
    (ready-is _ (not-false _ (passed (checks H o (Unshelve g)) ok check.WrongHoldState)))
moved-unplaced H o (UnshelveCancelled g) inv ok h late =
    unshelved-unplaced H h (inv.unplaced h late) g Cancelled (kept_for_by H (place H) (state H) (is_begun H) g) inv
    (ready-is _ (not-false _ (passed (checks H o (UnshelveCancelled g)) ok check.WrongHoldState)))
moved-unplaced H o (Missing n) inv ok h late =
    left-unplaced H h (inv.unplaced h late) Waiting (is_kept_for (place H n) h)
    (λ e. let f : Fits (goal_of H) (HoldShelf h) h
    (state H h) = rw (kept-is (place H n) h e) at (inv.bound.fits n h (rw (kept-is (place H n) h e) refl)) in some-none _ Ready f
    (inv.unplaced h late))
moved-unplaced H o _ inv ok h late = inv.unplaced h late

event-unplaced : (H : History) (o : Owner) (c : Command) (made : Option HoldFacts) → IsBound H → refusal H o c ≡ None
    → (h : ℕ) → hold_after H made h (hold_of H h) ≡ None → state_made H (place H) (state H) (is_begun H) made c h ≡ None
event-unplaced H o c (Some made) inv ok h late =
    let parts : ((next_hold H == h) ≡ false) × (hold_of H h ≡ None) = go (next_hold H == h) refl late in
    left-unplaced H h (inv.unplaced h parts.1) Waiting (next_hold H == h) (λ e. clash _ e parts.0)
  where
    go : (x : Bool) → (next_hold H == h) ≡ x → cond x (Some made) (hold_of H h) ≡ None → ((next_hold H == h) ≡ false) × (hold_of H h ≡ None)
    go true e none = let never : ⊥ = some-none _ _ refl none in absurd never
    go false e none = (e, none)
event-unplaced H o c None inv ok h late = moved-unplaced H o c inv ok h late

-- ---- every legal history

pub legal-bound : (H : History) → IsLegal H → IsBound H
legal-bound [] legal = record {
  bound = record { once = λ c d h s t. absurd s; fits = λ c h s. absurd s; kept = λ h e. let never : ⊥ = cc in absurd never };
  nowhere = λ c e. refl;
  unplaced = λ h e. refl;
}
legal-bound (e ∷ H) legal =
    let inv : IsBound H = legal-bound H legal.1 in
    record {
      bound = event-bound H e.owner e.key e.command inv legal.0.unrefused;
      nowhere = event-nowhere H e.owner e.key e.command inv legal.0.unrefused;
      unplaced = event-unplaced H e.owner e.command (hold_made e.command) inv legal.0.unrefused;
    }

-- ---- the law

pub bindings : (H : History) (h : ℕ) → IsLegal H → IsBinding H h
bindings H h legal =
    let inv : IsBound H = legal-bound H legal in
    record {
      ready = (inv.bound.kept h, λ on. let f : Fits (goal_of H) (HoldShelf h) h (state H h) = rw on.1 at (inv.bound.fits on.0 h (rw on.1 refl)) in f);
      one_copy = λ c d p q. inv.bound.once c d h (rw p refl) (rw q refl);
      travels = λ c b p. let f : Fits (goal_of H) (Transit b (Some h)) h (state H h) = rw p at (inv.bound.fits c h (rw p refl)) in (f.1, f.0);
      one_travels = λ c d a b p q. inv.bound.once c d h (rw p refl) (rw q refl);
    }
