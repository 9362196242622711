-- A filled, cancelled or expired hold stays so.
use Rattle.std.proofs.Common.{◌≡◌, ℕ, ◌==◌, Bool, true, false, ◌≢◌, List, [], ◌∷◌, refl, sym, ap, ◌∙◌, arith}
use Rattle.std.specs.Prelude.{Option, Some, None}
use Rattle.std.proofs.lemmas.Bool.{eqb-true, and_parts}
use Rattle.terms.specs.declared.command.Owner.{Owner}
use Rattle.terms.specs.declared.row.HoldState.{HoldState}
use Rattle.terms.specs.declared.row.HoldState.TheVariants.{Waiting, Ready, Filled, Cancelled, Expired}
use Rattle.terms.specs.declared.command.Command.{Command}
use Rattle.terms.specs.declared.command.Command.TheVariants.{CheckOut, CheckIn, CancelHold, Unshelve, UnshelveCancelled, Missing}
use Rattle.terms.specs.declared.refusal.Refusal.TheVariants as check
use Rattle.model.specs.History.{History, HoldFacts, hold_made, next_hold}
use Rattle.model.specs.Places.{Place, HoldShelf, Shelf, place, state, line, route, is_kept_for, title_of_copy, goal_of, fills_from}
use Rattle.model.specs.Places.{fills_by, fills_first, kept_for_by, state_unshelved, state_moved, state_made, is_begun}
use Rattle.model.specs.Refusals.{refusal, checks}
use Rattle.model.proofs.Passing.{passed}
use Rattle.model.specs.Invariant.{Fits}
use Rattle.model.proofs.Bindings.{IsBound, event, line-head, kept-is, route-goes, arrived, left, waiting-is, ready-is, not-false, unheld}
use Rattle.terms.specs.declared.command.Request.{Request}
use Rattle.model.specs.Laws.{is_final}
use Rattle.terms.specs.Callers.{owner_of}
use Rattle.model.specs.Requests.{IsLegal, after, after_one, adds, event_of}
use Rattle.model.proofs.Legal.{some-none, legal-bound}
use Rattle.model.proofs.Runs.{added, after_one-legal}

-- Neither waiting nor ready.
pub record IsSettled (s : HoldState) : Type 0 where
  pub unwaiting : s ≢ Waiting
  pub unready : s ≢ Ready

final-settled : (s : HoldState) → is_final s ≡ true → IsSettled s
final-settled s e = record {
  unwaiting = λ same. let off : is_final s ≡ false = ap is_final same in let never : ⊥ = cc in never;
  unready = λ same. let off : is_final s ≡ false = ap is_final same in let never : ⊥ = cc in never;
}

same_state : (s t : HoldState) (x : Option HoldState) → x ≡ Some s → x ≡ Some t → s ≡ t
same_state s t x e f = let both : Some s ≡ Some t = sym e ∙ f in cc

module _ (H : History) (h : ℕ) (s : HoldState) (inv : IsBound H) (settled : IsSettled s) (is : state H h ≡ Some s) where
  not_waiting : state H h ≡ Some Waiting → ⊥
  not_waiting e = settled.unwaiting (same_state s Waiting (state H h) is e)

  not_ready : state H h ≡ Some Ready → ⊥
  not_ready e = settled.unready (same_state s Ready (state H h) is e)

  fills_first-not : (t p : ℕ) (hs : List ℕ) → line H t ≡ hs → fills_first H (place H) (state H) (is_begun H) p hs h ≡ true → ⊥
  fills_first-not t p [] at e = let never : ⊥ = cc in never
  fills_first-not t p (g ∷ gs) at e = not_waiting (rw (← eqb-true g h (and_parts _ _ e).0) (line-head H t g gs at).0)

  fills-not : (n p : ℕ) (at : Place) → place H n ≡ at → fills_from H (place H) (state H) (is_begun H) p n at h ≡ true → ⊥
  fills-not n p (HoldShelf g) at e =
      let f : Fits (goal_of H) (HoldShelf g) h (state H h) = rw at at (inv.bound.fits n h (rw at (eqb-true g h e))) in not_ready f
  fills-not n p (Shelf b) at e = fills_first-not (title_of_copy H n) p (line H (title_of_copy H n)) refl e
  fills-not n p _ at e = let never : ⊥ = cc in never

  left-stays : (ends : HoldState) (b : Bool) → (b ≡ true → ⊥) → left (state H h) ends b ≡ Some s
  left-stays ends true off = absurd (off refl)
  left-stays ends false off = is

  arrived-stays : (n b : ℕ) → arrived (state H h) (is_kept_for (route H n b) h) ≡ Some s
  arrived-stays n b = go (is_kept_for (route H n b) h) refl
    where
      go : (x : Bool) → is_kept_for (route H n b) h ≡ x → arrived (state H h) x ≡ Some s
      go true e = absurd (not_waiting (route-goes H n b inv h (rw (kept-is (route H n b) h e) refl)).1)
      go false e = is

  unshelved-stays : (g : ℕ) (ends : HoldState) (found : Option ℕ) → state H g ≡ Some Ready
      → state_unshelved H (place H) (state H) (is_begun H) g ends found h ≡ Some s
  unshelved-stays g ends found ready = go found (g == h) refl
    where
      other : (g == h) ≡ true → ⊥
      other e = not_ready (rw (← eqb-true g h e) ready)

      go : (f : Option ℕ) (x : Bool) → (g == h) ≡ x → state_unshelved H (place H) (state H) (is_begun H) g ends f h ≡ Some s
      go f true e = absurd (other e)
      go None false e = rw (e, state_unshelved) is
      go (Some c) false e = rw (e, state_unshelved) (arrived-stays c (goal_of H g))

  moved-stays : (o : Owner) (c : Command) → refusal H o c ≡ None → state_moved H (place H) (state H) (is_begun H) c h ≡ Some s
  moved-stays o (CheckOut p n b) ok = left-stays Filled (fills_by H (place H) (state H) (is_begun H) p n h) (λ e. fills-not n p (place H n) refl e)
  moved-stays o (CheckIn n b) ok = arrived-stays n b
  moved-stays o (CancelHold g) ok =
      left-stays Cancelled (g == h) (λ e. not_waiting (rw (← eqb-true g h e) (waiting-is _ (not-false _ (passed (checks H o (CancelHold g)) ok check.WrongHoldState)))))
  moved-stays o (Unshelve g) ok =
      unshelved-stays g Expired (kept_for_by H (place H) (state H) (is_begun H) g)
      (ready-is _ (not-false _ (passed (checks H o (Unshelve g)) ok check.WrongHoldState)))
  moved-stays o (UnshelveCancelled g) ok =
      unshelved-stays g Cancelled (kept_for_by H (place H) (state H) (is_begun H) g)
      (ready-is _ (not-false _ (passed (checks H o (UnshelveCancelled g)) ok check.WrongHoldState)))
  moved-stays o (Missing n) ok =
      left-stays Waiting (is_kept_for (place H n) h)
      (λ e. let f : Fits (goal_of H) (HoldShelf h) h
      (state H h) = rw (kept-is (place H n) h e) at (inv.bound.fits n h (rw (kept-is (place H n) h e) refl)) in not_ready f)
  moved-stays o _ ok = is

  made-stays : (o : Owner) (c : Command) (made : Option HoldFacts) → refusal H o c ≡ None → state_made H (place H) (state H) (is_begun H) made c h ≡ Some s
  made-stays o c (Some made) ok =
      left-stays Waiting (next_hold H == h) (λ e. some-none _ s is (inv.unplaced h (unheld H h (omega (arith, eqb-true (next_hold H) h e)))))
  made-stays o c None ok = moved-stays o c ok

  pub event-stays : (o : Owner) (k : List ℕ) (c : Command) → refusal H o c ≡ None → state (event o k c ∷ H) h ≡ Some s
  event-stays o k c ok = made-stays o c (hold_made c) ok

one-stays : (H : History) (r : Request) (h : ℕ) (s : HoldState) → IsLegal H → is_final s ≡ true → state H h ≡ Some s → state (after_one H r) h ≡ Some s
one-stays H r h s legal final is = go (adds H r) refl
  where
    go : (b : Bool) → adds H r ≡ b → state (elim b as (λ _. History) [ true ↦ event_of r ∷ H | false ↦ H ]) h ≡ Some s
    go true e = event-stays H h s (legal-bound H legal) (final-settled s final) is (owner_of r.caller) r.key r.command (added H r e).unrefused
    go false e = is

-- A hold in a final state stays in it after any requests.
pub after-stays : (rs : List Request) (H : History) (h : ℕ) (s : HoldState) → IsLegal H → is_final s ≡ true → state H h ≡ Some s → state (after H rs) h ≡ Some s
after-stays [] H h s legal final is = is
after-stays (r ∷ rs) H h s legal final is = after-stays rs (after_one H r) h s (after_one-legal H r legal) final (one-stays H r h s legal final is)
