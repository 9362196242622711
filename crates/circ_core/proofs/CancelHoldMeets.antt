-- Cancel-hold meets the history.
use Rattle.std.proofs.Common.{◌≡◌, ℕ, ◌==◌, Bool, true, false, not, List, ◌∷◌, ◌++◌, refl, sym, ◌∙◌, ap, subst}
use Rattle.std.specs.Prelude.{Option, Some, None, option_map, option_and_then, is_none, is_some, find}
use Rattle.std.proofs.lemmas.Bool.{eqb-true, eq-eqb, false_from_ne_true}
use Rattle.terms.specs.declared.command.Owner.{Owner}
use Rattle.terms.specs.declared.command.Owner.TheVariants.{Desk}
use Rattle.terms.specs.declared.command.Command.TheVariants.{CancelHold}
use Rattle.terms.specs.declared.reply.Reply.TheVariants.{Done}
use Rattle.terms.specs.declared.row.HoldRow.{HoldRow}
use Rattle.terms.specs.declared.row.HoldState.{HoldState}
use Rattle.terms.specs.declared.row.HoldState.TheVariants.{Waiting, Ready, Filled, Cancelled, Expired}
use Rattle.terms.specs.declared.row.TransitRow.{TransitRow}
use Rattle.terms.specs.Pictures.{put}
use Rattle.terms.specs.declared.refusal.Refusal.TheVariants as check
use Rattle.model.specs.History.{History, copy_of, copies, HoldFacts, hold_of}
use Rattle.model.specs.Places.{Place, Transit, place, state, is_kept_for, is_bound_for, is_waiting, place_let_go, limit, is_begun}
use Rattle.model.specs.Refusals.{checks, has_hold}
use Rattle.model.specs.Invariant.{Invariant, Serves}
use Rattle.model.specs.Picture.{picture, copy_columns, hold_row, hold_columns, transit_row, transit_at, condition_at, hold_by, hold_with}
use Rattle.model.proofs.Bindings.{not-false}
use Rattle.model.proofs.Passing.{passed}
use Rattle.circ_core.specs.declared.views.View.{View}
use Rattle.circ_core.specs.Holds.{finished}
use Rattle.circ_core.specs.CancelHold.{waits, cancel_hold_checks, cancelled_rows, let_go_rows, cancel_hold_rows}
use Rattle.circ_core.specs.Tables.{changed, SameRows}
use Rattle.circ_core.specs.Views.{IsTravelFor, IsCancelHoldView}
use Rattle.circ_core.specs.Decides.{event}
use Rattle.circ_core.proofs.Meets.{Meets, SameChecks}
use Rattle.model.proofs.ClosedDays.{eq-sym}
use Rattle.circ_core.proofs.Rows.{some-is, and-true}
use Rattle.circ_core.proofs.Rising.{find-same}
use Rattle.circ_core.proofs.Claims.{hold_row-from}
use Rattle.circ_core.proofs.FirstInLine.{bound-is, transit-is, waiting-is}

-- ---- one hold's row

module _ (H : History) (inv : Invariant H) (h : ℕ) where
  -- The row is missing exactly where the hold is.
  row_there : is_none (hold_row H h) ≡ not (is_some (hold_of H h))
  row_there = go (hold_of H h) refl
    where
      go : (o : Option HoldFacts) → hold_of H h ≡ o → is_none (hold_row H h) ≡ not (is_some o)
      go (Some f) e =
          let s : (s : HoldState) × (state H h ≡ Some s) = inv.stated h f e in ap is_none (hold_row-from H h s.0 f s.1 e)
      go None e = absent (state H h)
        where
          absent : (o : Option HoldState) → is_none (option_and_then (λ s. option_map (hold_columns H h s) (hold_of H h)) o) ≡ true
          absent (Some s) = ap (λ o. is_none (option_map (hold_columns H h s) o)) e
          absent None = refl

  waits_same : (f : HoldFacts) → hold_of H h ≡ Some f → waits (hold_row H h) ≡ is_waiting (state H h)
  waits_same f e = go (state H h) refl
    where
      by_state : (s : HoldState) → waits (Some (hold_columns H h s f)) ≡ is_waiting (Some s)
      by_state Waiting = refl
      by_state Ready = refl
      by_state Filled = refl
      by_state Cancelled = refl
      by_state Expired = refl

      go : (o : Option HoldState) → state H h ≡ o → waits (hold_row H h) ≡ is_waiting o
      go (Some s) d = ap waits (hold_row-from H h s f d e) ∙ by_state s
      go None d = ap (λ o. waits (option_and_then (λ s. option_map (hold_columns H h s) (hold_of H h)) o)) d

-- ---- places

module _ (H : History) (h : ℕ) where
  abbrev goes_on : Place → Place
  goes_on p = place_let_go H (place H) (state H) (is_begun H) h p

  same_condition : (p : Place) → condition_at p ≡ condition_at (goes_on p)
  same_condition (Transit b (Some g)) = go (h == g)
    where
      go : (x : Bool) → condition_at (Transit b (Some g)) ≡ condition_at (elim x as (λ _. Place) [ true ↦ Transit b None | false ↦ Transit b (Some g) ])
      go true = refl
      go false = refl
  same_condition (Transit b None) = refl
  same_condition _ = refl

  same_kept : (p : Place) (n : ℕ) → is_kept_for (goes_on p) n ≡ is_kept_for p n
  same_kept (Transit b (Some g)) n = go (h == g)
    where
      go : (x : Bool) → is_kept_for (elim x as (λ _. Place) [ true ↦ Transit b None | false ↦ Transit b (Some g) ]) n ≡ false
      go true = refl
      go false = refl
  same_kept (Transit b None) n = refl
  same_kept _ n = refl

  -- A copy that isn't bound for the hold stays as it is.
  stays : (p : Place) → is_bound_for p h ≡ false → goes_on p ≡ p
  stays (Transit b (Some g)) e = ap (λ x. elim x as (λ _. Place) [ true ↦ Transit b None | false ↦ Transit b (Some g) ]) (eq-sym h g ∙ e)
  stays (Transit b None) e = refl
  stays _ e = refl

  travels : (b : ℕ) → goes_on (Transit b (Some h)) ≡ Transit b None
  travels b = ap (λ x. elim x as (λ _. Place) [ true ↦ Transit b None | false ↦ Transit b (Some h) ]) (eq-eqb h h refl)

-- ---- the rows

module _ (H : History) (inv : Invariant H) (h : ℕ) where
  -- No copy travels for the hold, so all transits stay.
  transits_stay : IsTravelFor (picture H) h None → (n : ℕ) → transit_row H n ≡ transit_at n (goes_on H h (place H n))
  transits_stay w n =
      ap (transit_at n) (sym (stays H h (place H n) (false_from_ne_true _ (λ e.
      let at : (b : ℕ) × (place H n ≡ Transit b (Some h)) = bound-is (place H n) h e in
      w n (record { copy = n; goal = at.0; hold = Some h }) (ap (transit_at n) at.1) refl))))

  -- The transit of the copy that comes for the hold.
  coming_is : (t : TransitRow) → IsTravelFor (picture H) h (Some t) → place H t.copy ≡ Transit t.goal (Some h)
  coming_is t w =
      let at : (b : ℕ) × (place H t.copy ≡ Transit b (Some h)) = bound-is (place H t.copy) h (transit-is t.copy (place H t.copy) t h w.0 w.1) in
      let both : Some (record { copy = t.copy; goal = at.0; hold = Some h }) ≡ Some t = sym (ap (transit_at t.copy) at.1) ∙ w.0 in
      let row : ◌≡◌ {A = TransitRow} (record { copy = t.copy; goal = at.0; hold = Some h }) t = cc in
      at.1 ∙ ap (λ b. Transit b (Some h)) (ap (λ x. x.goal) row)

  -- It goes on for no hold, and every other copy as before.
  one_goes_on : (t : TransitRow) → IsTravelFor (picture H) h (Some t) → (n : ℕ)
      → put (transit_row H) t.copy (Some (record t { hold = None })) n ≡ transit_at n (goes_on H h (place H n))
  one_goes_on t w n = go (t.copy == n) refl
    where
      at : place H t.copy ≡ Transit t.goal (Some h)
      at = coming_is t w

      serves : (x : ℕ) (b : ℕ) → place H x ≡ Transit b (Some h) → Serves (place H x) h
      serves x b e = rw e refl

      go : (x : Bool) → (t.copy == n) ≡ x
          → (elim x as (λ _. Option TransitRow) [ true ↦ Some (record t { hold = None }) | false ↦ transit_row H n ]) ≡ transit_at n
          (goes_on H h (place H n))
      go true e = subst (λ m. Some (record t { hold = None }) ≡ transit_at m (goes_on H h (place H m))) (eqb-true _ _ e)
          (sym (ap (transit_at t.copy) (ap (goes_on H h) at ∙ travels H h t.goal)))
      go false e =
          ap (transit_at n) (sym (stays H h (place H n) (false_from_ne_true _ (λ f.
          let there : (b : ℕ) × (place H n ≡ Transit b (Some h)) = bound-is (place H n) h f in
          let same : t.copy ≡ n = inv.bound.once t.copy n h (serves t.copy t.goal at) (serves n there.0 there.1) in
          let yes' : (t.copy == n) ≡ true = eq-eqb _ _ same in
          let never : ⊥ = cc in never))))

  abbrev hold_after_it : ℕ → Bool → Option HoldRow
  hold_after_it n gone =
      hold_by n (hold_of H n) (elim gone as (λ _. Option HoldState) [ true ↦ Some Cancelled | false ↦ state H n ])
      (find (λ y. is_kept_for (goes_on H h (place H y)) n) (copies H)) (limit H n)

  one_cancelled : (f : HoldFacts) → hold_of H h ≡ Some f → (n : ℕ)
      → put (hold_row H) h (Some (finished (hold_columns H h Waiting f) Cancelled)) n ≡ hold_after_it n (h == n)
  one_cancelled f e n = go (h == n) refl
    where
      here : Some (finished (hold_columns H h Waiting f) Cancelled) ≡ hold_after_it h true
      here = sym (ap (option_map (hold_with h Cancelled None None)) e)

      go : (x : Bool) → (h == n) ≡ x
          → (elim x as (λ _. Option HoldRow) [ true ↦ Some (finished (hold_columns H h Waiting f) Cancelled) | false ↦ hold_row H n ])
          ≡ hold_after_it n x
      go true d = subst (λ m. Some (finished (hold_columns H h Waiting f) Cancelled) ≡ hold_after_it m true) (eqb-true _ _ d) here
      go false d =
          ap (λ k. hold_by n (hold_of H n) (state H n) k (limit H n)) (sym (find-same _ _ (λ y. same_kept H h (place H y) n) (copies H)))

  copies_same : (n : ℕ) → (picture H).copies n ≡ option_map
      (λ x. record (copy_columns H n x) { condition = condition_at (goes_on H h (place H n)) }) (copy_of H n)
  copies_same n = ap (λ k. option_map (λ x. record (copy_columns H n x) { condition = k }) (copy_of H n)) (same_condition H h (place H n))

  lead : (f : HoldFacts) → hold_of H h ≡ Some f → (o : Option TransitRow) → IsTravelFor (picture H) h o → (owner : Owner) (key : List ℕ)
      → SameRows (changed (cancelled_rows (Some (hold_columns H h Waiting f)) ++ let_go_rows o) (picture H)) (picture (event owner key (CancelHold h) ∷ H))
  lead f e (Some t) w owner key = λ i. record (picture (event owner key (CancelHold h) ∷ H)) {
    copies = λ n. copies_same n i;
    holds = λ h. one_cancelled f e h i;
    transits = λ n. one_goes_on t w n i;
  }
  lead f e None w owner key = λ i. record (picture (event owner key (CancelHold h) ∷ H)) {
    copies = λ n. copies_same n i;
    holds = λ h. one_cancelled f e h i;
    transits = λ n. transits_stay w n i;
  }

-- ---- cancel-hold

module _ (H : History) (inv : Invariant H) (h : ℕ) (v : View) (w : IsCancelHoldView (picture H) h v) where
  known : not (has_hold H Desk h) ≡ false → (f : HoldFacts) × (hold_of H h ≡ Some f)
  known e = some-is (hold_of H h) (ap not (sym (and-true (is_some (hold_of H h)))) ∙ e)

  cancel_hold_same : SameChecks (cancel_hold_checks v) (checks H Desk (CancelHold h))
  cancel_hold_same = (
    refl,
    (ap is_none w.hold ∙ row_there H inv h ∙ ap not (sym (and-true (is_some (hold_of H h))))),
    λ p15.
        let f : (f : HoldFacts) × (hold_of H h ≡ Some f) = known p15 in (refl, ap not (ap waits w.hold ∙ waits_same H inv h f.0 f.1), λ p53. tt),
  )

  pub cancel_hold_meets : Meets H (CancelHold h) (cancel_hold_checks v) Done (cancel_hold_rows v)
  cancel_hold_meets = record {
    same = cancel_hold_same;
    due = λ _. refl;
    leads = λ ok owner key.
        let k = passed (checks H Desk (CancelHold h)) ok in
        let f : (f : HoldFacts) × (hold_of H h ≡ Some f) = known (k check.UnknownHold) in
        let waiting : state H h ≡ Some Waiting = waiting-is (state H h) (not-false _ (k check.WrongHoldState)) in
        let row : v.hold ≡ Some (hold_columns H h Waiting f.0) = w.hold ∙ hold_row-from H h Waiting f.0 waiting f.1 in
        rw row (lead H inv h f.0 f.1 v.transit w.transit owner key);
  }
