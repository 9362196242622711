-- Each accepted check-out, renewal and filling keeps to the turns.
use Rattle.std.proofs.Common.{◌≡◌, ◌≢◌, ℕ, ◌==◌, Bool, true, false, not, ◌&&◌, ◌⊎◌, inl, inr, List, [], ◌∷◌, refl, sym, ◌∙◌, ap, subst}
use Rattle.std.specs.Prelude.{Option, Some, None, is_some}
use Rattle.std.proofs.lemmas.Bool.{eqb-true, eq-eqb, and_parts}
use Rattle.terms.specs.declared.command.Owner.{Owner}
use Rattle.terms.specs.declared.command.Command.{Command}
use Rattle.terms.specs.declared.command.Command.TheVariants.{CheckOut, CheckIn, Renew, CancelHold, Unshelve, UnshelveCancelled, Missing}
use Rattle.terms.specs.declared.row.HoldState.{HoldState}
use Rattle.terms.specs.declared.row.HoldState.TheVariants.{Waiting, Filled, Cancelled, Expired}
use Rattle.terms.specs.declared.refusal.Refusal.TheVariants as check
use Rattle.model.specs.History.{Event, History, HoldFacts, hold_made, holds, next_hold, numbers_to, copy_of}
use Rattle.model.specs.Places.{Place, Nowhere, Shelf, HoldShelf, Transit, Loan, MissingCopy, WithdrawnCopy, place, state, line, is_begun}
use Rattle.model.specs.Places.{title_of_copy, title_of_hold, patron_of_hold, goal_of, fills_by, fills_from, fills_first, state_after, state_made}
use Rattle.model.specs.Places.{state_moved, state_unshelved, state_at, route_by, kept_for_by, is_kept_for}
use Rattle.model.specs.Loans.{title_of_loan}
use Rattle.model.specs.Refusals.{refusal, checks, is_withdrawn, is_missing, is_on_loan, is_in_transit, is_elsewhere, is_kept_for_other}
use Rattle.model.specs.Refusals.{is_wanted_by_other, is_first_other, is_empty, has_copy}
use Rattle.model.specs.Invariant.{Invariant}
use Rattle.model.specs.Requests.{IsLegal}
use Rattle.model.specs.TurnLaws.{EachEvent, IsGivenFor, IsGivenToFirst, IsLentFrom, IsInTurn, Turns}
use Rattle.model.proofs.Passing.{passed}
use Rattle.model.proofs.Bindings.{both, filter-head, left, arrived, not-false}
use Rattle.model.proofs.Invariants.{legal-Invariant}

-- What holds of each accepted event holds all along a legal history.
pub each-event : (Is : Event → History → Type 0) → ((e : Event) (H : History) → IsLegal (e ∷ H) → Is e H) → (H : History) → IsLegal H → EachEvent Is H
each-event Is is [] legal = tt
each-event Is is (e ∷ H) legal = (is e H legal, each-event Is is H legal.1)

-- ---- check-outs

same-number : (a b : ℕ) → not (a == b) ≡ false → a ≡ b
same-number a b e = eqb-true a b (not-false _ e)

-- A hold that the check-out fills is filled after it.
fills-filled : (H : History) (p c b h : ℕ) → fills_by H (place H) (state H) (is_begun H) p c h ≡ true
    → state_after H (place H) (state H) (is_begun H) (CheckOut p c b) h ≡ Some Filled
fills-filled H p c b h e = ap (λ x. left (state H h) Filled x) e

head-title : (H : History) (t h : ℕ) (hs : List ℕ) → line H t ≡ h ∷ hs → title_of_hold H h ≡ t
head-title H t h hs e = eqb-true _ _ (both _ _ (filter-head _ (numbers_to (holds H)) h hs e)).0

module _ (e : Event) (H : History) (inv : Invariant H) (p c b : ℕ) (is : e.command ≡ CheckOut p c b) where
  given : (h : ℕ) → patron_of_hold H h ≡ p → title_of_hold H h ≡ title_of_copy H c → fills_by H (place H) (state H) (is_begun H) p c h ≡ true
      → IsGivenFor e H p c h
  given h own title fills = record {
    patron = own;
    title = title;
    filled = ap (λ x. state_after H (place H) (state H) (is_begun H) x h) is ∙ fills-filled H p c b h fills;
  }

  from-shelf : (n : ℕ) → place H c ≡ Shelf n → (hs : List ℕ) → line H (title_of_copy H c) ≡ hs → is_first_other H p hs ≡ false
      → (line H (title_of_copy H c) ≡ []) ⊎ IsGivenToFirst e H p c
  from-shelf n at [] stand own = inl stand
  from-shelf n at (h ∷ hs) stand own =
      let is_own : patron_of_hold H h ≡ p = same-number _ _ own in
      let test : ((h == h) && (patron_of_hold H h == p)) ≡ true =
      ap (λ x. x && (patron_of_hold H h == p)) (eq-eqb h h refl) ∙ eq-eqb _ _ is_own in
      let fills : fills_by H (place H) (state H) (is_begun H) p c h ≡ true =
      ap (λ x. fills_from H (place H) (state H) (is_begun H) p c x h) at
      ∙ ap (λ x. fills_first H (place H) (state H) (is_begun H) p x h) stand ∙ test in
      inr (record { hold = h; others = hs; first = stand; given = given h is_own (head-title H (title_of_copy H c) h hs stand) fills })

  from-hold_shelf : (h : ℕ) → place H c ≡ HoldShelf h → is_kept_for_other H p (HoldShelf h) ≡ false → IsGivenFor e H p c h
  from-hold_shelf h at own =
      given h (same-number _ _ own) (inv.of_title c h (rw at refl))
      (ap (λ x. fills_from H (place H) (state H) (is_begun H) p c x h) at ∙ eq-eqb h h refl)

  -- The checks of a check-out on the place of the copy.
  record Passes (at : Place) : Type 0 where
    somewhere : at ≡ Nowhere → ⊥
    withdrawn : is_withdrawn at ≡ false
    missing : is_missing at ≡ false
    loan : is_on_loan at ≡ false
    transit : is_in_transit at ≡ false
    elsewhere : is_elsewhere H b at ≡ false
    other : is_kept_for_other H p at ≡ false
    wanted : is_wanted_by_other H p (line H (title_of_copy H c)) at ≡ false

  lent-from : (at : Place) → place H c ≡ at → Passes at → IsLentFrom e H p c b at
  lent-from (Shelf n) at k = (same-number _ _ k.elsewhere, from-shelf n at (line H (title_of_copy H c)) refl k.wanted)
  lent-from (HoldShelf h) at k = (same-number _ _ k.elsewhere, from-hold_shelf h at k.other)
  lent-from Nowhere at k = absurd (k.somewhere refl)
  lent-from (Transit g h) at k = let no : true ≡ false = k.transit in let never : ⊥ = cc in absurd never
  lent-from (Loan l) at k = let no : true ≡ false = k.loan in let never : ⊥ = cc in absurd never
  lent-from MissingCopy at k = let no : true ≡ false = k.missing in let never : ⊥ = cc in absurd never
  lent-from WithdrawnCopy at k = let no : true ≡ false = k.withdrawn in let never : ⊥ = cc in absurd never

  acquired : has_copy H c ≡ true → place H c ≡ Nowhere → ⊥
  acquired has = let f = facts (copy_of H c) has in (inv.acquired c f.0 f.1).0
    where
      facts : {A : Type 0} (o : Option A) → is_some o ≡ true → (x : A) × (o ≡ Some x)
      facts (Some x) e = (x, refl)
      facts None e = let never : ⊥ = cc in absurd never

  lent-in-turn : (o : Owner) → refusal H o (CheckOut p c b) ≡ None → IsLentFrom e H p c b (place H c)
  lent-in-turn o ok =
      let k = passed (checks H o (CheckOut p c b)) ok in
      lent-from (place H c) refl (record {
        somewhere = acquired (not-false _ (k check.UnknownCopy));
        withdrawn = (k check.CopyWithdrawn);
        missing = (k check.CopyMissing);
        loan = (k check.OnLoan);
        transit = (k check.InTransit);
        elsewhere = (k check.Elsewhere);
        other = (k check.OnHoldShelf);
        wanted = (k check.HoldWaits);
      })

-- ---- renewals

nobody : (xs : List ℕ) → not (is_empty xs) ≡ false → xs ≡ []
nobody [] e = refl
nobody (x ∷ xs) e = let never : ⊥ = cc in absurd never

renewed-in-turn : (H : History) (o : Owner) (l : ℕ) → refusal H o (Renew l) ≡ None → line H (title_of_loan H l) ≡ []
renewed-in-turn H o l ok = nobody _ (passed (checks H o (Renew l)) ok check.HoldWaits)

-- ---- what fills a hold

module _ (H : History) (h : ℕ) (unfilled : state H h ≢ Some Filled) where
  -- The state isn't that of a filled hold.
  abbrev Unfilled : Option HoldState → Type 0
  Unfilled s = s ≡ Some Filled → ⊥

  left-unfilled : (ends : HoldState) (b : Bool) → (Some ends ≡ Some Filled → ⊥) → Unfilled (left (state H h) ends b)
  left-unfilled ends true off = off
  left-unfilled ends false off = unfilled

  arrived-unfilled : (b : Bool) → Unfilled (arrived (state H h) b)
  arrived-unfilled true = λ e. let never : ⊥ = cc in never
  arrived-unfilled false = unfilled

  unshelved-unfilled : (g : ℕ) (ends : HoldState) (found : Option ℕ) → (Some ends ≡ Some Filled → ⊥)
      → Unfilled (state_unshelved H (place H) (state H) (is_begun H) g ends found h)
  unshelved-unfilled g ends None off = left-unfilled ends (g == h) off
  unshelved-unfilled g ends (Some c) off = go (g == h)
    where
      go : (x : Bool) → Unfilled (elim x as (λ _. Option HoldState)
          [ true ↦ Some ends | false ↦ state_at H (place H) (state H) (is_begun H) (route_by H (place H) (state H) (is_begun H) c (goal_of H g)) h ])
      go true = off
      go false = arrived-unfilled (is_kept_for (route_by H (place H) (state H) (is_begun H) c (goal_of H g)) h)

  -- What fills the hold is a check-out of its title for its patron.
  abbrev FilledBy : Command → Type 0
  FilledBy x = (c : ℕ) × (b : ℕ) × (x ≡ CheckOut (patron_of_hold H h) c b) × (title_of_hold H h ≡ title_of_copy H c)

  module _ (inv : Invariant H) (o : Owner) where
    fills-first : (p t : ℕ) (hs : List ℕ) → line H t ≡ hs → fills_first H (place H) (state H) (is_begun H) p hs h ≡ true
        → (patron_of_hold H h ≡ p) × (title_of_hold H h ≡ t)
    fills-first p t [] at e = let never : ⊥ = cc in absurd never
    fills-first p t (g ∷ gs) at e =
        let parts = and_parts (g == h) (patron_of_hold H g == p) e in
        let same : g ≡ h = eqb-true g h parts.0 in (
          subst (λ x. patron_of_hold H x ≡ p) same (eqb-true _ _ parts.1),
          subst (λ x. title_of_hold H x ≡ t) same (head-title H t g gs at),
        )

    fills-own : (p c b : ℕ) → refusal H o (CheckOut p c b) ≡ None → (at : Place) → place H c ≡ at
        → fills_from H (place H) (state H) (is_begun H) p c at h ≡ true → (patron_of_hold H h ≡ p) × (title_of_hold H h ≡ title_of_copy H c)
    fills-own p c b ok (HoldShelf g) at e =
        let same : g ≡ h = eqb-true g h e in
        let k = passed (checks H o (CheckOut p c b)) ok in
        let own : is_kept_for_other H p (HoldShelf g) ≡ false = subst (λ x. is_kept_for_other H p x ≡ false) at (k check.OnHoldShelf) in (
          subst (λ x. patron_of_hold H x ≡ p) same (same-number _ _ own),
          inv.of_title c h (rw at same),
        )
    fills-own p c b ok (Shelf n) at e = fills-first p (title_of_copy H c) (line H (title_of_copy H c)) refl e
    fills-own p c b ok _ at e = let never : ⊥ = cc in absurd never

    moved-fills : (x : Command) → refusal H o x ≡ None → state_moved H (place H) (state H) (is_begun H) x h ≡ Some Filled → FilledBy x
    moved-fills (CheckOut p c b) ok e = go (fills_by H (place H) (state H) (is_begun H) p c h) refl e
      where
        go : (x : Bool) → fills_by H (place H) (state H) (is_begun H) p c h ≡ x → left (state H h) Filled x ≡ Some Filled → FilledBy (CheckOut p c b)
        go true f q = let own = fills-own p c b ok (place H c) refl f in (c, b, ap (λ n. CheckOut n c b) (sym own.0), own.1)
        go false f q = absurd (unfilled q)
    moved-fills (CheckIn c b) ok e = absurd (arrived-unfilled (is_kept_for (route_by H (place H) (state H) (is_begun H) c b) h) e)
    moved-fills (CancelHold g) ok e = absurd (left-unfilled Cancelled (g == h) (λ q. let never : ⊥ = cc in never) e)
    moved-fills (Unshelve g) ok e =
        absurd (unshelved-unfilled g Expired (kept_for_by H (place H) (state H) (is_begun H) g) (λ q. let never : ⊥ = cc in never) e)
    moved-fills (UnshelveCancelled g) ok e =
        absurd (unshelved-unfilled g Cancelled (kept_for_by H (place H) (state H) (is_begun H) g) (λ q. let never : ⊥ = cc in never) e)
    moved-fills (Missing c) ok e = absurd (left-unfilled Waiting (is_kept_for (place H c) h) (λ q. let never : ⊥ = cc in never) e)
    moved-fills _ ok e = absurd (unfilled e)

    event-fills : (x : Command) (made : Option HoldFacts) → refusal H o x ≡ None
        → state_made H (place H) (state H) (is_begun H) made x h ≡ Some Filled → FilledBy x
    event-fills x (Some made) ok e = absurd (left-unfilled Waiting (next_hold H == h) (λ q. let never : ⊥ = cc in never) e)
    event-fills x None ok e = moved-fills x ok e

-- ---- the law

in-turn : (e : Event) (H : History) → IsLegal (e ∷ H) → IsInTurn e H
in-turn e H legal =
    let inv = legal-Invariant H legal.1 in
    record {
      lent = λ p c b is. lent-in-turn e H inv p c b is e.owner (subst (λ x. refusal H e.owner x ≡ None) is legal.0.unrefused);
      renewed = λ l is. renewed-in-turn H e.owner l (subst (λ x. refusal H e.owner x ≡ None) is legal.0.unrefused);
      filled = λ h before now.
          let by = event-fills H h before inv e.owner e.command (hold_made e.command) legal.0.unrefused now in
          record { copy = by.0; branch = by.1; command = by.2; title = by.3 };
    }

pub turns : Turns
turns = each-event IsInTurn in-turn
