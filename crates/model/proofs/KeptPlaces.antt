-- A hold comes before one that stands in line only by coming back.
use Rattle.std.proofs.Common.{◌≡◌, ℕ, ◌≤◌, ◌==◌, Bool, true, false, ◌⊎◌, inl, inr, ◌∷◌, refl, sym, ◌∙◌, ap, subst, arith}
use Rattle.std.specs.Prelude.{Option, Some, None, is_none, option_and_then, option_map, unwrap_or}
use Rattle.std.proofs.lemmas.Bool.{eqb-true, eq-eqb}
use Rattle.terms.specs.declared.command.Owner.{Owner}
use Rattle.terms.specs.declared.command.Command.{Command}
use Rattle.terms.specs.declared.command.Command.TheVariants.{BeginDay, Acquire, Rehome, CheckOut, CheckIn, PlaceHold, CancelHold, Unshelve, UnshelveCancelled, Missing, Withdraw}
use Rattle.terms.specs.declared.row.HoldState.{HoldState}
use Rattle.terms.specs.declared.row.HoldState.TheVariants.{Waiting, Ready, Filled, Cancelled, Expired}
use Rattle.terms.specs.declared.refusal.Refusal.TheVariants as check
use Rattle.model.specs.History.{Event, History, today, today_after, has_begun, copy_of, copy_after, copies, CopyFacts, hold_made, hold_of, holds, next_hold}
use Rattle.model.specs.Places.{Place, Nowhere, Shelf, HoldShelf, Transit, MissingCopy, WithdrawnCopy, place, state, is_begun, is_coming}
use Rattle.model.specs.Places.{is_waiting, is_kept_for, is_bound_for, first_day_of, title_of_hold, goal_of, place_after, state_after, state_unshelved}
use Rattle.model.specs.Places.{state_at, route_by, route_from, kept_for_by, fills_by, place_let_go, place_unshelved, place_rehomed}
use Rattle.model.specs.Refusals.{refusal, checks, is_in_transit}
use Rattle.model.specs.Invariant.{Invariant, Serves}
use Rattle.model.specs.Laws.{stands_in_line}
use Rattle.model.specs.Requests.{IsLegal}
use Rattle.model.specs.TurnLaws.{ComesBack, KeepsPlaces, PlacesKept}
use Rattle.model.proofs.Passing.{passed}
use Rattle.model.proofs.Moves.{ne-eqb}
use Rattle.model.proofs.Bindings.{left, arrived, clash, waiting-is, kept-is, listed}
use Rattle.model.proofs.Line.{in-line, line-in, hold-kept}
use Rattle.model.proofs.Invariants.{legal-Invariant}
use Rattle.model.proofs.ShownRows.{any-some, bound-for}
use Rattle.model.proofs.Turns.{each-event}
use Rattle.model.proofs.UntouchedPatrons.{copy-title-stays}

module _ (H : History) (inv : Invariant H) (g : ℕ) where
  -- The command lets the hold come back.
  abbrev Returns : Command → Type 0
  Returns x = ((c : ℕ) × (x ≡ Missing c) × Serves (place H c) g) ⊎ ((d : ℕ) × (x ≡ BeginDay d) × (is_begun H g ≡ false))

  -- ---- its first day comes

  begins : (x : Command) → is_begun H g ≡ false → has_begun (today_after x (today H)) (first_day_of H g) ≡ true → Returns x
  begins (BeginDay d) before now = inr (d, refl, before)
  begins _ before now = absurd (clash _ now before)

  -- ---- it didn't wait

  module _ (before : is_waiting (state H g) ≡ false) where
    not-waiting : state H g ≡ Some Waiting → ⊥
    not-waiting e = clash _ (ap is_waiting e) before

    left-not : (ends : HoldState) (b : Bool) → (Some ends ≡ Some Waiting → ⊥) → left (state H g) ends b ≡ Some Waiting → ⊥
    left-not ends true off e = off e
    left-not ends false off e = not-waiting e

    arrived-not : (b : Bool) → arrived (state H g) b ≡ Some Waiting → ⊥
    arrived-not true e = let never : ⊥ = cc in never
    arrived-not false e = not-waiting e

    unshelved-not : (k : ℕ) (ends : HoldState) (found : Option ℕ) → (Some ends ≡ Some Waiting → ⊥)
        → state_unshelved H (place H) (state H) (is_begun H) k ends found g ≡ Some Waiting → ⊥
    unshelved-not k ends None off e = left-not ends (k == g) off e
    unshelved-not k ends (Some c) off e = go (k == g) e
      where
        go : (x : Bool) → (elim x as (λ _. Option HoldState)
            [ true ↦ Some ends | false ↦ state_at H (place H) (state H) (is_begun H) (route_by H (place H) (state H) (is_begun H) c (goal_of H k)) g ])
            ≡ Some Waiting → ⊥
        go true q = off q
        go false q = arrived-not (is_kept_for (route_by H (place H) (state H) (is_begun H) c (goal_of H k)) g) q

    waits-again : (x : Command) → (next_hold H == g) ≡ false → state_after H (place H) (state H) (is_begun H) x g ≡ Some Waiting → Returns x
    waits-again (Missing c) old e = go (is_kept_for (place H c) g) refl e
      where
        go : (b : Bool) → is_kept_for (place H c) g ≡ b → left (state H g) Waiting b ≡ Some Waiting → Returns (Missing c)
        go true d q = inl (c, refl, rw (kept-is (place H c) g d) refl)
        go false d q = absurd (not-waiting q)
    waits-again (CheckOut p c b) old e =
        absurd (left-not Filled (fills_by H (place H) (state H) (is_begun H) p c g) (λ q. let never : ⊥ = cc in never) e)
    waits-again (CheckIn c b) old e = absurd (arrived-not (is_kept_for (route_by H (place H) (state H) (is_begun H) c b) g) e)
    waits-again (CancelHold k) old e = absurd (left-not Cancelled (k == g) (λ q. let never : ⊥ = cc in never) e)
    waits-again (Unshelve k) old e =
        absurd (unshelved-not k Expired (kept_for_by H (place H) (state H) (is_begun H) k) (λ q. let never : ⊥ = cc in never) e)
    waits-again (UnshelveCancelled k) old e =
        absurd (unshelved-not k Cancelled (kept_for_by H (place H) (state H) (is_begun H) k) (λ q. let never : ⊥ = cc in never) e)
    waits-again (PlaceHold p t b d) old e =
        absurd (not-waiting (sym (ap (left (state H g) Waiting) old) ∙ e))
    waits-again _ old e = absurd (not-waiting e)

  -- ---- a copy was coming

  module _ (o : Owner) (c b : ℕ) (at : place H c ≡ Transit b (Some g)) where
    was-bound : is_bound_for (place H c) g ≡ true
    was-bound = ap (λ p. is_bound_for p g) at ∙ eq-eqb g g refl

    there : (r : CopyFacts) × (copy_of H c ≡ Some r)
    there = go (copy_of H c) refl
      where
        go : (q : Option CopyFacts) → copy_of H c ≡ q → (r : CopyFacts) × (copy_of H c ≡ Some r)
        go (Some r) e = (r, e)
        go None e = let no : Transit b (Some g) ≡ Nowhere = sym at ∙ inv.unknown c e in let never : ⊥ = cc in absurd never

    -- A command that moves copy n to q: it was c, or c is where it was.
    moves : (n : ℕ) (q : Place) (x : Command) → ((n ≡ c) → Returns x)
        → is_bound_for (elim (n == c) as (λ _. Place) [ true ↦ q | false ↦ place H c ]) g ≡ false → Returns x
    moves n q x same e = go (n == c) refl e
      where
        go : (y : Bool) → (n == c) ≡ y → is_bound_for (elim y as (λ _. Place) [ true ↦ q | false ↦ place H c ]) g ≡ false → Returns x
        go true d r = same (eqb-true n c d)
        go false d r = absurd (clash _ was-bound r)

    travels : (n : ℕ) → is_in_transit (place H n) ≡ false → n ≡ c → ⊥
    travels n off same = clash _ (ap is_in_transit (ap (place H) same ∙ at)) off

    routes : (n d : ℕ) → n ≡ c → arrived (state H g) (is_kept_for (route_by H (place H) (state H) (is_begun H) n d) g) ≡ Some Waiting
        → is_bound_for (route_by H (place H) (state H) (is_begun H) n d) g ≡ false → ⊥
    routes n d same waits gone = go (b == d) (ap (λ p. arrived (state H g) (is_kept_for p g)) (sym routed) ∙ waits) (ap (λ p. is_bound_for p g) (sym routed) ∙ gone)
      where
        routed : route_by H (place H) (state H) (is_begun H) n d ≡ (elim (b == d) as (λ _. Place) [ true ↦ HoldShelf g | false ↦ Transit b (Some g) ])
        routed = ap (route_from H (place H) (state H) (is_begun H) n d) (ap (place H) same ∙ at)

        go : (y : Bool) → arrived (state H g) (is_kept_for (elim y as (λ _. Place) [ true ↦ HoldShelf g | false ↦ Transit b (Some g) ]) g) ≡ Some Waiting
            → is_bound_for (elim y as (λ _. Place) [ true ↦ HoldShelf g | false ↦ Transit b (Some g) ]) g ≡ false → ⊥
        go true w f = let ready : Some Ready ≡ Some Waiting = sym (ap (arrived (state H g)) (eq-eqb g g refl)) ∙ w in let never : ⊥ = cc in never
        go false w f = clash _ (eq-eqb g g refl) f

    stops-coming : (x : Command) → refusal H o x ≡ None → state_after H (place H) (state H) (is_begun H) x g ≡ Some Waiting
        → is_bound_for (place_after H (place H) (state H) (is_begun H) x c) g ≡ false → Returns x
    stops-coming (Acquire n t kind home price text) ok waits gone = go (is_none (copy_of H n)) refl gone
      where
        go : (y : Bool) → is_none (copy_of H n) ≡ y
            → is_bound_for (elim y as (λ _. Place)
            [ true ↦ (elim (n == c) as (λ _. Place) [ true ↦ Shelf home | false ↦ place H c ]) | false ↦ place H c ]) g ≡ false
            → Returns (Acquire n t kind home price text)
        go true d r = moves n (Shelf home) (Acquire n t kind home price text)
            (λ same. absurd (clash _ d (ap is_none (ap (copy_of H) same ∙ there.1)))) r
        go false d r = absurd (clash _ was-bound r)
    stops-coming (Rehome n d) ok waits gone = go (n == c) refl gone
      where
        go : (y : Bool) → (n == c) ≡ y
            → is_bound_for (elim y as (λ _. Place)
            [ true ↦ place_rehomed H (place H) (state H) (is_begun H) d (place H n) | false ↦ place H c ]) g ≡ false
            → Returns (Rehome n d)
        go true q r =
            let stays : place_rehomed H (place H) (state H) (is_begun H) d (place H n) ≡ Transit b (Some g) =
            ap (place_rehomed H (place H) (state H) (is_begun H) d) (ap (place H) (eqb-true n c q) ∙ at) in
            absurd (clash _ (eq-eqb g g refl) (ap (λ p. is_bound_for p g) (sym stays) ∙ r))
        go false q r = absurd (clash _ was-bound r)
    stops-coming (CheckOut p n d) ok waits gone =
        moves n _ (CheckOut p n d) (λ same. absurd (travels n (passed (checks H o (CheckOut p n d)) ok check.InTransit) same)) gone
    stops-coming (CheckIn n d) ok waits gone = go (n == c) refl gone
      where
        go : (y : Bool) → (n == c) ≡ y
            → is_bound_for (elim y as (λ _. Place) [ true ↦ route_by H (place H) (state H) (is_begun H) n d | false ↦ place H c ]) g ≡ false
            → Returns (CheckIn n d)
        go true q r = absurd (routes n d (eqb-true n c q) waits r)
        go false q r = absurd (clash _ was-bound r)
    stops-coming (CancelHold k) ok waits gone = go (k == g) waits (ap (λ p. is_bound_for (place_let_go H (place H) (state H) (is_begun H) k p) g) (sym at) ∙ gone)
      where
        go : (y : Bool) → left (state H g) Cancelled y ≡ Some Waiting
            → is_bound_for (elim y as (λ _. Place) [ true ↦ Transit b None | false ↦ Transit b (Some g) ]) g ≡ false → Returns (CancelHold k)
        go true w f = let never : ⊥ = cc in absurd never
        go false w f = absurd (clash _ (eq-eqb g g refl) f)
    stops-coming (Unshelve k) ok waits gone =
        absurd (clash _ (eq-eqb g g refl) (ap (λ p. is_bound_for p g) (sym (unmoved k)) ∙ gone))
      where
        unmoved : (k : ℕ) → place_unshelved H (place H) (state H) (is_begun H) k c ≡ Transit b (Some g)
        unmoved k = ap (λ p. elim (is_kept_for p k) as (λ _. Place) [ true ↦ route_by H (place H) (state H) (is_begun H) c (goal_of H k) | false ↦ p ]) at
    stops-coming (UnshelveCancelled k) ok waits gone =
        absurd (clash _ (eq-eqb g g refl) (ap (λ p. is_bound_for p g) (sym (unmoved k)) ∙ gone))
      where
        unmoved : (k : ℕ) → place_unshelved H (place H) (state H) (is_begun H) k c ≡ Transit b (Some g)
        unmoved k = ap (λ p. elim (is_kept_for p k) as (λ _. Place) [ true ↦ route_by H (place H) (state H) (is_begun H) c (goal_of H k) | false ↦ p ]) at
    stops-coming (Missing n) ok waits gone =
        moves n MissingCopy (Missing n) (λ same. inl (n, refl, subst (λ p. Serves p g) (sym (ap (place H) same ∙ at)) refl)) gone
    stops-coming (Withdraw n) ok waits gone =
        moves n WithdrawnCopy (Withdraw n) (λ same. absurd (travels n (passed (checks H o (Withdraw n)) ok check.InTransit) same)) gone
    stops-coming _ ok waits gone = absurd (clash _ was-bound gone)

-- ---- the law

module _ (e : Event) (H : History) (legal : IsLegal (e ∷ H)) (t g : ℕ) (low : 1 ≤ g) (high : g ≤ holds H) where
  inv : Invariant H
  inv = legal-Invariant H legal.1

  kept : hold_of (e ∷ H) g ≡ hold_of H g
  kept = hold-kept H (hold_made e.command) g high

  -- An acquired copy stays acquired.
  still : (x : Command) (c : ℕ) (r : CopyFacts) → copy_of H c ≡ Some r → is_none (copy_after x c (copy_of H c)) ≡ false
  still x c r at = go (copy_after x c (copy_of H c)) (copy-title-stays x H c r at)
    where
      go : (o : Option CopyFacts) → option_map (λ (q : CopyFacts). q.title) o ≡ Some r.title → is_none o ≡ false
      go (Some q) e = refl
      go None e = let never : ⊥ = cc in absurd never

  -- A copy that was coming isn't any more.
  came : state (e ∷ H) g ≡ Some Waiting → is_coming (e ∷ H) g ≡ false → is_coming H g ≡ true → ComesBack e H g
  came waits gone coming =
      let c = any-some (λ d. is_bound_for (place H d) g) (copies H) coming in
      let at = bound-for H legal.1 g (place H c.0) c.1 in
      let r = there H inv g e.owner c.0 at.0 at.1 in
      let off = listed (e ∷ H) (λ d. is_bound_for (place (e ∷ H) d) g) c.0 gone (still e.command c.0 r.0 r.1) in
      stops-coming H inv g e.owner c.0 at.0 at.1 e.command legal.0.unrefused waits off

  comes-back : state (e ∷ H) g ≡ Some Waiting → is_coming (e ∷ H) g ≡ false → is_begun (e ∷ H) g ≡ true → title_of_hold (e ∷ H) g ≡ t
      → stands_in_line H t g ≡ false → ComesBack e H g
  comes-back waits gone begun title out = go (is_begun H g) refl (is_waiting (state H g)) refl (is_coming H g) refl
    where
      go : (x : Bool) → is_begun H g ≡ x → (y : Bool) → is_waiting (state H g) ≡ y → (z : Bool) → is_coming H g ≡ z → ComesBack e H g
      go false d y f z q =
          begins H inv g e.command d (sym (ap (λ o. has_begun (today (e ∷ H)) (option_and_then (λ r. r.first_day) o)) kept) ∙ begun)
      go true d false f z q = waits-again H inv g f e.command (ne-eqb (next_hold H) g (λ same. let never : ⊥ = omega (arith, same, high) in never)) waits
      go true d true f true q = came waits gone q
      go true d true f false q =
          let stood = line-in H t g low high (sym (ap (λ o. unwrap_or (option_map (λ r. r.title) o) 0) kept) ∙ title)
          (record { waits = record { waits = waiting-is _ f; uncoming = q }; begun = d }) in
          absurd (clash _ stood out)

keeps-places : (e : Event) (H : History) → IsLegal (e ∷ H) → KeepsPlaces e H
keeps-places e H legal t g h before stands out now =
    let inv = legal-Invariant H legal.1 in
    let after = legal-Invariant (e ∷ H) legal in
    let hold = in-line H t h stands in
    let made = inv.placed h Waiting hold.1.waits.waits in
    let old = inv.made_hold h made.0 made.1 in
    let is = in-line (e ∷ H) t g now in
    let placed = after.placed g Waiting is.1.waits.waits in
    let number = after.made_hold g placed.0 placed.1 in
    comes-back e H legal t g number.0 (omega (arith, before, old.1)) is.1.waits.waits is.1.waits.uncoming is.1.begun is.0 out

pub places-kept : PlacesKept
places-kept = each-event KeepsPlaces keeps-places
