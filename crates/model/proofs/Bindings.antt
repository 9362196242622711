-- In a legal history a hold is ready exactly if one copy stands on its hold shelf, and a copy that travels
-- for a hold fits it.
use Rattle.std.proofs.Common.{◌≡◌, ℕ, ◌<◌, ◌==◌, Bool, true, false, cond, ◌&&◌, ◌||◌, not, ◌⊎◌, ◌≢◌, inl, inr, List, [], ◌∷◌, refl, sym, ◌∙◌, ap, subst, arith}
use Rattle.std.specs.Prelude.{Option, Some, None, is_none, filter, find, unwrap_or, option_map}
use Rattle.std.specs.List.{list_any}
use Rattle.std.specs.Option.{option_or}
use Rattle.std.proofs.lemmas.Bool.{eqb-true, eq-eqb, and_parts, or_parts}
use Rattle.terms.specs.declared.command.Owner.{Owner}
use Rattle.terms.specs.declared.row.HoldState.{HoldState}
use Rattle.terms.specs.declared.row.HoldState.TheVariants.{Waiting, Ready, Filled, Cancelled, Expired}
use Rattle.terms.specs.declared.command.Command.{Command}
use Rattle.terms.specs.declared.command.Command.TheVariants.{AmendCopy, Rehome}
use Rattle.terms.specs.declared.command.Command.TheVariants.{Acquire, CheckOut, CheckIn, CancelHold, Unshelve, UnshelveCancelled, Missing, Withdraw}
use Rattle.terms.specs.declared.refusal.Refusal.TheVariants as check
use Rattle.model.specs.History.{Event, History, copy_of, CopyFacts, copies, copies_after, copy_after, holds, holds_after, next_hold}
use Rattle.model.specs.History.{HoldFacts, hold_made, hold_of, hold_after, numbers_to, with_price, with_home}
use Rattle.model.specs.Places.{Place, Nowhere, Shelf, HoldShelf, Transit, Loan, MissingCopy, WithdrawnCopy, place, state, place_after}
use Rattle.model.specs.Places.{state_made, line, route, route_from, route_to, state_at, is_kept_for, is_bound_for, is_waiting, is_ready}
use Rattle.model.specs.Places.{is_begun, is_coming_by, title_of_hold, title_of_copy, goal_of, home_of, fills_from, fills_by, fills_first}
use Rattle.model.specs.Places.{kept_for_by, place_let_go, place_unshelved, state_unshelved}
use Rattle.model.specs.Refusals.{refusal, checks, is_on_hold_shelf}
use Rattle.model.proofs.Passing.{passed}
use Rattle.model.proofs.MadeHolds.{moves-nothing}
use Rattle.model.specs.Invariant.{Serves, Fits, Bound}
use Rattle.model.proofs.Moves.{moved, move-bound, ne-eqb, false-ne}
use Rattle.model.proofs.Amending.{amended-is_none}
use Rattle.model.proofs.Rehoming.{rehomed, rehomed-keeps}

or_none : (o : Option CopyFacts) → is_none (option_or o None) ≡ false → is_none o ≡ false
or_none None e = e
or_none (Some x) e = refl

listed_acquire : (H : History) (test : ℕ → Bool) (c n : ℕ) (r : CopyFacts) (b x : Bool) → is_none (copy_of H n) ≡ b → (n == c) ≡ x
    → (list_any test (copies H) ≡ false → is_none (copy_of H c) ≡ false → test c ≡ false)
    → list_any test (cond b (n ∷ copies H) (copies H)) ≡ false → is_none (option_or (copy_of H c) (cond x (Some r) None)) ≡ false → test c ≡ false
listed_acquire H test c n r true true p q rest shut here = rw (← eqb-true n c q) (or_parts _ _ shut).0
listed_acquire H test c n r true false p q rest shut here = rest (or_parts _ _ shut).1 (or_none _ here)
listed_acquire H test c n r false true p q rest shut here = rest shut (rw (← eqb-true n c q) p)
listed_acquire H test c n r false false p q rest shut here = rest shut (or_none _ here)

listed_step : (H : History) (test : ℕ → Bool) (c : ℕ) (k : Command) → (list_any test (copies H) ≡ false → is_none (copy_of H c) ≡ false → test c ≡ false)
    → list_any test (copies_after H k (copies H)) ≡ false → is_none (copy_after k c (copy_of H c)) ≡ false → test c ≡ false
listed_step H test c (Acquire n title kind home price text) rest shut here =
    listed_acquire H test c n _ (is_none (copy_of H n)) (n == c) refl refl rest shut here
listed_step H test c (AmendCopy n kind price) rest shut here = rest shut (sym (amended-is_none (n == c) (with_price kind price) (copy_of H c)) ∙ here)
listed_step H test c (Rehome n home) rest shut here = rest shut (sym (amended-is_none (n == c) (with_home home) (copy_of H c)) ∙ here)
listed_step H test c _ rest shut here = rest shut here

-- The copies that are there are listed.
pub listed : (H : History) (test : ℕ → Bool) (c : ℕ) → list_any test (copies H) ≡ false → is_none (copy_of H c) ≡ false → test c ≡ false
listed [] test c shut here = let never : ⊥ = cc in absurd never
listed (e ∷ H) test c shut here = listed_step H test c e.command (listed H test c) shut here

-- What a legal history keeps of places and states.
pub record IsBound (H : History) : Type 0 where
  pub bound : Bound (goal_of H) (place H) (state H)
  pub nowhere : (c : ℕ) → is_none (copy_of H c) ≡ true → place H c ≡ Nowhere
  pub unplaced : (h : ℕ) → hold_of H h ≡ None → state H h ≡ None

unheld_at : (H : History) (made : Option HoldFacts) (h : ℕ) → (holds H < h → hold_of H h ≡ None) → holds_after made (holds H) < h
    → hold_after H made h (hold_of H h) ≡ None
unheld_at H (Some made) h rest late = go (next_hold H == h) refl
  where
    go : (x : Bool) → (next_hold H == h) ≡ x → cond x (Some made) (hold_of H h) ≡ None
    go true e = let same : next_hold H ≡ h = eqb-true (next_hold H) h e in let never : ⊥ = omega (arith, same, late) in absurd never
    go false e = rest (omega (arith, late))
unheld_at H None h rest late = rest late

-- No hold beyond the last number was placed.
pub unheld : (H : History) (h : ℕ) → holds H < h → hold_of H h ≡ None
unheld [] h late = refl
unheld (e ∷ H) h late = unheld_at H (hold_made e.command) h (unheld H h) late

filter_head_at : (test : ℕ → Bool) (x : ℕ) (xs : List ℕ) (h : ℕ) (hs : List ℕ) (b : Bool) → test x ≡ b → (filter test xs ≡ h ∷ hs → test h ≡ true)
    → cond b (x ∷ filter test xs) (filter test xs) ≡ h ∷ hs → test h ≡ true
filter_head_at test x xs h hs true p rest q = let same : x ≡ h = cc in rw (← same) p
filter_head_at test x xs h hs false p rest q = rest q

pub filter-head : (test : ℕ → Bool) (xs : List ℕ) (h : ℕ) (hs : List ℕ) → filter test xs ≡ h ∷ hs → test h ≡ true
filter-head test [] h hs e = let never : ⊥ = cc in absurd never
filter-head test (x ∷ xs) h hs e = filter_head_at test x xs h hs (test x) refl (filter-head test xs h hs) e

pub waiting-is : (s : Option HoldState) → is_waiting s ≡ true → s ≡ Some Waiting
waiting-is (Some Waiting) e = refl
waiting-is (Some Ready) e = let never : ⊥ = cc in absurd never
waiting-is (Some Filled) e = let never : ⊥ = cc in absurd never
waiting-is (Some Cancelled) e = let never : ⊥ = cc in absurd never
waiting-is (Some Expired) e = let never : ⊥ = cc in absurd never
waiting-is None e = let never : ⊥ = cc in absurd never

pub both : (x y : Bool) → ◌≡◌ {A = Bool} (elim x [ true ↦ y | false ↦ false ]) true → (x ≡ true) × (y ≡ true)
both true y e = (refl, e)
both false y e = let never : ⊥ = cc in absurd never

pub not-true : (b : Bool) → not b ≡ true → b ≡ false
not-true true e = let never : ⊥ = cc in absurd never
not-true false e = refl

-- The first in line waits, and no copy is coming for it.
pub line-head : (H : History) (t h : ℕ) (hs : List ℕ) → line H t ≡ h ∷ hs → (state H h ≡ Some Waiting)
    × (is_coming_by H (place H) (state H) (is_begun H) h ≡ false)
line-head H t h hs e =
    let passes : (title_of_hold H h == t ≡ true)
    × ((is_waiting (state H h) && (not (is_coming_by H (place H) (state H) (is_begun H) h) && is_begun H h)) ≡ true) =
    both _ _ (filter-head _ (numbers_to (holds H)) h hs e) in
    let parts : (is_waiting (state H h) ≡ true) × ((not (is_coming_by H (place H) (state H) (is_begun H) h) && is_begun H h) ≡ true) = and_parts _ _ passes.1 in
    (waiting-is _ parts.0, not-true _ (and_parts (not (is_coming_by H (place H) (state H) (is_begun H) h)) (is_begun H h) parts.1).0)

-- A copy that is somewhere is there.
there : (H : History) (d : ℕ) (p : Place) → place H d ≡ p → (p ≡ Nowhere → ⊥) → IsBound H → is_none (copy_of H d) ≡ false
there H d p at somewhere inv = go (is_none (copy_of H d)) refl
  where
    go : (b : Bool) → is_none (copy_of H d) ≡ b → b ≡ false
    go true e = absurd (somewhere (sym at ∙ inv.nowhere d e))
    go false e = refl

-- No copy serves a hold that waits and isn't coming.
unserved_at : (H : History) (d h : ℕ) (p : Place) → place H d ≡ p → IsBound H → state H h ≡ Some Waiting
    → is_coming_by H (place H) (state H) (is_begun H) h ≡ false
    → Serves p h → Fits (goal_of H) p h (state H h) → ⊥
unserved_at H d h (HoldShelf g) at inv waits coming serves fits = let no_more : Some Ready ≡ Some Waiting = sym fits ∙ waits in cc
unserved_at H d h (Transit b (Some g)) at inv waits coming serves fits =
    let test : (is_bound_for (place H d) h) ≡ false = listed H (λ c. is_bound_for (place H c) h) d coming (there H d (Transit b (Some g)) at (λ e. cc) inv) in
    let other : (g == h) ≡ false = rw at at test in
    false-ne g h other serves
unserved_at H d h _ at inv waits coming serves fits = serves

pub unserved : (H : History) (h d : ℕ) → IsBound H → state H h ≡ Some Waiting → is_coming_by H (place H) (state H) (is_begun H) h ≡ false
    → Serves (place H d) h → ⊥
unserved H h d inv waits coming serves = unserved_at H d h (place H d) refl inv waits coming serves (inv.bound.fits d h serves)

-- ---- where routing sends a copy

abbrev pub ToGoal : History → Place → ℕ → Type 0
ToGoal H (Transit b (Some g)) h = goal_of H h ≡ b
ToGoal H _ h = Unit {0}

-- The hold that copy n is to serve in the place q waits, no other copy serves it, and the copy goes to its branch.
abbrev pub GoesTo : History → ℕ → Place → Type 0
GoesTo H n q = (h : ℕ) → Serves q h → ((d : ℕ) → n ≢ d → Serves (place H d) h → ⊥) × (state H h ≡ Some Waiting) × ToGoal H q h

home_goes : (H : History) (n b home : ℕ) (x : Bool) → GoesTo H n (elim x as (λ _. Place) [ true ↦ Shelf b | false ↦ Transit home None ])
home_goes H n b home true h serves = absurd serves
home_goes H n b home false h serves = absurd serves

first_goes : (H : History) (n g goal : ℕ) (x : Bool) → goal_of H g ≡ goal → state H g ≡ Some Waiting → ((d : ℕ) → Serves (place H d) g → ⊥)
    → GoesTo H n (elim x as (λ _. Place) [ true ↦ HoldShelf g | false ↦ Transit goal (Some g) ])
first_goes H n g goal true is_goal waits alone h same = ((λ d ne s. alone d (rw same s)), rw (← same) waits, tt)
first_goes H n g goal false is_goal waits alone h same = ((λ d ne s. alone d (rw same s)), rw (← same) waits, rw (← same) is_goal)

route_to_goes : (H : History) (n b t : ℕ) (hs : List ℕ) → line H t ≡ hs → IsBound H → GoesTo H n (route_to H (place H) (state H) (is_begun H) n b hs)
route_to_goes H n b t [] at inv = home_goes H n b (home_of H n) (home_of H n == b)
route_to_goes H n b t (g ∷ gs) at inv =
    let head : (state H g ≡ Some Waiting) × (is_coming_by H (place H) (state H) (is_begun H) g ≡ false) = line-head H t g gs at in
    first_goes H n g (goal_of H g) (goal_of H g == b) refl head.0 (λ d. unserved H g d inv head.0 head.1)

bound_goes : (H : History) (n g h b : ℕ) (x : Bool) → place H n ≡ Transit g (Some h) → IsBound H
    → GoesTo H n (elim x as (λ _. Place) [ true ↦ HoldShelf h | false ↦ Transit g (Some h) ])
bound_goes H n g h b x at inv = go x
  where
    serves : Serves (place H n) h
    serves = rw at refl

    fits : Fits (goal_of H) (Transit g (Some h)) h (state H h)
    fits = rw at at (inv.bound.fits n h serves)

    alone : (d : ℕ) → n ≢ d → Serves (place H d) h → ⊥
    alone d ne s = ne (inv.bound.once n d h serves s)

    go : (y : Bool) → GoesTo H n (elim y as (λ _. Place) [ true ↦ HoldShelf h | false ↦ Transit g (Some h) ])
    go true k same = ((λ d ne s. alone d ne (rw same s)), rw (← same) fits.0, tt)
    go false k same = ((λ d ne s. alone d ne (rw same s)), rw (← same) fits.0, rw (← same) fits.1)

route_from_goes : (H : History) (n b : ℕ) (p : Place) → place H n ≡ p → IsBound H → GoesTo H n (route_from H (place H) (state H) (is_begun H) n b p)
route_from_goes H n b (Transit g (Some h)) at inv = bound_goes H n g h b (g == b) at inv
route_from_goes H n b _ at inv = route_to_goes H n b (title_of_copy H n) (line H (title_of_copy H n)) refl inv

-- Routing sends a copy home, or to a waiting hold that no other copy serves.
pub route-goes : (H : History) (n b : ℕ) → IsBound H → GoesTo H n (route H n b)
route-goes H n b inv = route_from_goes H n b (place H n) refl inv

-- ---- a copy arrives

pub kept-is : (q : Place) (h : ℕ) → is_kept_for q h ≡ true → q ≡ HoldShelf h
kept-is (HoldShelf g) h e = ap HoldShelf (eqb-true g h e)
kept-is Nowhere h e = let never : ⊥ = cc in absurd never
kept-is (Shelf b) h e = let never : ⊥ = cc in absurd never
kept-is (Transit b g) h e = let never : ⊥ = cc in absurd never
kept-is (Loan l) h e = let never : ⊥ = cc in absurd never
kept-is MissingCopy h e = let never : ⊥ = cc in absurd never
kept-is WithdrawnCopy h e = let never : ⊥ = cc in absurd never

-- The state of a hold after a copy arrived, by whether it arrived on its shelf.
abbrev pub arrived : Option HoldState → Bool → Option HoldState
arrived s b = elim b [ true ↦ Some Ready | false ↦ s ]

module _ (H : History) (n : ℕ) (q : Place) (goes : GoesTo H n q) where
  arrive-others : (d h : ℕ) → n ≢ d → Serves (place H d) h → arrived (state H h) (is_kept_for q h) ≡ state H h
  arrive-others d h ne s = go (is_kept_for q h) refl
    where
      go : (b : Bool) → is_kept_for q h ≡ b → arrived (state H h) b ≡ state H h
      go true e = let on : Serves q h = rw (kept-is q h e) refl in absurd ((goes h on).0 d ne s)
      go false e = refl

  arrive-fits : (p : Place) (h : ℕ) → Serves p h → state H h ≡ Some Waiting → ToGoal H p h → Fits (goal_of H) p h (arrived (state H h) (is_kept_for p h))
  arrive-fits (HoldShelf g) h same waits goal = rw (eq-eqb g h same) refl
  arrive-fits (Transit b (Some g)) h same waits goal = (waits, goal)
  arrive-fits _ h serves waits goal = absurd serves

module _ (H : History) (n : ℕ) (q : Place) (inv : IsBound H) (goes : GoesTo H n q) (off : (h : ℕ) → place H n ≡ HoldShelf h → ⊥) where
  arrive-ready : (h : ℕ) → arrived (state H h) (is_kept_for q h) ≡ Some Ready → (q ≡ HoldShelf h) ⊎ ((d : ℕ) × (n ≢ d) × (place H d ≡ HoldShelf h))
  arrive-ready h = go (is_kept_for q h) refl
    where
      kept : state H h ≡ Some Ready → (d : ℕ) × (n ≢ d) × (place H d ≡ HoldShelf h)
      kept e = let on : (d : ℕ) × (place H d ≡ HoldShelf h) = inv.bound.kept h e in (on.0, (λ same. off h (rw same on.1)), on.1)

      go : (b : Bool) → is_kept_for q h ≡ b → arrived (state H h) b ≡ Some Ready → (q ≡ HoldShelf h) ⊎ ((d : ℕ) × (n ≢ d) × (place H d ≡ HoldShelf h))
      go true e r = inl (kept-is q h e)
      go false e r = inr (kept r)

  -- A copy that goes where routing sends it keeps the bindings.
  arrive-bound : Bound (goal_of H) (moved n q (place H)) (λ h. state_at H (place H) (state H) (is_begun H) q h)
  arrive-bound = move-bound (goal_of H) (place H) (state H) _ inv.bound n q (arrive-others H n q goes)
      (λ h serves. let g : ((d : ℕ) → n ≢ d → Serves (place H d) h → ⊥) × (state H h ≡ Some Waiting)
      × ToGoal H q h = goes h serves in (arrive-fits H n q goes q h serves g.1 g.2, g.0))
      arrive-ready

-- ---- commands

abbrev pub event : Owner → List ℕ → Command → Event
event o k c = record { owner = o; key = k; command = c }

off_shelf : (H : History) (n : ℕ) → is_on_hold_shelf (place H n) ≡ false → (h : ℕ) → place H n ≡ HoldShelf h → ⊥
off_shelf H n e h at = let other : is_on_hold_shelf (HoldShelf h) ≡ false = rw at at e in cc

-- The bindings after an event.
abbrev pub BoundAfter : History → Owner → List ℕ → Command → Type 0
BoundAfter H o k c = Bound (goal_of (event o k c ∷ H)) (place (event o k c ∷ H)) (state (event o k c ∷ H))

check_in-bound : (H : History) (o : Owner) (k : List ℕ) (n b : ℕ) → IsBound H → refusal H o (CheckIn n b) ≡ None → BoundAfter H o k (CheckIn n b)
check_in-bound H o k n b inv ok =
    arrive-bound H n (route H n b) inv (route-goes H n b inv) (off_shelf H n (passed (checks H o (CheckIn n b)) ok check.OnHoldShelf))

-- ---- a copy leaves to a place where it serves no hold

-- What leaves hold h as it is, unless the copy served it: then another state than ready.
abbrev pub left : Option HoldState → HoldState → Bool → Option HoldState
left s ends b = elim b [ true ↦ Some ends | false ↦ s ]

module _ (H : History) (n : ℕ) (q : Place) (ends : HoldState) (test : ℕ → Bool) (inv : IsBound H) (free : (h : ℕ) → Serves q h → ⊥)
    (unready : Some ends ≡ Some Ready → ⊥)
    (alone : (d h : ℕ) → test h ≡ true → n ≢ d → Serves (place H d) h → ⊥)
    (own : (h : ℕ) → place H n ≡ HoldShelf h → test h ≡ true) where
  leave-others : (d h : ℕ) → n ≢ d → Serves (place H d) h → left (state H h) ends (test h) ≡ state H h
  leave-others d h ne s = go (test h) refl
    where
      go : (b : Bool) → test h ≡ b → left (state H h) ends b ≡ state H h
      go true e = absurd (alone d h e ne s)
      go false e = refl

  leave-ready : (h : ℕ) → left (state H h) ends (test h) ≡ Some Ready → (q ≡ HoldShelf h) ⊎ ((d : ℕ) × (n ≢ d) × (place H d ≡ HoldShelf h))
  leave-ready h = go (test h) refl
    where
      kept : test h ≡ false → state H h ≡ Some Ready → (d : ℕ) × (n ≢ d) × (place H d ≡ HoldShelf h)
      kept other e =
          let on : (d : ℕ) × (place H d ≡ HoldShelf h) = inv.bound.kept h e in
          (on.0, (λ same. let t : test h ≡ true = own h (rw same on.1) in let never : ⊥ = cc in never), on.1)

      go : (b : Bool) → test h ≡ b → left (state H h) ends b ≡ Some Ready → (q ≡ HoldShelf h) ⊎ ((d : ℕ) × (n ≢ d) × (place H d ≡ HoldShelf h))
      go true e r = absurd (unready r)
      go false e r = inr (kept e r)

  leave-bound : Bound (goal_of H) (moved n q (place H)) (λ h. left (state H h) ends (test h))
  leave-bound = move-bound (goal_of H) (place H) (state H) _ inv.bound n q leave-others (λ h serves. absurd (free h serves)) leave-ready

-- A copy on the hold shelf for h is the only one that serves h.
kept_alone : (H : History) (n d h : ℕ) → IsBound H → is_kept_for (place H n) h ≡ true → n ≢ d → Serves (place H d) h → ⊥
kept_alone H n d h inv e ne s = ne (inv.bound.once n d h (rw (kept-is (place H n) h e) refl) s)

missing-bound : (H : History) (o : Owner) (k : List ℕ) (n : ℕ) → IsBound H → BoundAfter H o k (Missing n)
missing-bound H o k n inv = leave-bound H n MissingCopy Waiting (λ h. is_kept_for (place H n) h) inv (λ h s. s) (λ e. cc)
    (λ d h e ne s. kept_alone H n d h inv e ne s) (λ h at. rw at (eq-eqb h h refl))

-- ---- check-out

fills_first_alone : (H : History) (t p d h : ℕ) (hs : List ℕ) → line H t ≡ hs → IsBound H
    → fills_first H (place H) (state H) (is_begun H) p hs h ≡ true → Serves (place H d) h → ⊥
fills_first_alone H t p d h [] at inv e s = let never : ⊥ = cc in never
fills_first_alone H t p d h (g ∷ gs) at inv e s =
    let head : (state H g ≡ Some Waiting) × (is_coming_by H (place H) (state H) (is_begun H) g ≡ false) = line-head H t g gs at in
    let same : g ≡ h = eqb-true g h (and_parts _ _ e).0 in
    unserved H g d inv head.0 head.1 (rw same s)

fills_alone : (H : History) (n d p h : ℕ) (at : Place) → place H n ≡ at → IsBound H
    → fills_from H (place H) (state H) (is_begun H) p n at h ≡ true → n ≢ d → Serves (place H d) h → ⊥
fills_alone H n d p h (HoldShelf g) at inv e ne s = ne (inv.bound.once n d h (rw at (eqb-true g h e)) s)
fills_alone H n d p h (Shelf b) at inv e ne s = fills_first_alone H (title_of_copy H n) p d h (line H (title_of_copy H n)) refl inv e s
fills_alone H n d p h _ at inv e ne s = let never : ⊥ = cc in never

check_out-bound : (H : History) (o : Owner) (k : List ℕ) (p n b : ℕ) → IsBound H → BoundAfter H o k (CheckOut p n b)
check_out-bound H o k p n b inv = leave-bound H n _ Filled (λ h. fills_by H (place H) (state H) (is_begun H) p n h) inv (λ h s. s) (λ e. cc)
    (λ d h e ne s. fills_alone H n d p h (place H n) refl inv e ne s) (λ h at. rw at (eq-eqb h h refl))

-- ---- withdraw and acquire

withdraw-bound : (H : History) (o : Owner) (k : List ℕ) (n : ℕ) → IsBound H → refusal H o (Withdraw n) ≡ None → BoundAfter H o k (Withdraw n)
withdraw-bound H o k n inv ok = leave-bound H n WithdrawnCopy Waiting (λ h. false) inv (λ h s. s) (λ e. cc)
    (λ d h e ne s. let never : ⊥ = cc in never)
    (λ h at. absurd (off_shelf H n (passed (checks H o (Withdraw n)) ok check.OnHoldShelf) h at))

acquire-bound : (H : History) (o : Owner) (k : List ℕ) (n t kind home price : ℕ) (text : List ℕ) → IsBound H
    → BoundAfter H o k (Acquire n t kind home price text)
acquire-bound H o k n t kind home price text inv = go (is_none (copy_of H n)) refl
  where
    go : (b : Bool) → is_none (copy_of H n) ≡ b
        → Bound (goal_of H) (λ c. elim b as (λ _. Place) [ true ↦ moved n (Shelf home) (place H) c | false ↦ place H c ]) (state H)
    go true e = leave-bound H n (Shelf home) Waiting (λ h. false) inv (λ h s. s) (λ e. cc) (λ d h e ne s. let never : ⊥ = cc in never)
        (λ h at. let off : Nowhere ≡ HoldShelf h = sym (inv.nowhere n e) ∙ at in let never : ⊥ = cc in absurd never)
    go false e = inv.bound

-- ---- rehome

module _ (H : History) (n b : ℕ) (inv : IsBound H) where
  rehome-served : (h : ℕ) → Serves (rehomed H b (place H n)) h
      → Fits (goal_of H) (rehomed H b (place H n)) h (state H h) × ((d : ℕ) → n ≢ d → Serves (place H d) h → ⊥)
  rehome-served h = rehomed-keeps H (λ q. Serves q h → Fits (goal_of H) q h (state H h) × ((d : ℕ) → n ≢ d → Serves (place H d) h → ⊥)) b (place H n)
      (λ s. (inv.bound.fits n h s, λ d ne t. ne (inv.bound.once n d h s t))) (λ s. absurd s)

  rehome-ready : (h : ℕ) → state H h ≡ Some Ready → (rehomed H b (place H n) ≡ HoldShelf h) ⊎ ((d : ℕ) × (n ≢ d) × (place H d ≡ HoldShelf h))
  rehome-ready h ready = go (n == on.0) refl
    where
      on : (c : ℕ) × (place H c ≡ HoldShelf h)
      on = inv.bound.kept h ready

      go : (x : Bool) → (n == on.0) ≡ x → (rehomed H b (place H n) ≡ HoldShelf h) ⊎ ((d : ℕ) × (n ≢ d) × (place H d ≡ HoldShelf h))
      go true e = inl (ap (rehomed H b) (ap (place H) (eqb-true n on.0 e) ∙ on.1))
      go false e = inr (on.0, false-ne n on.0 e, on.1)

  rehome-bound : Bound (goal_of H) (moved n (rehomed H b (place H n)) (place H)) (state H)
  rehome-bound = move-bound (goal_of H) (place H) (state H) (state H) inv.bound n (rehomed H b (place H n)) (λ d h ne s. refl) rehome-served rehome-ready

-- ---- place-hold

-- A hold that a copy serves was placed.
served_old : (H : History) (c h : ℕ) → IsBound H → Serves (place H c) h → (next_hold H == h) ≡ false
served_old H c h inv serves = ne-eqb (next_hold H) h
    (λ same. go (place H c) serves (inv.bound.fits c h serves) (inv.unplaced h (unheld H h (omega (arith, same)))))
  where
    go : (p : Place) → Serves p h → Fits (goal_of H) p h (state H h) → state H h ≡ None → ⊥
    go (HoldShelf g) s f none = let never : ⊥ = cc in never
    go (Transit b (Some g)) s f none = let waits : state H h ≡ Some Waiting = f.0 in let never : ⊥ = cc in never
    go _ s f none = s

-- What is bound after a command and the hold that it makes.
abbrev BoundBy : History → Command → Option HoldFacts → Type 0
BoundBy H c made =
    Bound (λ h. unwrap_or (option_map (λ r. r.branch) (hold_after H made h (hold_of H h))) 0)
    (place_after H (place H) (state H) (is_begun H) c) (λ h. state_made H (place H) (state H) (is_begun H) made c h)

new_hold-bound : (H : History) (c : Command) (made : HoldFacts) → IsBound H
    → Bound (λ h. unwrap_or (option_map (λ r. r.branch) (hold_after H (Some made) h (hold_of H h))) 0) (place H)
    (λ h. state_made H (place H) (state H) (is_begun H) (Some made) c h)
new_hold-bound H c made inv = record {
  once = inv.bound.once;
  fits = λ c h serves. fits (place H c) h (served_old H c h inv serves) serves (inv.bound.fits c h serves);
  kept = λ h. kept h (next_hold H == h);
}
  where
    state_new : (h : ℕ) (x : Bool) → x ≡ false → elim x as (λ _. Option HoldState) [ true ↦ Some Waiting | false ↦ state H h ] ≡ state H h
    state_new h true e = let never : ⊥ = cc in absurd never
    state_new h false e = refl

    goal_new : (h : ℕ) (x : Bool) → x ≡ false
        → unwrap_or (option_map (λ r. r.branch) (cond x (Some made) (hold_of H h))) 0 ≡ goal_of H h
    goal_new h true e = let never : ⊥ = cc in absurd never
    goal_new h false e = refl

    fits : (at : Place) (h : ℕ) → (next_hold H == h) ≡ false → Serves at h → Fits (goal_of H) at h (state H h)
        → Fits (λ g. unwrap_or (option_map (λ r. r.branch) (hold_after H (Some made) g (hold_of H g))) 0) at h
        (state_made H (place H) (state H) (is_begun H) (Some made) c h)
    fits (HoldShelf g) h old serves f = state_new h (next_hold H == h) old ∙ f
    fits (Transit d (Some g)) h old serves f = (state_new h (next_hold H == h) old ∙ f.0, goal_new h (next_hold H == h) old ∙ f.1)
    fits _ h old serves f = absurd serves

    kept : (h : ℕ) (x : Bool) → ◌≡◌ {A = Option HoldState} (elim x [ true ↦ Some Waiting | false ↦ state H h ]) (Some Ready) → (c : ℕ)
        × (place H c ≡ HoldShelf h)
    kept h true e = let never : ⊥ = cc in absurd never
    kept h false e = inv.bound.kept h e

-- ---- cancel-hold

let_go : (H : History) (g h : ℕ) (at : Place) → (state H g ≡ Some Waiting) → Fits (goal_of H) at h (state H h)
    → Serves (place_let_go H (place H) (state H) (is_begun H) g at) h
    → Serves at h × ((g == h) ≡ false)
let_go H g h (HoldShelf j) waits f s = (s, ne-eqb g h (λ same. let ready : state H g ≡ Some Ready = rw same f in let never : ⊥ = cc in never))
let_go H g h (Transit b (Some j)) waits f s = go (g == j) refl s
  where
    go : (x : Bool) → (g == j) ≡ x → Serves (elim x as (λ _. Place) [ true ↦ Transit b None | false ↦ Transit b (Some j) ]) h → (j ≡ h) × ((g == h) ≡ false)
    go true e s = absurd s
    go false e s = (s, ne-eqb g h (λ same. false-ne g j e (same ∙ sym s)))
let_go H g h _ waits f s = absurd s

pub clash : (b : Bool) → b ≡ true → b ≡ false → ⊥
clash b e f = let never : true ≡ false = sym e ∙ f in cc

pub not-false : (b : Bool) → not b ≡ false → b ≡ true
not-false true e = refl
not-false false e = let never : ⊥ = cc in absurd never

pub ready-is : (s : Option HoldState) → is_ready s ≡ true → s ≡ Some Ready
ready-is (Some Ready) e = refl
ready-is (Some Waiting) e = let never : ⊥ = cc in absurd never
ready-is (Some Filled) e = let never : ⊥ = cc in absurd never
ready-is (Some Cancelled) e = let never : ⊥ = cc in absurd never
ready-is (Some Expired) e = let never : ⊥ = cc in absurd never
ready-is None e = let never : ⊥ = cc in absurd never

-- The state of h after g has ended, by whether h is g.
abbrev pub ended_as : HoldState → Option HoldState → Bool → Option HoldState
ended_as ends s x = elim x [ true ↦ Some ends | false ↦ s ]

ended_other : (ends : HoldState) (s : Option HoldState) (x : Bool) → x ≡ false → ended_as ends s x ≡ s
ended_other ends s true e = let never : ⊥ = cc in absurd never
ended_other ends s false e = refl

let_go_fits : (H : History) (g h : ℕ) (at : Place) → (g == h) ≡ false → Fits (goal_of H) at h (state H h)
    → Serves (place_let_go H (place H) (state H) (is_begun H) g at) h
    → Fits (goal_of H) (place_let_go H (place H) (state H) (is_begun H) g at) h (ended_as Cancelled (state H h) (g == h))
let_go_fits H g h (HoldShelf j) other f s = ended_other Cancelled _ (g == h) other ∙ f
let_go_fits H g h (Transit b (Some j)) other f s = go (g == j) s
  where
    go : (x : Bool) → Serves (elim x as (λ _. Place) [ true ↦ Transit b None | false ↦ Transit b (Some j) ]) h
        → Fits (goal_of H) (elim x as (λ _. Place) [ true ↦ Transit b None | false ↦ Transit b (Some j) ]) h (ended_as Cancelled (state H h) (g == h))
    go true s = absurd s
    go false s = (ended_other Cancelled _ (g == h) other ∙ f.0, f.1)
let_go_fits H g h _ other f s = absurd s

cancel-bound : (H : History) (o : Owner) (k : List ℕ) (g : ℕ) → IsBound H → refusal H o (CancelHold g) ≡ None → BoundAfter H o k (CancelHold g)
cancel-bound H o k g inv ok = record {
  once = λ c d h s t. inv.bound.once c d h (was c h s).0 (was d h t).0;
  fits = λ c h s. let_go_fits H g h (place H c) (was c h s).1 (old c h s) s;
  kept = λ h. kept h (g == h);
}
  where
    waits : state H g ≡ Some Waiting
    waits = waiting-is _ (not-false _ (passed (checks H o (CancelHold g)) ok check.WrongHoldState))

    old : (c h : ℕ) → Serves (place_let_go H (place H) (state H) (is_begun H) g (place H c)) h → Fits (goal_of H) (place H c) h (state H h)
    old c h s = go (place H c) (inv.bound.fits c h) s
      where
        go : (at : Place) → (Serves at h → Fits (goal_of H) at h (state H h))
            → Serves (place_let_go H (place H) (state H) (is_begun H) g at) h → Fits (goal_of H) at h (state H h)
        go (HoldShelf j) f s = f s
        go (Transit b (Some j)) f s = two (g == j) s
          where
            two : (x : Bool) → Serves (elim x as (λ _. Place) [ true ↦ Transit b None | false ↦ Transit b (Some j) ]) h
                → (state H h ≡ Some Waiting) × (goal_of H h ≡ b)
            two true s = absurd s
            two false s = f s
        go _ f s = absurd s

    was : (c h : ℕ) → Serves (place_let_go H (place H) (state H) (is_begun H) g (place H c)) h → Serves (place H c) h × ((g == h) ≡ false)
    was c h s = let_go H g h (place H c) waits (old c h s) s

    kept : (h : ℕ) (x : Bool) → ended_as Cancelled (state H h) x ≡ Some Ready → (c : ℕ)
        × (place_let_go H (place H) (state H) (is_begun H) g (place H c) ≡ HoldShelf h)
    kept h true e = let never : ⊥ = cc in absurd never
    kept h false e = let on : (c : ℕ) × (place H c ≡ HoldShelf h) = inv.bound.kept h e in (on.0, rw on.1 refl)

-- ---- unshelve

pub find-some : (test : ℕ → Bool) (xs : List ℕ) (m : ℕ) → find test xs ≡ Some m → test m ≡ true
find-some test [] m e = let never : ⊥ = cc in absurd never
find-some test (x ∷ xs) m e = find_some_at test x xs m (test x) refl (find-some test xs m) e
  where
    find_some_at : (test : ℕ → Bool) (x : ℕ) (xs : List ℕ) (m : ℕ) (b : Bool) → test x ≡ b → (find test xs ≡ Some m → test m ≡ true)
        → cond b (Some x) (find test xs) ≡ Some m → test m ≡ true
    find_some_at test x xs m true p rest q = let same : x ≡ m = cc in rw (← same) p
    find_some_at test x xs m false p rest q = rest q

find-none : (test : ℕ → Bool) (xs : List ℕ) → find test xs ≡ None → list_any test xs ≡ false
find-none test [] e = refl
find-none test (x ∷ xs) e = find_none_at test x xs (test x) refl (find-none test xs) e
  where
    find_none_at : (test : ℕ → Bool) (x : ℕ) (xs : List ℕ) (b : Bool) → test x ≡ b → (find test xs ≡ None → list_any test xs ≡ false)
        → cond b (Some x) (find test xs) ≡ None → (b || list_any test xs) ≡ false
    find_none_at test x xs true p rest q = let never : ⊥ = cc in absurd never
    find_none_at test x xs false p rest q = rest q

-- The copy on the hold shelf for g is the one that is found.
pub kept-found : (H : History) (n g : ℕ) → IsBound H → place H n ≡ HoldShelf g → kept_for_by H (place H) (state H) (is_begun H) g ≡ Some n
kept-found H n g inv at = go (kept_for_by H (place H) (state H) (is_begun H) g) refl
  where
    here : is_kept_for (place H n) g ≡ true
    here = rw at (eq-eqb g g refl)

    go : (found : Option ℕ) → kept_for_by H (place H) (state H) (is_begun H) g ≡ found → found ≡ Some n
    go None e =
        let off : is_kept_for (place H n) g ≡ false =
        listed H (λ c. is_kept_for (place H c) g) n (find-none _ (copies H) e) (there H n (HoldShelf g) at (λ q. cc) inv) in
        absurd (clash _ here off)
    go (Some m) e =
        let on : place H m ≡ HoldShelf g = kept-is (place H m) g (find-some (λ c. is_kept_for (place H c) g) (copies H) m e) in
        ap Some (inv.bound.once m n g (rw on refl) (rw at refl))

along : (goal : ℕ → ℕ) (pl pl' : ℕ → Place) (st st' : ℕ → Option HoldState) → ((c : ℕ) → pl c ≡ pl' c) → ((h : ℕ) → st h ≡ st' h)
    → Bound goal pl st → Bound goal pl' st'
along goal pl pl' st st' p q b =
    let ps : pl ≡ pl' = λ i. λ c. p c i in
    let qs : st ≡ st' = λ i. λ h. q h i in
    subst (λ x. Bound goal x st') ps (subst (λ y. Bound goal pl y) qs b)

module _ (H : History) (g n : ℕ) (ends : HoldState) (inv : IsBound H) (at : place H n ≡ HoldShelf g) (unready : Some ends ≡ Some Ready → ⊥) where
  -- Where the copy goes that stood on the hold shelf for g.
  abbrev back : Place
  back = route H n (goal_of H g)

  abbrev states_then : ℕ → Option HoldState
  states_then h = ended_as ends (arrived (state H h) (is_kept_for back h)) (g == h)

  g_ready : state H g ≡ Some Ready
  g_ready = let f : Fits (goal_of H) (HoldShelf g) g (state H g) = rw at at (inv.bound.fits n g (rw at refl)) in f

  goes : GoesTo H n back
  goes = route-goes H n (goal_of H g) inv

  unshelve-others : (d h : ℕ) → n ≢ d → Serves (place H d) h → states_then h ≡ state H h
  unshelve-others d h ne s =
      ended_other ends _ (g == h) (ne-eqb g h (λ same. ne (inv.bound.once n d h (rw at same) s))) ∙ arrive-others H n back goes d h ne s

  unshelve-served : (h : ℕ) → Serves back h → Fits (goal_of H) back h (states_then h) × ((d : ℕ) → n ≢ d → Serves (place H d) h → ⊥)
  unshelve-served h s =
      let w : ((d : ℕ) → n ≢ d → Serves (place H d) h → ⊥) × (state H h ≡ Some Waiting) × ToGoal H back h = goes h s in
      let other : (g == h) ≡ false = ne-eqb g h (λ same. let r : Some Waiting ≡ Some Ready = sym w.1 ∙ (rw (← same) g_ready) in let never : ⊥ = cc in never) in
      (subst (Fits (goal_of H) back h) (sym (ended_other ends _ (g == h) other)) (arrive-fits H n back goes back h s w.1 w.2), w.0)

  unshelve-ready : (h : ℕ) → states_then h ≡ Some Ready → (back ≡ HoldShelf h) ⊎ ((d : ℕ) × (n ≢ d) × (place H d ≡ HoldShelf h))
  unshelve-ready h = go (g == h) refl (is_kept_for back h) refl
    where
      go : (x : Bool) → (g == h) ≡ x → (y : Bool) → is_kept_for back h ≡ y → ended_as ends (arrived (state H h) y) x ≡ Some Ready
          → (back ≡ HoldShelf h) ⊎ ((d : ℕ) × (n ≢ d) × (place H d ≡ HoldShelf h))
      go true e y f r = absurd (unready r)
      go false e true f r = inl (kept-is back h f)
      go false e false f r =
          let on : (d : ℕ) × (place H d ≡ HoldShelf h) = inv.bound.kept h r in
          inr (on.0, (λ same. let two : HoldShelf g ≡ HoldShelf h = sym at ∙ (rw same on.1) in let one : g ≡ h = cc in false-ne g h e one), on.1)

  unshelve-moved : Bound (goal_of H) (moved n back (place H)) states_then
  unshelve-moved = move-bound (goal_of H) (place H) (state H) states_then inv.bound n back unshelve-others unshelve-served unshelve-ready

  place-unshelved : (c : ℕ) → moved n back (place H) c ≡ place_unshelved H (place H) (state H) (is_begun H) g c
  place-unshelved c = go (n == c) refl (is_kept_for (place H c) g) refl
    where
      go : (x : Bool) → (n == c) ≡ x → (y : Bool) → is_kept_for (place H c) g ≡ y
          → elim x as (λ _. Place) [ true ↦ back | false ↦ place H c ] ≡ elim y as (λ _. Place) [ true ↦ route H c (goal_of H g) | false ↦ place H c ]
      go true e true f = ap (λ m. route H m (goal_of H g)) (eqb-true n c e)
      go true e false f = absurd (clash _ (rw (← eqb-true n c e, at) (eq-eqb g g refl)) f)
      go false e true f = absurd (false-ne n c e (inv.bound.once n c g (rw at refl) (rw (kept-is (place H c) g f) refl)))
      go false e false f = refl

  state-unshelved : (h : ℕ) → states_then h ≡ state_unshelved H (place H) (state H) (is_begun H) g ends (kept_for_by H (place H) (state H) (is_begun H) g) h
  state-unshelved h = rw (kept-found H n g inv at) refl

  -- A ready hold ends, and its copy goes where routing sends it.
  unshelved-bound : Bound (goal_of H) (place_unshelved H (place H) (state H) (is_begun H) g)
      (state_unshelved H (place H) (state H) (is_begun H) g ends (kept_for_by H (place H) (state H) (is_begun H) g))
  unshelved-bound = along (goal_of H) _ _ _ _ place-unshelved state-unshelved unshelve-moved

unshelve-bound : (H : History) (o : Owner) (k : List ℕ) (g : ℕ) → IsBound H → refusal H o (Unshelve g) ≡ None → BoundAfter H o k (Unshelve g)
unshelve-bound H o k g inv ok =
    let on : (c : ℕ) × (place H c ≡ HoldShelf g) = inv.bound.kept g (ready-is _ (not-false _ (passed (checks H o (Unshelve g)) ok check.WrongHoldState))) in
    unshelved-bound H g on.0 Expired inv on.1 (λ e. cc)

unshelve_cancelled-bound : (H : History) (o : Owner) (k : List ℕ) (g : ℕ) → IsBound H → refusal H o (UnshelveCancelled g) ≡ None
    → BoundAfter H o k (UnshelveCancelled g)
unshelve_cancelled-bound H o k g inv ok =
    let on : (c : ℕ) × (place H c ≡ HoldShelf g) = inv.bound.kept g (ready-is _ (not-false _ (passed (checks H o (UnshelveCancelled g)) ok check.WrongHoldState))) in
    unshelved-bound H g on.0 Cancelled inv on.1 (λ e. cc)

moved-bound : (H : History) (o : Owner) (k : List ℕ) (c : Command) → IsBound H → refusal H o c ≡ None → BoundBy H c None
moved-bound H o k (Acquire n t kind home price text) inv ok = acquire-bound H o k n t kind home price text inv
moved-bound H o k (Rehome n b) inv ok = rehome-bound H n b inv
moved-bound H o k (CheckOut p n b) inv ok = check_out-bound H o k p n b inv
moved-bound H o k (CheckIn n b) inv ok = check_in-bound H o k n b inv ok
moved-bound H o k (CancelHold g) inv ok = cancel-bound H o k g inv ok
moved-bound H o k (Unshelve g) inv ok = unshelve-bound H o k g inv ok
moved-bound H o k (UnshelveCancelled g) inv ok = unshelve_cancelled-bound H o k g inv ok
moved-bound H o k (Missing n) inv ok = missing-bound H o k n inv
moved-bound H o k (Withdraw n) inv ok = withdraw-bound H o k n inv ok
moved-bound H o k _ inv ok = inv.bound

made-bound : (H : History) (o : Owner) (k : List ℕ) (c : Command) (made : Option HoldFacts) → hold_made c ≡ made → IsBound H
    → refusal H o c ≡ None → BoundBy H c made
made-bound H o k c (Some made) e inv ok = along _ _ _ _ _ (λ x. sym ((moves-nothing H c made e).places x)) (λ h. refl) (new_hold-bound H c made inv)
made-bound H o k c None e inv ok = moved-bound H o k c inv ok

-- Each accepted event keeps the bindings.
pub event-bound : (H : History) (o : Owner) (k : List ℕ) (c : Command) → IsBound H → refusal H o c ≡ None → BoundAfter H o k c
event-bound H o k c inv ok = made-bound H o k c (hold_made c) refl inv ok
