-- A hold that leaves its title's line by an accepted command, other than its cancellation, was the first of
-- that line.
use Rattle.std.proofs.Common.{◌≡◌, ℕ, ◌==◌, Bool, true, false, ◌||◌, ◌⊎◌, ◌≢◌, inl, inr, List, [], ◌∷◌, refl, sym, ◌∙◌, ap, subst, cond}
use Rattle.std.proofs.Common.{not, ◌&&◌, ◌≤◌, ◌<◌, nat_lt, nat_le, le-leb, arith}
use Rattle.std.specs.Prelude.{Option, Some, None, is_none, unwrap_or, option_map, option_and_then}
use Rattle.std.specs.List.{list_any}
use Rattle.std.proofs.lemmas.Bool.{eqb-true, eq-eqb, leb-true, ltb-true, and_parts}
use Rattle.terms.specs.declared.limits.TheConstants.{LAST_TODAY}
use Rattle.terms.specs.declared.command.Owner.{Owner}
use Rattle.terms.specs.declared.row.HoldState.{HoldState}
use Rattle.terms.specs.declared.row.HoldState.TheVariants.{Waiting, Ready, Filled, Cancelled, Expired}
use Rattle.terms.specs.declared.command.Command.{Command}
use Rattle.terms.specs.declared.command.Command.TheVariants.{Rehome}
use Rattle.terms.specs.declared.command.Command.TheVariants.{Acquire, CheckOut, CheckIn, BeginDay, CancelHold, Unshelve, UnshelveCancelled, Missing, Withdraw}
use Rattle.terms.specs.declared.refusal.Refusal.TheVariants as check
use Rattle.model.specs.History.{Event, History, today, today_after, has_begun, copies, copies_after, copy_of, next_hold, HoldFacts}
use Rattle.model.specs.History.{hold_made, hold_of, hold_after, holds, holds_after, numbers_to}
use Rattle.model.specs.Places.{Place, Nowhere, Shelf, HoldShelf, Transit, Loan, MissingCopy, WithdrawnCopy, place, state, line, route}
use Rattle.model.specs.Places.{route_to, route_from, is_kept_for, is_bound_for, is_coming, is_waiting, is_begun, first_day_of}
use Rattle.model.specs.Places.{title_of_hold, title_of_copy, goal_of, home_of, fills_from, fills_by, fills_first, kept_for_by, place_let_go}
use Rattle.model.specs.Places.{place_unshelved, place_after, state_unshelved, state_made}
use Rattle.model.specs.Refusals.{refusal, checks}
use Rattle.model.proofs.Passing.{passed}
use Rattle.model.proofs.MadeHolds.{moves-nothing}
use Rattle.model.specs.Invariant.{Serves}
use Rattle.model.proofs.Moves.{moved, ne-eqb}
use Rattle.model.specs.Laws.{stands_in_line}
use Rattle.model.specs.Requests.{IsLegal}
use Rattle.model.proofs.Bindings.{IsBound, event, kept-is, kept-found, arrived, left, unserved, clash, ready-is, waiting-is, not-false}
use Rattle.model.proofs.Bindings.{not-true, both, filter-head}
use Rattle.model.proofs.Legal.{legal-bound, some-none}
use Rattle.model.proofs.LoanLaws.{legal-LoanLaws}
use Rattle.model.proofs.Members.{filter-passes, filter-has, numbers-has}
use Rattle.model.proofs.Rehoming.{rehomed, rehomed-keeps}

-- The hold waits, and isn't coming.
pub record WaitsForCopy (H : History) (h : ℕ) : Type 0 where
  pub waits : state H h ≡ Some Waiting
  pub uncoming : is_coming H h ≡ false

-- The hold stands in line: it waits, isn't coming, and has begun.
pub record StandsInLine (H : History) (h : ℕ) : Type 0 where
  pub waits : WaitsForCopy H h
  pub begun : is_begun H h ≡ true

-- The hold is the first of some line.
abbrev pub IsFirstInLine : History → ℕ → Type 0
IsFirstInLine H h = (t : ℕ) × (hs : List ℕ) × (line H t ≡ h ∷ hs)

-- Where routing has a copy serve h, the copy served it before or h was the first of its line.
route_to-serves : (H : History) (n b h : ℕ) (hs : List ℕ) → line H (title_of_copy H n) ≡ hs
    → Serves (route_to H (place H) (state H) (is_begun H) n b hs) h → IsFirstInLine H h
route_to-serves H n b h [] at s = absurd (go (home_of H n == b) s)
  where
    go : (x : Bool) → Serves (elim x as (λ _. Place) [ true ↦ Shelf b | false ↦ Transit (home_of H n) None ]) h → ⊥
    go true s = s
    go false s = s
route_to-serves H n b h (g ∷ gs) at s = (title_of_copy H n, gs, at ∙ ap (λ j. j ∷ gs) (go (goal_of H g == b) s))
  where
    go : (x : Bool) → Serves (elim x as (λ _. Place) [ true ↦ HoldShelf g | false ↦ Transit (goal_of H g) (Some g) ]) h → g ≡ h
    go true s = s
    go false s = s

route_from-serves : (H : History) (n b h : ℕ) (p : Place) → place H n ≡ p → Serves (route_from H (place H) (state H) (is_begun H) n b p) h
    → Serves (place H n) h ⊎ IsFirstInLine H h
route_from-serves H n b h (Transit g (Some j)) at s = inl (rw at (go (g == b) s))
  where
    go : (x : Bool) → Serves (elim x as (λ _. Place) [ true ↦ HoldShelf j | false ↦ Transit g (Some j) ]) h → j ≡ h
    go true s = s
    go false s = s
route_from-serves H n b h _ at s = inr (route_to-serves H n b h (line H (title_of_copy H n)) refl s)

module _ (H : History) (h : ℕ) (inv : IsBound H) (stands : WaitsForCopy H h) where
  nobody : (d : ℕ) → Serves (place H d) h → ⊥
  nobody d s = unserved H h d inv stands.waits stands.uncoming s

  route-first : (n b : ℕ) → Serves (route H n b) h → IsFirstInLine H h
  route-first n b s = go (route_from-serves H n b h (place H n) refl s)
    where
      go : Serves (place H n) h ⊎ IsFirstInLine H h → IsFirstInLine H h
      go (inl t) = absurd (nobody n t)
      go (inr f) = f

  bound-serves : (p : Place) → is_bound_for p h ≡ true → Serves p h
  bound-serves (Transit b (Some g)) e = eqb-true g h e
  bound-serves (Transit b None) e = let never : ⊥ = cc in absurd never
  bound-serves Nowhere e = let never : ⊥ = cc in absurd never
  bound-serves (Shelf b) e = let never : ⊥ = cc in absurd never
  bound-serves (HoldShelf g) e = let never : ⊥ = cc in absurd never
  bound-serves (Loan l) e = let never : ⊥ = cc in absurd never
  bound-serves MissingCopy e = let never : ⊥ = cc in absurd never
  bound-serves WithdrawnCopy e = let never : ⊥ = cc in absurd never

  -- If no copy serves h in new places, h isn't coming.
  quiet : (xs : List ℕ) (places : ℕ → Place) → ((c : ℕ) → Serves (places c) h → ⊥) → list_any (λ c. is_bound_for (places c) h) xs ≡ false
  quiet [] places none = refl
  quiet (x ∷ xs) places none = go (is_bound_for (places x) h) refl (quiet xs places none)
    where
      go : (b : Bool) → is_bound_for (places x) h ≡ b → list_any (λ c. is_bound_for (places c) h) xs ≡ false
          → (b || list_any (λ c. is_bound_for (places c) h) xs) ≡ false
      go true e rest = absurd (none x (bound-serves (places x) e))
      go false e rest = rest

  move-quiet : (n : ℕ) (q : Place) → (Serves q h → ⊥) → (c : ℕ) → Serves (moved n q (place H) c) h → ⊥
  move-quiet n q off c = go (n == c)
    where
      go : (x : Bool) → Serves (elim x as (λ _. Place) [ true ↦ q | false ↦ place H c ]) h → ⊥
      go true s = off s
      go false s = nobody c s

  fills_first-is : (t p : ℕ) (hs : List ℕ) → line H t ≡ hs → fills_first H (place H) (state H) (is_begun H) p hs h ≡ true → IsFirstInLine H h
  fills_first-is t p [] at e = let never : ⊥ = cc in absurd never
  fills_first-is t p (g ∷ gs) at e = (t, gs, at ∙ ap (λ j. j ∷ gs) (eqb-true g h (and_parts _ _ e).0))

  fills-first : (n p : ℕ) (at : Place) → place H n ≡ at → fills_from H (place H) (state H) (is_begun H) p n at h ≡ true → IsFirstInLine H h
  fills-first n p (HoldShelf g) at e = absurd (nobody n (rw at (eqb-true g h e)))
  fills-first n p (Shelf b) at e = fills_first-is (title_of_copy H n) p (line H (title_of_copy H n)) refl e
  fills-first n p _ at e = let never : ⊥ = cc in absurd never

  abbrev Next : Owner → List ℕ → Command → Type 0
  Next o k c = WaitsForCopy (event o k c ∷ H) h ⊎ IsFirstInLine H h

  -- h stands in line after a command and the hold that it makes.
  abbrev StandsAfter : Command → Option HoldFacts → Type 0
  StandsAfter c made =
      (state_made H (place H) (state H) (is_begun H) made c h ≡ Some Waiting)
      × (list_any (λ x. is_bound_for (place_after H (place H) (state H) (is_begun H) c x) h) (copies_after H c (copies H)) ≡ false)

  next-after : (o : Owner) (k : List ℕ) (c : Command) → Next o k c → StandsAfter c (hold_made c) ⊎ IsFirstInLine H h
  next-after o k c (inl still) = inl (still.waits, still.uncoming)
  next-after o k c (inr first) = inr first

  check_out-line : (o : Owner) (k : List ℕ) (p n b : ℕ) → Next o k (CheckOut p n b)
  check_out-line o k p n b = go (fills_by H (place H) (state H) (is_begun H) p n h) refl
    where
      go : (x : Bool) → fills_by H (place H) (state H) (is_begun H) p n h ≡ x → Next o k (CheckOut p n b)
      go true e = inr (fills-first n p (place H n) refl e)
      go false e = inl (record { waits = stays (fills_by H (place H) (state H) (is_begun H) p n h) e; uncoming = quiet (copies H) _ (move-quiet n _ (λ s. s)) })
        where
          stays : (x : Bool) → x ≡ false → left (state H h) Filled x ≡ Some Waiting
          stays true e = let never : ⊥ = cc in absurd never
          stays false e = stands.waits

  -- After routing h still stands in line, or it was the first.
  routed-line : (n b : ℕ) → ((Serves (route H n b) h → ⊥) ⊎ IsFirstInLine H h)
  routed-line n b = go (is_bound_for (route H n b) h) refl (is_kept_for (route H n b) h) refl
    where
      kept-serves : (p : Place) → is_kept_for p h ≡ true → Serves p h
      kept-serves p e = rw (kept-is p h e) refl

      serves-test : (p : Place) → is_bound_for p h ≡ false → is_kept_for p h ≡ false → Serves p h → ⊥
      serves-test (HoldShelf g) e f s = clash _ (eq-eqb g h s) f
      serves-test (Transit b (Some g)) e f s = clash _ (eq-eqb g h s) e
      serves-test _ e f s = s

      go : (x : Bool) → is_bound_for (route H n b) h ≡ x → (y : Bool) → is_kept_for (route H n b) h ≡ y → (Serves (route H n b) h → ⊥) ⊎ IsFirstInLine H h
      go true e y f = inr (route-first n b (bound-serves _ e))
      go false e true f = inr (route-first n b (kept-serves _ f))
      go false e false f = inl (serves-test (route H n b) e f)

  arrived-waits : (q : Place) → (Serves q h → ⊥) → arrived (state H h) (is_kept_for q h) ≡ Some Waiting
  arrived-waits q off = go (is_kept_for q h) refl
    where
      go : (x : Bool) → is_kept_for q h ≡ x → arrived (state H h) x ≡ Some Waiting
      go true e = absurd (off (rw (kept-is q h e) refl))
      go false e = stands.waits

  check_in-line : (o : Owner) (k : List ℕ) (n b : ℕ) → Next o k (CheckIn n b)
  check_in-line o k n b = go (routed-line n b)
    where
      go : ((Serves (route H n b) h → ⊥) ⊎ IsFirstInLine H h) → Next o k (CheckIn n b)
      go (inl off) = inl (record { waits = arrived-waits (route H n b) off; uncoming = quiet (copies H) _ (move-quiet n (route H n b) off) })
      go (inr first) = inr first

  missing-line : (o : Owner) (k : List ℕ) (n : ℕ) → WaitsForCopy (event o k (Missing n) ∷ H) h
  missing-line o k n = record { waits = stays (is_kept_for (place H n) h); uncoming = quiet (copies H) _ (move-quiet n MissingCopy (λ s. s)) }
    where
      stays : (x : Bool) → left (state H h) Waiting x ≡ Some Waiting
      stays true = refl
      stays false = stands.waits

  acquire-line : (o : Owner) (k : List ℕ) (n t kind home price : ℕ) (text : List ℕ) → WaitsForCopy (event o k (Acquire n t kind home price text) ∷ H) h
  acquire-line o k n t kind home price text =
      record {
        waits = stands.waits;
        uncoming = quiet (copies (event o k (Acquire n t kind home price text) ∷ H)) _
            (λ c s. none c (is_none (copy_of H n)) s);
      }
    where
      none : (c : ℕ) (x : Bool) → Serves (elim x as (λ _. Place) [ true ↦ moved n (Shelf home) (place H) c | false ↦ place H c ]) h → ⊥
      none c true s = move-quiet n (Shelf home) (λ r. r) c s
      none c false s = nobody c s

  -- A new hold goes behind h.
  new_hold-line : (c : Command) (made : HoldFacts) → hold_made c ≡ Some made → StandsAfter c (Some made)
  new_hold-line c made e =
      let still = moves-nothing H c made e in (
        stays (next_hold H == h),
        ap (list_any (λ x. is_bound_for (place_after H (place H) (state H) (is_begun H) c x) h)) still.copies
            ∙ quiet (copies H) _ (λ x s. nobody x (subst (λ p. Serves p h) (still.places x) s)),
      )
    where
      stays : (x : Bool) → left (state H h) Waiting x ≡ Some Waiting
      stays true = refl
      stays false = stands.waits

  cancel-line : (o : Owner) (k : List ℕ) (g : ℕ) → (g == h) ≡ false → WaitsForCopy (event o k (CancelHold g) ∷ H) h
  cancel-line o k g other = record { waits = stays (g == h) other; uncoming = quiet (copies H) _ (λ c s. nobody c (before (place H c) s)) }
    where
      stays : (x : Bool) → x ≡ false → left (state H h) Cancelled x ≡ Some Waiting
      stays true e = let never : ⊥ = cc in absurd never
      stays false e = stands.waits

      before : (p : Place) → Serves (place_let_go H (place H) (state H) (is_begun H) g p) h → Serves p h
      before (Transit b (Some j)) s = two (g == j) s
        where
          two : (x : Bool) → Serves (elim x as (λ _. Place) [ true ↦ Transit b None | false ↦ Transit b (Some j) ]) h → j ≡ h
          two true s = absurd s
          two false s = s
      before (Transit b None) s = s
      before (HoldShelf j) s = s
      before Nowhere s = s
      before (Shelf b) s = s
      before (Loan l) s = s
      before MissingCopy s = s
      before WithdrawnCopy s = s

  module _ (g n : ℕ) (ends : HoldState) (at : place H n ≡ HoldShelf g) (ready : state H g ≡ Some Ready) where
    other_hold : (g == h) ≡ false
    other_hold = go (g == h) refl
      where
        go : (x : Bool) → (g == h) ≡ x → x ≡ false
        go true e = let two : Some Waiting ≡ Some Ready = sym stands.waits ∙ (rw (← eqb-true g h e) ready) in let never : ⊥ = cc in absurd never
        go false e = refl

    unshelved-waits : (Serves (route H n (goal_of H g)) h → ⊥)
        → state_unshelved H (place H) (state H) (is_begun H) g ends (kept_for_by H (place H) (state H) (is_begun H) g) h ≡ Some Waiting
    unshelved-waits off = rw (kept-found H n g inv at, state_unshelved, other_hold) (arrived-waits (route H n (goal_of H g)) off)

    unshelved-quiet : (Serves (route H n (goal_of H g)) h → ⊥) → (c : ℕ) → Serves (place_unshelved H (place H) (state H) (is_begun H) g c) h → ⊥
    unshelved-quiet off c = go (is_kept_for (place H c) g) refl
      where
        go : (x : Bool) → is_kept_for (place H c) g ≡ x → Serves (elim x as (λ _. Place) [ true ↦ route H c (goal_of H g) | false ↦ place H c ]) h → ⊥
        go true e s =
            let same : n ≡ c = inv.bound.once n c g (rw at refl) (rw (kept-is (place H c) g e) refl) in
            off (rw same s)
        go false e s = nobody c s

  unshelve-line : (o : Owner) (k : List ℕ) (g : ℕ) → refusal H o (Unshelve g) ≡ None → Next o k (Unshelve g)
  unshelve-line o k g ok = go (routed-line on.0 (goal_of H g))
    where
      ready : state H g ≡ Some Ready
      ready = ready-is _ (not-false _ (passed (checks H o (Unshelve g)) ok check.WrongHoldState))

      on : (n : ℕ) × (place H n ≡ HoldShelf g)
      on = inv.bound.kept g ready

      go : ((Serves (route H on.0 (goal_of H g)) h → ⊥) ⊎ IsFirstInLine H h) → Next o k (Unshelve g)
      go (inl off) = inl (record {
        waits = unshelved-waits g on.0 Expired on.1 ready off;
        uncoming = quiet (copies H) _ (unshelved-quiet g on.0 Expired on.1 ready off);
      })
      go (inr first) = inr first

  unshelve_cancelled-line : (o : Owner) (k : List ℕ) (g : ℕ) → refusal H o (UnshelveCancelled g) ≡ None → Next o k (UnshelveCancelled g)
  unshelve_cancelled-line o k g ok = go (routed-line on.0 (goal_of H g))
    where
      ready : state H g ≡ Some Ready
      ready = ready-is _ (not-false _ (passed (checks H o (UnshelveCancelled g)) ok check.WrongHoldState))

      on : (n : ℕ) × (place H n ≡ HoldShelf g)
      on = inv.bound.kept g ready

      go : ((Serves (route H on.0 (goal_of H g)) h → ⊥) ⊎ IsFirstInLine H h) → Next o k (UnshelveCancelled g)
      go (inl off) = inl (record {
        waits = unshelved-waits g on.0 Cancelled on.1 ready off;
        uncoming = quiet (copies H) _ (unshelved-quiet g on.0 Cancelled on.1 ready off);
      })
      go (inr first) = inr first

  moved-line : (o : Owner) (k : List ℕ) (c : Command) → refusal H o c ≡ None → c ≢ CancelHold h → StandsAfter c None ⊎ IsFirstInLine H h
  moved-line o k (CheckOut p n b) ok ne = next-after o k (CheckOut p n b) (check_out-line o k p n b)
  moved-line o k (CheckIn n b) ok ne = next-after o k (CheckIn n b) (check_in-line o k n b)
  moved-line o k (Missing n) ok ne = next-after o k (Missing n) (inl (missing-line o k n))
  moved-line o k (Withdraw n) ok ne = inl (stands.waits, quiet (copies H) _ (move-quiet n WithdrawnCopy (λ s. s)))
  moved-line o k (Acquire n t kind home price text) ok ne = next-after o k (Acquire n t kind home price text) (inl (acquire-line o k n t kind home price text))
  moved-line o k (CancelHold g) ok ne = next-after o k (CancelHold g) (inl (cancel-line o k g (ne-eqb g h (λ same. ne (ap CancelHold same)))))
  moved-line o k (Unshelve g) ok ne = next-after o k (Unshelve g) (unshelve-line o k g ok)
  moved-line o k (UnshelveCancelled g) ok ne = next-after o k (UnshelveCancelled g) (unshelve_cancelled-line o k g ok)
  moved-line o k (Rehome n b) ok ne = inl (stands.waits, quiet (copies H) _ (move-quiet n (rehomed H b (place H n)) rehomed-off))
    where
      rehomed-off : Serves (rehomed H b (place H n)) h → ⊥
      rehomed-off = rehomed-keeps H (λ q. Serves q h → ⊥) b (place H n) (nobody n) (λ s. s)
  moved-line o k _ ok ne = inl (stands.waits, stands.uncoming)

  made-line : (o : Owner) (k : List ℕ) (c : Command) (made : Option HoldFacts) → hold_made c ≡ made → refusal H o c ≡ None
      → c ≢ CancelHold h → StandsAfter c made ⊎ IsFirstInLine H h
  made-line o k c (Some made) e ok ne = inl (new_hold-line c made e)
  made-line o k c None e ok ne = moved-line o k c ok ne

  -- After an accepted command h stands in line still, or it was the first, or the command cancelled it.
  pub event-line : (o : Owner) (k : List ℕ) (c : Command) → refusal H o c ≡ None → c ≢ CancelHold h → Next o k c
  event-line o k c ok ne = elim (made-line o k c (hold_made c) refl ok ne)
      [ inl still ↦ inl (record { waits = still.0; uncoming = still.1 }) | inr first ↦ inr first ]

-- ---- the law

pub hold-kept : (H : History) (made : Option HoldFacts) (h : ℕ) → h ≤ holds H → hold_after H made h (hold_of H h) ≡ hold_of H h
hold-kept H (Some made) h old = go (next_hold H == h) refl
  where
    go : (x : Bool) → (next_hold H == h) ≡ x → cond x (Some made) (hold_of H h) ≡ hold_of H h
    go true e = let same : next_hold H ≡ h = eqb-true (next_hold H) h e in let never : ⊥ = omega (arith, same, old) in absurd never
    go false e = refl
hold-kept H None h old = refl

pub holds-grow : (made : Option HoldFacts) (n : ℕ) → n ≤ holds_after made n
holds-grow (Some made) n = omega arith
holds-grow None n = omega arith

-- Days go on, so the first day of a hold that has come has come for good.
day-goes-on : (o : Owner) (c : Command) (H : History) → refusal H o c ≡ None → today H ≤ today_after c (today H)
day-goes-on o (BeginDay d) H ok =
    let pass = and_parts (nat_lt (today H) d) (nat_le d LAST_TODAY) (not-false _ (passed (checks H o (BeginDay d)) ok check.BadDay)) in
    let later : today H < d = ltb-true _ _ pass.0 in omega (arith, later)
day-goes-on o _ H ok = omega arith

begun-later : (day later : ℕ) (first_day : Option ℕ) → day ≤ later → has_begun day first_day ≡ true → has_begun later first_day ≡ true
begun-later day later None le begun = refl
begun-later day later (Some d) le begun = let came : d ≤ day = leb-true d day begun in le-leb d later (omega (arith, came, le))

stays-begun : (e : Event) (H : History) (h : ℕ) → refusal H e.owner e.command ≡ None → h ≤ holds H → is_begun H h ≡ true → is_begun (e ∷ H) h ≡ true
stays-begun e H h ok old begun =
    ap (λ o. has_begun (today (e ∷ H)) (option_and_then (λ r. r.first_day) o)) (hold-kept H (hold_made e.command) h old)
    ∙ begun-later (today H) (today (e ∷ H)) (first_day_of H h) (day-goes-on e.owner e.command H ok) begun

pub in-line : (H : History) (t h : ℕ) → stands_in_line H t h ≡ true → (title_of_hold H h ≡ t) × StandsInLine H h
in-line H t h e =
    let parts : ((title_of_hold H h == t) ≡ true) × ((is_waiting (state H h) && (not (is_coming H h) && is_begun H h)) ≡ true) =
    both _ _ (filter-passes _ h (numbers_to (holds H)) e) in
    let stands : (is_waiting (state H h) ≡ true) × ((not (is_coming H h) && is_begun H h) ≡ true) = and_parts _ _ parts.1 in
    let free : (not (is_coming H h) ≡ true) × (is_begun H h ≡ true) = and_parts _ _ stands.1 in
    (eqb-true _ _ parts.0, record { waits = record { waits = waiting-is _ stands.0; uncoming = not-true _ free.0 }; begun = free.1 })

pub line-in : (H : History) (t h : ℕ) → 1 ≤ h → h ≤ holds H → title_of_hold H h ≡ t → StandsInLine H h → stands_in_line H t h ≡ true
line-in H t h low high title stands =
    let test : (elim (title_of_hold H h == t) as (λ _. Bool)
    [ true ↦ is_waiting (state H h) && (not (is_coming H h) && is_begun H h) | false ↦ false ]) ≡ true =
    ap (λ x. elim x as (λ _. Bool) [ true ↦ is_waiting (state H h) && (not (is_coming H h) && is_begun H h) | false ↦ false ]) (eq-eqb _ _ title)
    ∙ ap (λ x. is_waiting x && (not (is_coming H h) && is_begun H h)) stands.waits.waits
    ∙ ap (λ x. not x && is_begun H h) stands.waits.uncoming ∙ stands.begun in
    filter-has (λ g. elim (title_of_hold H g == t) as (λ _. Bool)
    [ true ↦ is_waiting (state H g) && (not (is_coming H g) && is_begun H g) | false ↦ false ]) h (numbers_to (holds H)) test
    (numbers-has (holds H) h low high)

-- Who leaves a line otherwise than by cancelling was its first.
pub served-first : (e : Event) (H : History) (t h : ℕ) → IsLegal (e ∷ H) → e.command ≢ CancelHold h
    → stands_in_line H t h ≡ true → stands_in_line (e ∷ H) t h ≡ false → (hs : List ℕ) × (line H t ≡ h ∷ hs)
served-first e H t h legal other before gone = go (event-line H h bound was.1.waits e.owner e.key e.command legal.0.unrefused other)
  where
    bound : IsBound H
    bound = legal-bound H legal.1

    was : (title_of_hold H h ≡ t) × StandsInLine H h
    was = in-line H t h before

    placed : (o : Option HoldFacts) → hold_of H h ≡ o → (1 ≤ h) × (h ≤ holds H)
    placed (Some r) f = (legal-LoanLaws H legal.1).made_hold h r f
    placed None f = absurd (some-none _ Waiting was.1.waits.waits (bound.unplaced h f))

    made : (1 ≤ h) × (h ≤ holds H)
    made = placed (hold_of H h) refl

    go : WaitsForCopy (e ∷ H) h ⊎ IsFirstInLine H h → (hs : List ℕ) × (line H t ≡ h ∷ hs)
    go (inl still) =
        let title : title_of_hold (e ∷ H) h ≡ t = ap (λ o. unwrap_or (option_map (λ r. r.title) o) 0) (hold-kept H (hold_made e.command) h made.1) ∙ was.0 in
        let grow : holds H ≤ holds_after (hold_made e.command) (holds H) = holds-grow (hold_made e.command) (holds H) in
        let stays : stands_in_line (e ∷ H) t h ≡ true =
        line-in (e ∷ H) t h made.0 (omega (arith, made.1, grow)) title
        (record { waits = still; begun = stays-begun e H h legal.0.unrefused made.1 was.1.begun }) in
        absurd (clash _ stays gone)
    go (inr first) =
        let title : title_of_hold H h ≡ first.0 = eqb-true _ _ (both _ _ (filter-head _ (numbers_to (holds H)) h first.1 first.2)).0 in
        let same : first.0 ≡ t = sym title ∙ was.0 in
        (first.1, subst (λ x. line H x ≡ h ∷ first.1) same first.2)
