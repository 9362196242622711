-- The first hold in line in the tables is the first of the model's line.
use Rattle.std.proofs.Common.{◌≡◌, ℕ, ◌≤◌, ◌==◌, Bool, true, false, not, ◌&&◌, ◌||◌, List, [], ◌∷◌, refl, sym, ◌∙◌, ap, arith}
use Rattle.std.specs.Prelude.{Option, Some, None, option_map, option_and_then, unwrap_or}
use Rattle.std.specs.List.{list_any}
use Rattle.std.proofs.lemmas.Bool.{eqb-true, eq-eqb, and_parts, and_from, false_from_ne_true}
use Rattle.terms.specs.declared.row.HoldRow.{HoldRow}
use Rattle.terms.specs.declared.row.HoldState.{HoldState}
use Rattle.terms.specs.declared.row.HoldState.TheVariants.{Waiting, Ready, Filled, Cancelled, Expired}
use Rattle.terms.specs.declared.row.TransitRow.{TransitRow}
use Rattle.circ_core.specs.Views.{InLine, IsFirstOf}
use Rattle.model.specs.Invariant.{Invariant}
use Rattle.circ_core.proofs.Rising.{filter-none, filter-first}
use Rattle.circ_core.proofs.Claims.{hold_row-is, hold_row-from}
use Rattle.model.specs.History.{History, HoldFacts, today, has_begun, hold_of, holds, CopyFacts, copy_of, copies}
use Rattle.model.specs.Places.{Place, Nowhere, Shelf, HoldShelf, Transit, Loan, MissingCopy, WithdrawnCopy as Withdrawn, is_bound_for}
use Rattle.model.specs.Places.{is_waiting, is_begun, place, state, line, is_coming_by, title_of_hold}
use Rattle.model.specs.Picture.{picture, hold_columns, transit_at}

-- ---- lists

pub list_any-member : (f : ℕ → Bool) (xs : List ℕ) (c : ℕ) → list_any (λ x. c == x) xs ≡ true → f c ≡ true → list_any f xs ≡ true
list_any-member f [] c has e = let never : ⊥ = cc in absurd never
list_any-member f (x ∷ xs) c has e = go (λ q. list_any-member f xs c q e) (c == x) refl has
  where
    or_true : (a b : Bool) → b ≡ true → (a || b) ≡ true
    or_true true b p = refl
    or_true false b p = p

    go : (list_any (λ y. c == y) xs ≡ true → list_any f xs ≡ true) → (b : Bool) → (c == x) ≡ b → (b || list_any (λ y. c == y) xs) ≡ true
        → (f x || list_any f xs) ≡ true
    go ih true p q = let same : c ≡ x = eqb-true c x p in let here : f x ≡ true = rw same at e in rw here refl
    go ih false p q = or_true (f x) (list_any f xs) (ih q)

pub list_any-some : (f : ℕ → Bool) (xs : List ℕ) → list_any f xs ≡ true → (x : ℕ) × (f x ≡ true)
list_any-some f [] e = let never : ⊥ = cc in absurd never
list_any-some f (x ∷ xs) e = go (λ q. list_any-some f xs q) (f x) refl e
  where
    go : (list_any f xs ≡ true → (y : ℕ) × (f y ≡ true)) → (b : Bool) → f x ≡ b → (b || list_any f xs) ≡ true → (y : ℕ) × (f y ≡ true)
    go ih true p q = (x, p)
    go ih false p q = ih q

-- ---- one hold

pub waiting-is : (s : Option HoldState) → is_waiting s ≡ true → s ≡ Some Waiting
waiting-is (Some Waiting) e = refl
waiting-is (Some Ready) e = let never : ⊥ = cc in absurd never
waiting-is (Some Filled) e = let never : ⊥ = cc in absurd never
waiting-is (Some Cancelled) e = let never : ⊥ = cc in absurd never
waiting-is (Some Expired) e = let never : ⊥ = cc in absurd never
waiting-is None e = let never : ⊥ = cc in absurd never

pub bound-is : (p : Place) (h : ℕ) → is_bound_for p h ≡ true → (b : ℕ) × (p ≡ Transit b (Some h))
bound-is (Transit b (Some g)) h e = (b, ap (λ k. Transit b (Some k)) (eqb-true g h e))
bound-is (Transit b None) h e = let never : ⊥ = cc in absurd never
bound-is Nowhere h e = let never : ⊥ = cc in absurd never
bound-is (Shelf b) h e = let never : ⊥ = cc in absurd never
bound-is (HoldShelf g) h e = let never : ⊥ = cc in absurd never
bound-is (Loan l) h e = let never : ⊥ = cc in absurd never
bound-is MissingCopy h e = let never : ⊥ = cc in absurd never
bound-is Withdrawn h e = let never : ⊥ = cc in absurd never

pub transit-is : (c : ℕ) (p : Place) (x : TransitRow) (h : ℕ) → transit_at c p ≡ Some x → x.hold ≡ Some h → is_bound_for p h ≡ true
transit-is c (Transit g (Some k)) x h e f =
    let same : Some (record { copy = c; goal = g; hold = Some k }) ≡ Some x = e in
    let row : ◌≡◌ {A = TransitRow} (record { copy = c; goal = g; hold = Some k }) x = cc in
    let hold : Some k ≡ Some h = ap (λ r. r.hold) row ∙ f in
    let number : k ≡ h = cc in eq-eqb k h number
transit-is c (Transit g None) x h e f =
    let same : Some (record { copy = c; goal = g; hold = None }) ≡ Some x = e in
    let row : ◌≡◌ {A = TransitRow} (record { copy = c; goal = g; hold = None }) x = cc in
    let hold : None ≡ Some h = ap (λ r. r.hold) row ∙ f in
    let never : ⊥ = cc in absurd never
transit-is c Nowhere x h e f = let never : ⊥ = cc in absurd never
transit-is c (Shelf b) x h e f = let never : ⊥ = cc in absurd never
transit-is c (HoldShelf g) x h e f = let never : ⊥ = cc in absurd never
transit-is c (Loan l) x h e f = let never : ⊥ = cc in absurd never
transit-is c MissingCopy x h e f = let never : ⊥ = cc in absurd never
transit-is c Withdrawn x h e f = let never : ⊥ = cc in absurd never

not-true : (b : Bool) → not b ≡ true → b ≡ false
not-true true e = let never : ⊥ = cc in absurd never
not-true false e = refl

module _ (H : History) (inv : Invariant H) (t : ℕ) where
  abbrev pub stands : ℕ → Bool
  stands h = elim (title_of_hold H h == t)
      [ true ↦ is_waiting (state H h) && (not (is_coming_by H (place H) (state H) (is_begun H) h) && is_begun H h) | false ↦ false ]

  both : (x y : Bool) → ◌≡◌ {A = Bool} (elim x [ true ↦ y | false ↦ false ]) true → (x ≡ true) × (y ≡ true)
  both true y e = (refl, e)
  both false y e = let never : ⊥ = cc in absurd never

  both-from : (x y : Bool) → x ≡ true → y ≡ true → ◌≡◌ {A = Bool} (elim x [ true ↦ y | false ↦ false ]) true
  both-from true y e f = f
  both-from false y e f = let never : ⊥ = cc in absurd never

  -- A copy with a place was acquired.
  known : (c : ℕ) → (place H c ≡ Nowhere → ⊥) → list_any (λ x. c == x) (copies H) ≡ true
  known c somewhere = go (copy_of H c) refl
    where
      go : (o : Option CopyFacts) → copy_of H c ≡ o → list_any (λ x. c == x) (copies H) ≡ true
      go (Some r) e = (inv.acquired c r e).1
      go None e = absurd (somewhere (inv.unknown c e))

  pub stands-row : (h : ℕ) → stands h ≡ true → (f : HoldFacts) × (hold_of H h ≡ Some f) × InLine (picture H) t h (hold_columns H h Waiting f)
  stands-row h e =
      let parts : (title_of_hold H h == t ≡ true)
      × ((is_waiting (state H h) && (not (is_coming_by H (place H) (state H) (is_begun H) h) && is_begun H h)) ≡ true) = both _ _ e in
      let more : (is_waiting (state H h) ≡ true) × ((not (is_coming_by H (place H) (state H) (is_begun H) h) && is_begun H h) ≡ true) = and_parts _ _ parts.1 in
      let free : (not (is_coming_by H (place H) (state H) (is_begun H) h) ≡ true) × (is_begun H h ≡ true) = and_parts _ _ more.1 in
      let waits : state H h ≡ Some Waiting = waiting-is (state H h) more.0 in
      let alone : is_coming_by H (place H) (state H) (is_begun H) h ≡ false = not-true _ free.0 in
      let f : (f : HoldFacts) × (hold_of H h ≡ Some f) = inv.placed h Waiting waits in (
        f.0,
        f.1,
        record {
          there = hold_row-from H h Waiting f.0 waits f.1;
          on_title = ap (λ o. unwrap_or (option_map (λ r. r.title) o) 0) (sym f.1) ∙ eqb-true _ _ parts.0;
          waits = refl;
          begun = ap (λ o. has_begun (today H) (option_and_then (λ r. r.first_day) o)) (sym f.1) ∙ free.1;
          alone = λ c x row names.
              let bound : is_bound_for (place H c) h ≡ true = transit-is c (place H c) x h row names in
              let at : (b : ℕ) × (place H c ≡ Transit b (Some h)) = bound-is (place H c) h bound in
              let has : list_any (λ x. c == x) (copies H) ≡ true =
              known c (λ no. let clash : Nowhere ≡ Transit at.0 (Some h) = sym no ∙ at.1 in let never : ⊥ = cc in never) in
              let coming : is_coming_by H (place H) (state H) (is_begun H) h ≡ true =
              list_any-member (λ y. is_bound_for (place H y) h) (copies H) c has bound in
              let never : ⊥ = cc in never;
        },
      )

  pub row-stands : (h : ℕ) (q : HoldRow) → InLine (picture H) t h q → (stands h ≡ true) × (1 ≤ h) × (h ≤ holds H)
      × ((f : HoldFacts) × (hold_of H h ≡ Some f) × (hold_columns H h Waiting f ≡ q))
  row-stands h q w =
      let is : (s : HoldState) × (f : HoldFacts) × (state H h ≡ Some s) × (hold_of H h ≡ Some f) × (hold_columns H h s f ≡ q) = hold_row-is H h q w.there in
      let waits : is.0 ≡ Waiting = ap (λ x. x.state) is.4 ∙ w.waits in
      let title : title_of_hold H h ≡ t = ap (λ o. unwrap_or (option_map (λ r. r.title) o) 0) is.3 ∙ ap (λ x. x.title) is.4 ∙ w.on_title in
      let alone : is_coming_by H (place H) (state H) (is_begun H) h ≡ false = go (is_coming_by H (place H) (state H) (is_begun H) h) refl in
      let begun : is_begun H h ≡ true =
      ap (λ o. has_begun (today H) (option_and_then (λ r. r.first_day) o)) is.3 ∙ ap (λ x. has_begun (today H) x.first_day) is.4 ∙ w.begun in
      let row : hold_columns H h Waiting is.1 ≡ q = ap (λ s. hold_columns H h s is.1) (sym waits) ∙ is.4 in (
        both-from _ _ (eq-eqb _ _ title) (and_from _ _ (ap is_waiting (is.2 ∙ ap Some waits)) (and_from _ _ (ap not alone) begun)),
        (inv.made_hold h is.1 is.3).0,
        (inv.made_hold h is.1 is.3).1,
        (is.1, is.3, row),
      )
    where
      go : (b : Bool) → is_coming_by H (place H) (state H) (is_begun H) h ≡ b → b ≡ false
      go true e =
          let who : (c : ℕ) × (is_bound_for (place H c) h ≡ true) = list_any-some (λ y. is_bound_for (place H y) h) (copies H) e in
          let at : (b : ℕ) × (place H who.0 ≡ Transit b (Some h)) = bound-is (place H who.0) h who.1 in
          absurd (w.alone who.0 (record { copy = who.0; goal = at.0; hold = Some h }) (ap (λ p. transit_at who.0 p) at.1) refl)
      go false e = refl

  pub line_none : IsFirstOf (picture H) t None → line H t ≡ []
  line_none w = filter-none stands (holds H)
      (λ h low high. false_from_ne_true (stands h)
      (λ e. let r : (f : HoldFacts) × (hold_of H h ≡ Some f)
      × InLine (picture H) t h (hold_columns H h Waiting f) = stands-row h e in w h (hold_columns H h Waiting r.0) r.2))

  pub line_some : (q : HoldRow) → IsFirstOf (picture H) t (Some q)
      → ((hs : List ℕ) × (line H t ≡ q.hold ∷ hs)) × ((f : HoldFacts) × (hold_of H q.hold ≡ Some f) × (hold_columns H q.hold Waiting f ≡ q))
  line_some q w =
      let r : (stands q.hold ≡ true) × (1 ≤ q.hold) × (q.hold ≤ holds H)
      × ((f : HoldFacts) × (hold_of H q.hold ≡ Some f) × (hold_columns H q.hold Waiting f ≡ q)) = row-stands q.hold q w.0 in (
        filter-first stands (holds H) q.hold r.1 r.2 r.0
            (λ h low less. false_from_ne_true (stands h) (λ e.
            let s : (f : HoldFacts) × (hold_of H h ≡ Some f) × InLine (picture H) t h (hold_columns H h Waiting f) = stands-row h e in
            let le : q.hold ≤ h = w.1 h (hold_columns H h Waiting s.0) s.2 in omega (arith, le, less))),
        r.3,
      )
