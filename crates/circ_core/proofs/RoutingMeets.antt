-- Routing by the rows is the history's.
use Rattle.std.proofs.Common.{◌≡◌, ℕ, ◌+◌, ◌≤◌, ◌==◌, Bool, true, false, not, List, ◌∷◌, refl, sym, ◌∙◌, ap, subst, arith}
use Rattle.std.specs.Prelude.{Option, Some, None, option_map, unwrap_or, is_none}
use Rattle.std.proofs.lemmas.Bool.{eqb-true}
use Rattle.terms.specs.declared.reply.Routed.{Routed}
use Rattle.terms.specs.declared.row.HoldRow.{HoldRow}
use Rattle.terms.specs.declared.row.HoldState.TheVariants.{Waiting}
use Rattle.terms.specs.declared.row.TransitRow.{TransitRow}
use Rattle.model.specs.Calendar.{least}
use Rattle.model.specs.History.{History, today, is_open, BranchFacts, branch_of, HoldFacts, hold_of}
use Rattle.model.specs.Places.{Place, Nowhere, Shelf, HoldShelf, Transit, Loan, MissingCopy, WithdrawnCopy, place, state, line, route}
use Rattle.model.specs.Places.{route_from, route_to, limit_now, home_of, goal_of, title_of_copy, is_begun}
use Rattle.model.specs.Invariant.{Invariant, Serves}
use Rattle.model.specs.Refusals.{has_branch}
use Rattle.model.specs.Answers.{routed}
use Rattle.model.specs.Picture.{picture, branch_columns, hold_columns, transit_row, transit_at}
use Rattle.model.proofs.Bindings.{line-head}
use Rattle.circ_core.specs.declared.routing.Course.{Course}
use Rattle.circ_core.specs.declared.routing.Course.TheVariants as course
use Rattle.circ_core.specs.declared.views.View.{View}
use Rattle.circ_core.specs.Routing.{served, course_for, course_of, pickup_of, limit_in_view, routed_by, shelf_limit}
use Rattle.circ_core.specs.Views.{IsFirstOf, IsBranchView, coming_in}
use Rattle.circ_core.proofs.Claims.{hold_row-from}
use Rattle.circ_core.proofs.FirstInLine.{line_none, line_some}
use Rattle.circ_core.proofs.Calendars.{due_from-is, due_from-there}
use Rattle.circ_core.proofs.Rows.{some-is}

-- ---- where the copy goes

-- The place at the end of the course.
abbrev pub place_by : Course → ℕ → Place
place_by (course.HoldShelf q) b = HoldShelf q.hold
place_by course.Shelf b = Shelf b
place_by (course.Transit g h) b = Transit g h

-- A hold that becomes ready is one that waits and is picked up here.
abbrev pub Suits : History → ℕ → Course → Type 0
Suits H b (course.HoldShelf q) =
    (f : HoldFacts) × (hold_of H q.hold ≡ Some f) × (hold_columns H q.hold Waiting f ≡ q) × (state H q.hold ≡ Some Waiting) × (goal_of H q.hold ≡ b)
Suits H b course.Shelf = Unit {0}
Suits H b (course.Transit g h) = Unit {0}

-- The course leads to the place, and suits the hold that it serves.
abbrev pub LeadsTo : History → ℕ → Course → Place → Type 0
LeadsTo H b way p = (place_by way b ≡ p) × Suits H b way

module _ (H : History) (b home : ℕ) where
  toward : (q : HoldRow) (f : HoldFacts) → hold_of H q.hold ≡ Some f → hold_columns H q.hold Waiting f ≡ q → state H q.hold ≡ Some Waiting
      → (g : ℕ) → goal_of H q.hold ≡ g
      → LeadsTo H b (course_for home b (Some q)) (elim (g == b) as (λ _. Place) [ true ↦ HoldShelf q.hold | false ↦ Transit g (Some q.hold) ])
  toward q f made row waits g goal =
      let r : LeadsTo H b (course_for home b (Some q))
      (elim (q.branch == b) as (λ _. Place) [ true ↦ HoldShelf q.hold | false ↦ Transit q.branch (Some q.hold) ]) =
      go (q.branch == b) refl in
      (r.0 ∙ ap (λ n. elim (n == b) as (λ _. Place) [ true ↦ HoldShelf q.hold | false ↦ Transit n (Some q.hold) ]) branch, r.1)
    where
      branch : q.branch ≡ g
      branch = sym (ap (λ o. unwrap_or (option_map (λ r. r.branch) o) 0) made ∙ ap (λ x. x.branch) row) ∙ goal

      go : (x : Bool) → (q.branch == b) ≡ x
          → LeadsTo H b (elim x as (λ _. Course) [ true ↦ course.HoldShelf q | false ↦ course.Transit q.branch (Some q.hold) ])
          (elim x as (λ _. Place) [ true ↦ HoldShelf q.hold | false ↦ Transit q.branch (Some q.hold) ])
      go true e = (refl, (f, made, row, waits, (goal ∙ sym branch ∙ eqb-true q.branch b e)))
      go false e = (refl, tt)

module _ (H : History) (inv : Invariant H) (c b home : ℕ) (at_home : home ≡ home_of H c) where
  -- A copy that travels for no hold goes to the line of its title.
  pub by_line : (first : Option HoldRow) → IsFirstOf (picture H) (title_of_copy H c) first
      → LeadsTo H b (course_for home b first) (route_to H (place H) (state H) (is_begun H) c b (line H (title_of_copy H c)))
  by_line None w =
      let r : LeadsTo H b (course_for home b None) (elim (home == b) as (λ _. Place) [ true ↦ Shelf b | false ↦ Transit home None ]) = go (home == b) in (
        r.0
            ∙ ap (λ n. elim (n == b) as (λ _. Place) [ true ↦ Shelf b | false ↦ Transit n None ]) at_home
            ∙ sym (ap (λ l. route_to H (place H) (state H) (is_begun H) c b l) (line_none H inv (title_of_copy H c) w)),
        r.1,
      )
    where
      go : (x : Bool) → LeadsTo H b (elim x as (λ _. Course) [ true ↦ course.Shelf | false ↦ course.Transit home None ])
          (elim x as (λ _. Place) [ true ↦ Shelf b | false ↦ Transit home None ])
      go true = (refl, tt)
      go false = (refl, tt)
  by_line (Some q) w =
      let l : ((hs : List ℕ) × (line H (title_of_copy H c) ≡ q.hold ∷ hs))
      × ((f : HoldFacts) × (hold_of H q.hold ≡ Some f) × (hold_columns H q.hold Waiting f ≡ q)) =
      line_some H inv (title_of_copy H c) q w in
      let waits : state H q.hold ≡ Some Waiting = (line-head H (title_of_copy H c) q.hold l.0.0 l.0.1).0 in
      let r : LeadsTo H b (course_for home b (Some q))
      (elim (goal_of H q.hold == b) as (λ _. Place) [ true ↦ HoldShelf q.hold | false ↦ Transit (goal_of H q.hold) (Some q.hold) ]) =
      toward H b home q l.1.0 l.1.1 l.1.2 waits (goal_of H q.hold) refl in
      (r.0 ∙ sym (ap (λ x. route_to H (place H) (state H) (is_begun H) c b x) l.0.1), r.1)

  -- The course by the rows leads where routing leads.
  pub by_rows : (transit : Option TransitRow) (coming first : Option HoldRow) → transit ≡ transit_row H c
      → coming ≡ coming_in (picture H) transit → IsFirstOf (picture H) (title_of_copy H c) first
      → LeadsTo H b (course_of home coming first b) (route H c b)
  by_rows transit coming first travels comes w = go (place H c) refl (comes ∙ ap (λ o. coming_in (picture H) o) travels)
    where
      free : (p : Place) → coming ≡ None
          → route_from H (place H) (state H) (is_begun H) c b p ≡ route_to H (place H) (state H) (is_begun H) c b
          (line H (title_of_copy H c))
          → LeadsTo H b (course_of home coming first b) (route_from H (place H) (state H) (is_begun H) c b p)
      free p none same =
          let r : LeadsTo H b (course_for home b first) (route_to H (place H) (state H) (is_begun H) c b (line H (title_of_copy H c))) = by_line first w in
          subst (λ o. LeadsTo H b (course_for home b (served o first)) (route_from H (place H) (state H) (is_begun H) c b p)) (sym none) (r.0 ∙ sym same, r.1)

      go : (p : Place) → place H c ≡ p → coming ≡ coming_in (picture H) (transit_at c p)
          → LeadsTo H b (course_of home coming first b) (route_from H (place H) (state H) (is_begun H) c b p)
      go (Transit g (Some h)) at come =
          let serves : Serves (place H c) h = rw at refl in
          let fits : (state H h ≡ Some Waiting) × (goal_of H h ≡ g) = rw at at (inv.bound.fits c h serves) in
          let made : (f : HoldFacts) × (hold_of H h ≡ Some f) = inv.placed h Waiting fits.0 in
          let row : coming ≡ Some (hold_columns H h Waiting made.0) = come ∙ hold_row-from H h Waiting made.0 fits.0 made.1 in
          subst (λ o. LeadsTo H b (course_for home b (served o first))
          (elim (g == b) as (λ _. Place) [ true ↦ HoldShelf h | false ↦ Transit g (Some h) ])) (sym row)
          (toward H b home (hold_columns H h Waiting made.0) made.0 made.1 refl fits.0 g fits.1)
      go (Transit g None) at come = free (Transit g None) come refl
      go Nowhere at come = free Nowhere come refl
      go (Shelf n) at come = free (Shelf n) come refl
      go (HoldShelf h) at come = free (HoldShelf h) come refl
      go (Loan l) at come = free (Loan l) come refl
      go MissingCopy at come = free MissingCopy come refl
      go WithdrawnCopy at come = free WithdrawnCopy come refl

-- ---- the shelf limit

-- The limit of the hold that becomes ready.
abbrev pub Limits : History → Course → ℕ → Type 0
Limits H (course.HoldShelf r) until = limit_now H r.hold ≡ Some until
Limits H course.Shelf until = Unit {0}
Limits H (course.Transit g k) until = Unit {0}

module _ (H : History) (inv : Invariant H) (b : ℕ) (v : View) (w : IsBranchView (picture H) b v.branch v.calendar)
    (now : v.meta.today ≡ today H) (known : not (has_branch H b) ≡ false) where
  pickup_same : pickup_of v.branch ≡ unwrap_or (option_map (λ r. r.pickup) (branch_of H b)) 0
  pickup_same = ap pickup_of w.branch ∙ go (branch_of H b)
    where
      go : (o : Option BranchFacts) → pickup_of (option_map (branch_columns H b) o) ≡ unwrap_or (option_map (λ r. r.pickup) o) 0
      go (Some r) = refl
      go None = refl

  -- The calendar doesn't end before the limit.
  pub limit_there : (way : Course) → is_none (shelf_limit way v) ≡ false
  unfolding shelf_limit
  limit_there (course.HoldShelf q) =
      let r : (r : BranchFacts) × (branch_of H b ≡ Some r) = some-is (branch_of H b) known in
      let short : r.0.pickup ≤ 60 = inv.pickups b r.0 r.1 in
      let same : pickup_of v.branch ≡ r.0.pickup = pickup_same ∙ ap (λ o. unwrap_or (option_map (λ f. f.pickup) o) 0) r.1 in
      due_from-there H inv b v.calendar w.calendar known (v.meta.today + pickup_of v.branch) (omega (arith, now, inv.today_from))
      (omega (arith, now, same, short, inv.today_to))
  limit_there course.Shelf = refl
  limit_there (course.Transit g h) = refl

  -- The limit by the rows is the one that the history gives now.
  limit_is : (q : HoldRow) → goal_of H q.hold ≡ b → shelf_limit (course.HoldShelf q) v ≡ limit_now H q.hold
  unfolding shelf_limit
  limit_is q goal =
      due_from-is H b v.calendar w.calendar known (v.meta.today + pickup_of v.branch)
      ∙ ap (λ n. least (is_open H b) (n + pickup_of v.branch)) now
      ∙ ap (λ n. least (is_open H b) (today H + n)) pickup_same
      ∙ sym (ap (λ g. least (is_open H g) (today H + unwrap_or (option_map (λ r. r.pickup) (branch_of H g)) 0)) goal)

  some_day : (o : Option ℕ) (x : ℕ) → is_none o ≡ false → o ≡ Some (unwrap_or o x)
  some_day (Some d) x e = refl
  some_day None x e = let never : ⊥ = cc in absurd never

  limit_same : (q : HoldRow) → goal_of H q.hold ≡ b → limit_now H q.hold ≡ Some (limit_in_view (course.HoldShelf q) v)
  limit_same q goal = sym (limit_is q goal) ∙ some_day (shelf_limit (course.HoldShelf q) v) v.meta.today (limit_there (course.HoldShelf q))

  -- The limit by the rows is that of the hold that becomes ready.
  pub limits : (way : Course) → Suits H b way → Limits H way (limit_in_view way v)
  limits (course.HoldShelf q) s = limit_same q s.4
  limits course.Shelf s = tt
  limits (course.Transit g h) s = tt

  -- The reply tells where the copy went.
  pub told_same : (way : Course) → Suits H b way → routed_by way b (limit_in_view way v) ≡ routed H (place_by way b)
  told_same (course.HoldShelf q) s =
      let until = limit_in_view (course.HoldShelf q) v in
      let limit : limit_now H q.hold ≡ Some until = limit_same q s.4 in
      ap (λ n. Routed.HoldShelf q.hold n until) (sym s.4) ∙ ap (λ o. Routed.HoldShelf q.hold (goal_of H q.hold) (unwrap_or o 0)) (sym limit)
  told_same course.Shelf s = refl
  told_same (course.Transit g h) s = refl
