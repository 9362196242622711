-- Unshelving meets the history.
use Rattle.std.proofs.Common.{◌≡◌, ℕ, ◌==◌, nat_le, Bool, true, false, not, ◌&&◌, List, ◌∷◌, ◌++◌, refl, sym, ◌∙◌, ap, subst}
use Rattle.std.specs.Prelude.{Option, Some, None, option_map, option_and_then, unwrap_or, is_none, is_some, find}
use Rattle.std.proofs.lemmas.Bool.{eqb-true, eq-eqb}
use Rattle.terms.specs.declared.command.Owner.TheVariants.{Desk}
use Rattle.terms.specs.declared.command.Command.TheVariants.{Unshelve, UnshelveCancelled}
use Rattle.terms.specs.declared.reply.Reply.TheVariants.{Moved}
use Rattle.terms.specs.declared.row.HoldRow.{HoldRow}
use Rattle.terms.specs.declared.row.HoldState.{HoldState}
use Rattle.terms.specs.declared.row.HoldState.TheVariants.{Waiting, Ready, Filled, Cancelled, Expired}
use Rattle.terms.specs.declared.row.KeptRow.{KeptRow}
use Rattle.terms.specs.declared.command.Owner.{Owner}
use Rattle.terms.specs.Pictures.{Picture, put}
use Rattle.terms.specs.declared.refusal.Refusal.TheVariants as check
use Rattle.model.specs.History.{History, today, HoldFacts, hold_of, CopyFacts, copy_of, copies}
use Rattle.model.specs.Places.{Place, Nowhere, HoldShelf, place, state, line, is_ready, is_kept_for, kept_for, route, route_from, route_to}
use Rattle.model.specs.Places.{limit, limit_now, limit_at, unshelved_to, place_unshelved, state_unshelved, goal_of, home_of, title_of_copy}
use Rattle.model.specs.Places.{is_begun}
use Rattle.model.specs.Invariant.{Invariant, Serves}
use Rattle.model.specs.Requests.{IsLegal}
use Rattle.model.specs.Refusals.{checks, has_branch, has_hold}
use Rattle.model.specs.Answers.{routed}
use Rattle.model.specs.Picture.{picture, hold_row, hold_columns, copy_row, copy_columns, transit_row, transit_at, condition_at, hold_by}
use Rattle.model.proofs.Invariants.{legal-Invariant}
use Rattle.model.proofs.Moves.{moved}
use Rattle.model.proofs.Passing.{passed}
use Rattle.circ_core.specs.declared.changes.RowChange.TheVariants.{PutHold}
use Rattle.circ_core.specs.declared.routing.Course.{Course}
use Rattle.circ_core.specs.declared.routing.Course.TheVariants as course
use Rattle.circ_core.specs.declared.views.View.{View}
use Rattle.circ_core.specs.Decides.{event}
use Rattle.circ_core.specs.Holds.{finished}
use Rattle.circ_core.specs.Routing.{home_in, number_in, readied, arrival_rows, shelf_limit}
use Rattle.circ_core.specs.Tables.{change, changed, SameRows}
use Rattle.circ_core.specs.Unshelve.{is_ready_row, limit_in, pickup_branch, unshelve_checks, unshelve_cancelled_checks, course_unshelved}
use Rattle.circ_core.specs.Unshelve.{ended_hold, next_limit, unshelve_rows, unshelve_reply}
use Rattle.circ_core.specs.Views.{IsFirstOf, IsFirstFor, IsBranchView, IsPickupView, IsUnshelveView}
use Rattle.circ_core.proofs.Arriving.{ready_put, sent_put, arrival_changed, arrive, over, sends, stays_present}
use Rattle.circ_core.proofs.Claims.{kept-is, hold_row-from, shelf_row}
use Rattle.circ_core.proofs.HoldBranches.{hold-branch}
use Rattle.circ_core.proofs.Meets.{Meets, SameChecks, Leads}
use Rattle.circ_core.proofs.Rising.{find-same}
use Rattle.circ_core.proofs.RoutingMeets.{place_by, Suits, Limits, LeadsTo, by_line, limits, limit_there, told_same}

-- ---- one copy leaves its hold shelf

module _ (H : History) (inv : Invariant H) (g c : ℕ) (f : CopyFacts) (there : copy_of H c ≡ Some f) (at : place H c ≡ HoldShelf g) where
  serves : (x : ℕ) → place H x ≡ HoldShelf g → Serves (place H x) g
  serves x e = rw e refl

  -- Unshelving moves this copy and no other.
  unshelved_moved : (x : ℕ) → place_unshelved H (place H) (state H) (is_begun H) g x ≡ moved c (route H c (goal_of H g)) (place H) x
  unshelved_moved x = go (is_kept_for (place H x) g) refl (c == x) refl
    where
      go : (y : Bool) → is_kept_for (place H x) g ≡ y → (z : Bool) → (c == x) ≡ z
          → (elim y as (λ _. Place) [ true ↦ route H x (goal_of H g) | false ↦ place H x ]) ≡ (elim z as (λ _. Place)
          [ true ↦ route H c (goal_of H g) | false ↦ place H x ])
      go true e true d = ap (λ m. route H m (goal_of H g)) (sym (eqb-true c x d))
      go true e false d =
          let same : c ≡ x = inv.bound.once c x g (serves c at) (serves x (kept-is (place H x) g e)) in
          let on : (c == x) ≡ true = eq-eqb c x same in
          let never : ⊥ = cc in absurd never
      go false e true d =
          let here : is_kept_for (place H x) g ≡ true =
          ap (λ m. is_kept_for (place H m) g) (sym (eqb-true c x d)) ∙ ap (λ p. is_kept_for p g) at ∙ eq-eqb g g refl in
          let never : ⊥ = cc in absurd never
      go false e false d = refl

  module _ (h_facts : HoldFacts) (made : hold_of H g ≡ Some h_facts) (ready : state H g ≡ Some Ready) (ends : HoldState)
      (final : is_ready (Some ends) ≡ false) (b until : ℕ) where
    -- The row of the hold that ends.
    abbrev ended_row : HoldRow
    ended_row = finished (hold_columns H g Ready h_facts) ends

    abbrev row_at : Bool → Place → ℕ → Option HoldRow
    row_at x q h =
        hold_by h (hold_of H h) (elim x as (λ _. Option HoldState)
        [ true ↦ Some ends | false ↦ elim (is_kept_for q h) as (λ _. Option HoldState) [ true ↦ Some Ready | false ↦ state H h ] ])
        (find (λ y. is_kept_for (moved c q (place H) y) h) (copies H)) (elim (is_kept_for q h) as (λ _. Option ℕ) [ true ↦ limit_now H h | false ↦ limit H h ])

    -- A hold that ends has neither copy nor limit.
    ended_at : (kept lim : Option ℕ) → Some ended_row ≡ hold_by g (hold_of H g) (Some ends) kept lim
    ended_at kept lim =
        ap (λ (x : Bool). Some (record ended_row {
          copy = elim x as (λ _. Option ℕ) [ true ↦ kept | false ↦ None ];
          limit_day = elim x as (λ _. Option ℕ) [ true ↦ lim | false ↦ None ];
        })) (sym final)
        ∙ sym (ap (λ o. hold_by g o (Some ends) kept lim) made)

    -- The hold that ends isn't the one that becomes ready.
    other_hold : (way : Course) → Suits H b way → (x : Option HoldRow) → ready_put way c until x g ≡ x
    other_hold (course.HoldShelf r) s x = go (r.hold == g) refl
      where
        go : (y : Bool) → (r.hold == g) ≡ y → (elim y as (λ _. Option HoldRow) [ true ↦ Some (readied r c until) | false ↦ x ]) ≡ x
        go true e =
            let waits : state H g ≡ Some Waiting = subst (λ m. state H m ≡ Some Waiting) (eqb-true r.hold g e) s.3 in
            let never : ⊥ = cc in absurd never
        go false e = refl
    other_hold course.Shelf s x = refl
    other_hold (course.Transit n k) s x = refl

    holds_moved : (way : Course) → Suits H b way → Limits H way until → (h : ℕ)
        → ready_put way c until (put (hold_row H) g (Some ended_row) h) h ≡ row_at (g == h) (place_by way b) h
    holds_moved way s l h = go (g == h) refl
      where
        go : (x : Bool) → (g == h) ≡ x
            → ready_put way c until (elim x as (λ _. Option HoldRow) [ true ↦ Some ended_row | false ↦ hold_row H h ]) h ≡ row_at x
            (place_by way b) h
        go true e =
            subst (λ m. ready_put way c until (Some ended_row) m ≡ row_at true (place_by way b) m) (eqb-true g h e)
            (other_hold way s (Some ended_row)
            ∙ ended_at (find (λ y. is_kept_for (moved c (place_by way b) (place H) y) g) (copies H))
            (elim (is_kept_for (place_by way b) g) as (λ _. Option ℕ) [ true ↦ limit_now H g | false ↦ limit H g ]))
        go false e = arrive H inv c f there b until way s l h (ap (λ p. is_kept_for p h) at ∙ e)

    -- The rows of the holds are those that the history has, once the hold has ended.
    pub holds_lead : (way : Course) → LeadsTo H b way (route H c (goal_of H g)) → Limits H way until → (h : ℕ)
        → ready_put way c until (put (hold_row H) g (Some ended_row) h) h
        ≡ hold_by h (hold_of H h) (state_unshelved H (place H) (state H) (is_begun H) g ends (kept_for H g) h)
        (find (λ y. is_kept_for (place_unshelved H (place H) (state H) (is_begun H) g y) h) (copies H))
        (limit_at H (unshelved_to H g (kept_for H g)) h (limit H h))
    holds_lead way to l h =
        holds_moved way to.1 l h
        ∙ ap (λ q. row_at (g == h) q h) to.0
        ∙ ap (λ k. hold_by h (hold_of H h) (state_unshelved H (place H) (state H) (is_begun H) g ends (Some c) h) k
        (limit_at H (route H c (goal_of H g)) h (limit H h)))
        (sym (find-same _ _ (λ y. ap (λ p. is_kept_for p h) (unshelved_moved y)) (copies H)))
        ∙ ap (λ o. hold_by h (hold_of H h) (state_unshelved H (place H) (state H) (is_begun H) g ends o h)
        (find (λ y. is_kept_for (place_unshelved H (place H) (state H) (is_begun H) g y) h) (copies H))
        (limit_at H (unshelved_to H g o) h (limit H h))) (sym (shelf_row H inv c f there g at).3)

    pub transits_lead : (way : Course) → LeadsTo H b way (route H c (goal_of H g)) → (x : ℕ)
        → sent_put way c (transit_row H x) x ≡ transit_at x (place_unshelved H (place H) (state H) (is_begun H) g x)
    transits_lead way to x =
        sends H c b way (transit_row H) (over way (transit_row H c) (ap (λ p. transit_at c p) at)) (λ y e. refl) x
        ∙ ap (λ q. transit_at x (moved c q (place H) x)) to.0
        ∙ ap (λ p. transit_at x p) (sym (unshelved_moved x))

    pub copies_lead : (way : Course) → LeadsTo H b way (route H c (goal_of H g)) → (x : ℕ)
        → condition_at (place H x) ≡ condition_at (place_unshelved H (place H) (state H) (is_begun H) g x)
    copies_lead way to x =
        stays_present H c b way (ap condition_at at) x
        ∙ ap (λ q. condition_at (moved c q (place H) x)) to.0
        ∙ ap condition_at (sym (unshelved_moved x))

-- ---- the commands

module _ (H : History) (legal : IsLegal H) (g : ℕ) (v : View) (w : IsUnshelveView (picture H) g v) where
  inv : Invariant H
  inv = legal-Invariant H legal

  -- The hold is there, in this state.
  abbrev IsThere : HoldState → Type 0
  IsThere s = (f : HoldFacts) × (state H g ≡ Some s) × (hold_of H g ≡ Some f) × (v.hold ≡ Some (hold_columns H g s f))

  unknown_same : is_none v.hold ≡ not (has_hold H Desk g)
  unknown_same = ap is_none w.hold ∙ go (hold_of H g) refl (state H g) refl
    where
      go : (o : Option HoldFacts) → hold_of H g ≡ o → (s : Option HoldState) → state H g ≡ s
          → is_none (option_and_then (λ t. option_map (hold_columns H g t) o) s) ≡ not (is_some o && true)
      go (Some f) e (Some s) d = refl
      go (Some f) e None d = let r : (s : HoldState) × (state H g ≡ Some s) = inv.stated g f e in let never : ⊥ = cc in absurd never
      go None e (Some s) d = let r : (f : HoldFacts) × (hold_of H g ≡ Some f) = inv.placed g s d in let never : ⊥ = cc in absurd never
      go None e None d = refl

  known : not (has_hold H Desk g) ≡ false → (s : HoldState) × IsThere s
  known ok = go (hold_of H g) refl ok
    where
      go : (o : Option HoldFacts) → hold_of H g ≡ o → not (is_some o && true) ≡ false → (s : HoldState) × IsThere s
      go (Some f) e k =
          let s : (s : HoldState) × (state H g ≡ Some s) = inv.stated g f e in
          (s.0, (f, s.1, e, (w.hold ∙ hold_row-from H g s.0 f s.1 e)))
      go None e k = let never : ⊥ = cc in absurd never

  ready_row : (s : HoldState) (f : HoldFacts) → is_ready_row (Some (hold_columns H g s f)) ≡ is_ready (Some s)
  ready_row Waiting f = refl
  ready_row Ready f = refl
  ready_row Filled f = refl
  ready_row Cancelled f = refl
  ready_row Expired f = refl

  ready_same : not (has_hold H Desk g) ≡ false → not (is_ready_row v.hold) ≡ not (is_ready (state H g))
  ready_same ok =
      let k : (s : HoldState) × IsThere s = known ok in
      ap (λ o. not (is_ready_row o)) k.1.3 ∙ ap not (ready_row k.0 k.1.0) ∙ ap (λ o. not (is_ready o)) (sym k.1.1)

  is_ready-is : (s : HoldState) → not (is_ready (Some s)) ≡ false → s ≡ Ready
  is_ready-is Ready e = refl
  is_ready-is Waiting e = let never : ⊥ = cc in absurd never
  is_ready-is Filled e = let never : ⊥ = cc in absurd never
  is_ready-is Cancelled e = let never : ⊥ = cc in absurd never
  is_ready-is Expired e = let never : ⊥ = cc in absurd never

  stands_ready : not (has_hold H Desk g) ≡ false → not (is_ready (state H g)) ≡ false → IsThere Ready
  stands_ready ok is =
      let k : (s : HoldState) × IsThere s = known ok in
      let ready : k.0 ≡ Ready = is_ready-is k.0 (ap (λ o. not (is_ready o)) (sym k.1.1) ∙ is) in
      subst IsThere ready k.1

  limit_same : IsThere Ready → limit_in v.hold ≡ unwrap_or (limit H g) 0
  limit_same k = ap limit_in k.3

  -- ---- the copy that leaves

  module _ (k : IsThere Ready) where
    -- The copy on the hold shelf.
    abbrev OnShelf : Type 0
    OnShelf = (c : ℕ) × (f : CopyFacts) × (place H c ≡ HoldShelf g) × (copy_of H c ≡ Some f) × (kept_for H g ≡ Some c) × (v.copy ≡ Some (copy_columns H c f))

    on_shelf : OnShelf
    on_shelf =
        let kept : (c : ℕ) × (place H c ≡ HoldShelf g) = inv.bound.kept g k.1 in
        go kept.0 kept.1 (copy_of H kept.0) refl
      where
        go : (c : ℕ) → place H c ≡ HoldShelf g → (o : Option CopyFacts) → copy_of H c ≡ o → OnShelf
        go c at (Some f) e =
            let named : kept_for H g ≡ Some c = (shelf_row H inv c f e g at).3 in (
              c,
              f,
              at,
              e,
              named,
              (
                  w.copy
                  ∙ ap (λ o. option_and_then (λ r. option_and_then (copy_row H) r.copy) o) k.3
                  ∙ ap (λ o. option_and_then (copy_row H) o) named
                  ∙ ap (λ o. option_map (copy_columns H c) o) e
                  ),
            )
        go c at None e = let gone : place H c ≡ Nowhere = inv.unknown c e in let clash : Nowhere ≡ HoldShelf g = sym gone ∙ at in
            let never : ⊥ = cc in absurd never

    abbrev way : Course
    way = course_unshelved v

    abbrev branch : ℕ
    branch = pickup_branch v.hold

    branch_is : branch ≡ goal_of H g
    branch_is = ap pickup_branch k.3 ∙ sym (ap (λ o. unwrap_or (option_map (λ r. r.branch) o) 0) k.2)

    here_is : IsBranchView (picture H) branch v.branch v.calendar
    here_is = go v.hold k.3 w.here
      where
        go : (o : Option HoldRow) → o ≡ Some (hold_columns H g Ready k.0) → IsPickupView (picture H) o v.branch v.calendar
            → IsBranchView (picture H) (pickup_branch o) v.branch v.calendar
        go (Some r) e x = x
        go None e x = let never : ⊥ = cc in absurd never

    today_is : v.meta.today ≡ today H
    today_is = ap (λ m. m.today) w.meta

    branch_there : not (has_branch H branch) ≡ false
    branch_there = ap (λ n. not (has_branch H n)) (ap pickup_branch k.3) ∙ hold-branch H legal g k.0 k.2

    limit_here : is_none (shelf_limit way v) ≡ false
    limit_here = limit_there H inv branch v here_is today_is branch_there way

    abbrev until : ℕ
    until = next_limit v

    module _ (s : OnShelf) where
      to_there : LeadsTo H branch way (route H s.0 (goal_of H g))
      to_there =
          let home : home_in v.copy ≡ home_of H s.0 = ap home_in s.5 ∙ sym (ap (λ o. unwrap_or (option_map (λ r. r.home) o) 0) s.3) in
          let title : s.1.title ≡ title_of_copy H s.0 = sym (ap (λ o. unwrap_or (option_map (λ r. r.title) o) 0) s.3) in
          let first : IsFirstOf (picture H) (title_of_copy H s.0) v.first =
          subst (λ t. IsFirstOf (picture H) t v.first) title (subst (λ o. IsFirstFor (picture H) o v.first) s.5 w.first) in
          let r : LeadsTo H branch way (route_to H (place H) (state H) (is_begun H) s.0 branch (line H (title_of_copy H s.0))) =
          by_line H inv s.0 branch (home_in v.copy) home v.first first in (
            r.0
                ∙ ap (λ n. route_to H (place H) (state H) (is_begun H) s.0 n (line H (title_of_copy H s.0))) branch_is
                ∙ sym (ap (λ p. route_from H (place H) (state H) (is_begun H) s.0 (goal_of H g) p) s.2),
            r.1,
          )

      reply_same : unshelve_reply v until ≡ Moved (routed H (route H (unwrap_or (kept_for H g) 0) (goal_of H g)))
      reply_same =
          ap Moved
          (told_same H inv branch v here_is today_is branch_there way to_there.1
          ∙ ap (λ p. routed H p) to_there.0
          ∙ ap (λ o. routed H (route H (unwrap_or o 0) (goal_of H g))) (sym s.4))

      rows_same : (ends : HoldState) → unshelve_rows v ends until ≡ PutHold (finished (hold_columns H g Ready k.0) ends) ∷ arrival_rows way s.0 until
      rows_same ends =
          ap (λ o. ended_hold o ends ++ arrival_rows way (number_in v.copy) until) k.3
          ∙ ap (λ o. PutHold (finished (hold_columns H g Ready k.0) ends) ∷ arrival_rows way (number_in o) until) s.5

      changed_same : (ends : HoldState) → changed (unshelve_rows v ends until) (picture H)
          ≡ record (picture H) {
            holds = λ h. ready_put way s.0 until (put (hold_row H) g (Some (finished (hold_columns H g Ready k.0) ends)) h) h;
            transits = λ x. sent_put way s.0 (transit_row H x) x;
          }
      changed_same ends =
          ap (λ rows. changed rows (picture H)) (rows_same ends)
          ∙ arrival_changed way s.0 until (change (PutHold (finished (hold_columns H g Ready k.0) ends)) (picture H))

      -- The tables after the hold has ended in this state, those of the kept requests as given.
      abbrev tables_after : HoldState → (Owner → List ℕ → Option KeptRow) → Picture
      tables_after ends kept = record (picture H) {
        copies = λ n. option_map
            (λ r. record {
              copy = n;
              title = r.title;
              kind = r.kind;
              home = r.home;
              price = r.price;
              condition
                  = condition_at (place_unshelved H (place H) (state H) (is_begun H) g n);
            })
            (copy_of H n);
        holds = λ h. hold_by h (hold_of H h) (state_unshelved H (place H) (state H) (is_begun H) g ends (kept_for H g) h)
            (find (λ y. is_kept_for (place_unshelved H (place H) (state H) (is_begun H) g y) h) (copies H))
            (limit_at H (unshelved_to H g (kept_for H g)) h (limit H h));
        transits = λ n. transit_at n (place_unshelved H (place H) (state H) (is_begun H) g n);
        kept = kept;
      }

      leads_after : (ends : HoldState) → is_ready (Some ends) ≡ false → (kept : Owner → List ℕ → Option KeptRow)
          → SameRows (changed (unshelve_rows v ends until) (picture H)) (tables_after ends kept)
      leads_after ends final kept =
          let l : Limits H way until = limits H inv branch v here_is today_is branch_there way to_there.1 in
          subst (λ P. SameRows P (tables_after ends kept)) (sym (changed_same ends)) (λ i. record (tables_after ends kept) {
            copies = λ n. (ap (λ x. option_map
                (λ r. record { copy = n; title = r.title; kind = r.kind; home = r.home; price = r.price; condition = x }) (copy_of H n))
                (copies_lead H inv g s.0 s.1 s.3 s.2 k.0 k.2 k.1 ends final branch until way to_there n)) i;
            holds = λ h. holds_lead H inv g s.0 s.1 s.3 s.2 k.0 k.2 k.1 ends final branch until way to_there l h i;
            transits = λ n. transits_lead H inv g s.0 s.1 s.3 s.2 k.0 k.2 k.1 ends final branch until way to_there n i;
          })

      expired_lead : Leads H (Unshelve g) (unshelve_rows v Expired until)
      expired_lead owner key = leads_after Expired refl (picture (event owner key (Unshelve g) ∷ H)).kept

      cancelled_lead : Leads H (UnshelveCancelled g) (unshelve_rows v Cancelled until)
      cancelled_lead owner key = leads_after Cancelled refl (picture (event owner key (UnshelveCancelled g) ∷ H)).kept

  -- ---- the commands, on the rows

  cancelled_same : SameChecks (unshelve_cancelled_checks v) (checks H Desk (UnshelveCancelled g))
  cancelled_same = (refl, unknown_same, λ p15. (refl, ready_same p15, λ p53. (limit_here (stands_ready p15 p53), tt)))

  expired_same : SameChecks (unshelve_checks v) (checks H Desk (Unshelve g))
  expired_same = (
    refl,
    unknown_same,
    λ p15. (
      refl,
      ready_same p15,
      λ p53. (
        refl,
        (ap (λ m. nat_le m.today (limit_in v.hold)) w.meta ∙ ap (λ n. nat_le (today H) n) (limit_same (stands_ready p15 p53))),
        λ p54. (limit_here (stands_ready p15 p53), tt),
      ),
    ),
  )

  pub unshelve_meets : Meets H (Unshelve g) (unshelve_checks v) (unshelve_reply v (next_limit v)) (unshelve_rows v Expired (next_limit v))
  unshelve_meets = record {
    same = expired_same;
    due = λ ok. let p = passed (checks H Desk (Unshelve g)) ok in let k : IsThere Ready = stands_ready (p check.UnknownHold) (p check.WrongHoldState) in reply_same k (on_shelf k);
    leads = λ ok. let p = passed (checks H Desk (Unshelve g)) ok in let k : IsThere Ready = stands_ready (p check.UnknownHold) (p check.WrongHoldState) in expired_lead k (on_shelf k);
  }

  pub unshelve_cancelled_meets : Meets H (UnshelveCancelled g) (unshelve_cancelled_checks v) (unshelve_reply v (next_limit v))
      (unshelve_rows v Cancelled (next_limit v))
  unshelve_cancelled_meets = record {
    same = cancelled_same;
    due = λ ok. let p = passed (checks H Desk (UnshelveCancelled g)) ok in let k : IsThere Ready = stands_ready (p check.UnknownHold) (p check.WrongHoldState) in reply_same k (on_shelf k);
    leads = λ ok. let p = passed (checks H Desk (UnshelveCancelled g)) ok in let k : IsThere Ready = stands_ready (p check.UnknownHold) (p check.WrongHoldState) in cancelled_lead k (on_shelf k);
  }
