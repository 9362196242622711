-- In every legal history copies on the shelf are at home, and copies and the holds that they serve have the
-- same title.
use Rattle.std.proofs.Common.{◌≡◌, ℕ, ◌≤◌, ◌==◌, Bool, true, false, cond, List, [], ◌∷◌, refl, sym, ◌∙◌, ap, subst, arith}
use Rattle.std.specs.Prelude.{Option, Some, None, option_map, unwrap_or, is_none}
use Rattle.std.specs.Option.{option_or}
use Rattle.std.proofs.lemmas.Bool.{eqb-true}
use Rattle.terms.specs.declared.command.Owner.{Owner}
use Rattle.terms.specs.declared.row.HoldState.TheVariants.{Waiting}
use Rattle.terms.specs.declared.command.Command.{Command}
use Rattle.terms.specs.declared.command.Command.TheVariants.{AmendCopy, Rehome}
use Rattle.terms.specs.declared.command.Command.TheVariants.{Acquire, CheckOut, CheckIn, CancelHold, Unshelve, UnshelveCancelled, Missing, Withdraw}
use Rattle.model.specs.History.{with_price, with_home, History, numbers_to, CopyFacts, copy_of, copy_after, next_loan, HoldFacts, hold_made, hold_of, hold_after, holds, next_hold}
use Rattle.model.specs.Places.{Place, Nowhere, Shelf, HoldShelf, Transit, Loan, MissingCopy, WithdrawnCopy, place, state, place_after}
use Rattle.model.specs.Places.{place_let_go, place_unshelved, is_kept_for, route_by, route_from, route_to, line_by, goal_of, home_of}
use Rattle.model.specs.Places.{title_of_copy, title_of_hold, is_begun}
use Rattle.model.specs.Invariant.{Serves, Fits, Bound}
use Rattle.model.proofs.Bindings.{filter-head, both}
use Rattle.model.proofs.MadeHolds.{moves-nothing}
use Rattle.model.proofs.LoanLaws.{LoanLaws}
use Rattle.model.proofs.Amending.{amended-column}
use Rattle.model.proofs.Rehoming.{rehomed, rehomed-keeps, rehomed-shelf}

pub record PlaceLaws (H : History) : Type 0 where
  pub somewhere : (c : ℕ) → place H c ≡ Nowhere → copy_of H c ≡ None
  pub at_home : (c b : ℕ) → place H c ≡ Shelf b → home_of H c ≡ b
  pub of_title : (c h : ℕ) → Serves (place H c) h → title_of_hold H h ≡ title_of_copy H c

module _ (H : History) where
  line-title : (t h : ℕ) (hs : List ℕ) → line_by H (place H) (state H) (is_begun H) t ≡ h ∷ hs → title_of_hold H h ≡ t
  line-title t h hs e = eqb-true _ _ (both _ _ (filter-head _ (numbers_to (holds H)) h hs e)).0

  -- What a routed copy is: at home on a shelf, else serving a hold of its title, or bound home.
  abbrev RouteOk : ℕ → Place → Type 0
  RouteOk c q = (q ≡ Nowhere → ⊥) × ((n : ℕ) → q ≡ Shelf n → home_of H c ≡ n) × ((h : ℕ) → Serves q h → title_of_hold H h ≡ title_of_copy H c)

  route_to-ok : (c b : ℕ) (hs : List ℕ) → line_by H (place H) (state H) (is_begun H) (title_of_copy H c) ≡ hs
      → RouteOk c (route_to H (place H) (state H) (is_begun H) c b hs)
  route_to-ok c b (h ∷ hs) e = go (goal_of H h == b)
    where
      title : title_of_hold H h ≡ title_of_copy H c
      title = line-title (title_of_copy H c) h hs e

      go : (x : Bool) → RouteOk c (elim x as (λ _. Place) [ true ↦ HoldShelf h | false ↦ Transit (goal_of H h) (Some h) ])
      go true = (
        (λ q. let never : ⊥ = cc in never),
        (λ n q. let never : ⊥ = cc in absurd never),
        (λ k s. subst (λ m. title_of_hold H m ≡ title_of_copy H c) s title),
      )
      go false = (
        (λ q. let never : ⊥ = cc in never),
        (λ n q. let never : ⊥ = cc in absurd never),
        (λ k s. subst (λ m. title_of_hold H m ≡ title_of_copy H c) s title),
      )
  route_to-ok c b [] e = go (home_of H c == b) refl
    where
      go : (x : Bool) → (home_of H c == b) ≡ x → RouteOk c (elim x as (λ _. Place) [ true ↦ Shelf b | false ↦ Transit (home_of H c) None ])
      go true d = ((λ q. let never : ⊥ = cc in never), (λ n q. let same : b ≡ n = cc in eqb-true _ _ d ∙ same), (λ k s. absurd s))
      go false d = ((λ q. let never : ⊥ = cc in never), (λ n q. let never : ⊥ = cc in absurd never), (λ k s. absurd s))

  route-ok : (c b : ℕ) (p : Place) → ((h : ℕ) → Serves p h → title_of_hold H h ≡ title_of_copy H c)
      → RouteOk c (route_from H (place H) (state H) (is_begun H) c b p)
  route-ok c b (Transit g (Some h)) t = go (g == b)
    where
      go : (x : Bool) → RouteOk c (elim x as (λ _. Place) [ true ↦ HoldShelf h | false ↦ Transit g (Some h) ])
      go true = ((λ q. let never : ⊥ = cc in never), (λ n q. let never : ⊥ = cc in absurd never), t)
      go false = ((λ q. let never : ⊥ = cc in never), (λ n q. let never : ⊥ = cc in absurd never), t)
  route-ok c b _ t = route_to-ok c b (line_by H (place H) (state H) (is_begun H) (title_of_copy H c)) refl

module _ (H : History) (inv : PlaceLaws H) (loans_ok : LoanLaws H) (bound : Bound (goal_of H) (place H) (state H)) (o : Owner) where
  abbrev after : Command → ℕ → Place
  after x c = place_after H (place H) (state H) (is_begun H) x c

  -- What holds of a copy in this place, with the copies and holds as they are.
  abbrev PlaceOk : ℕ → Place → Type 0
  PlaceOk c q = (q ≡ Nowhere → copy_of H c ≡ None) × ((n : ℕ) → q ≡ Shelf n → home_of H c ≡ n) × ((h : ℕ) → Serves q h → title_of_hold H h ≡ title_of_copy H c)

  was_ok : (c : ℕ) → PlaceOk c (place H c)
  was_ok c = (inv.somewhere c, inv.at_home c, inv.of_title c)

  routed_ok : (c b : ℕ) → PlaceOk c (route_by H (place H) (state H) (is_begun H) c b)
  routed_ok c b = let r : RouteOk H c (route_from H (place H) (state H) (is_begun H) c b (place H c)) =
      route-ok H c b (place H c) (inv.of_title c) in ((λ e. absurd (r.0 e)), r.1, r.2)

  moved_ok : (n c : ℕ) (q : Place) → PlaceOk n q → PlaceOk c (elim (n == c) as (λ _. Place) [ true ↦ q | false ↦ place H c ])
  moved_ok n c q w = go (n == c) refl
    where
      go : (x : Bool) → (n == c) ≡ x → PlaceOk c (elim x as (λ _. Place) [ true ↦ q | false ↦ place H c ])
      go true d = subst (λ m. PlaceOk m q) (eqb-true n c d) w
      go false d = was_ok c

  let_go_ok : (h c : ℕ) (p : Place) → PlaceOk c p → PlaceOk c (place_let_go H (place H) (state H) (is_begun H) h p)
  let_go_ok h c (Transit b (Some g)) w = go (h == g)
    where
      go : (x : Bool) → PlaceOk c (elim x as (λ _. Place) [ true ↦ Transit b None | false ↦ Transit b (Some g) ])
      go true = ((λ e. let never : ⊥ = cc in absurd never), (λ n e. let never : ⊥ = cc in absurd never), (λ k s. absurd s))
      go false = w
  let_go_ok h c (Transit b None) w = w
  let_go_ok h c _ w = w

  unshelved_ok : (g c : ℕ) → PlaceOk c (place_unshelved H (place H) (state H) (is_begun H) g c)
  unshelved_ok g c = go (is_kept_for (place H c) g)
    where
      go : (x : Bool) → PlaceOk c (elim x as (λ _. Place) [ true ↦ route_by H (place H) (state H) (is_begun H) c (goal_of H g) | false ↦ place H c ])
      go true = routed_ok c (goal_of H g)
      go false = was_ok c

  plain_ok : (c : ℕ) (q : Place) → (q ≡ Nowhere → ⊥) → ((n : ℕ) → q ≡ Shelf n → ⊥) → ((h : ℕ) → Serves q h → ⊥) → PlaceOk c q
  plain_ok c q x y z = ((λ e. absurd (x e)), (λ n e. absurd (y n e)), (λ h s. absurd (z h s)))

  loan_ok : (c : ℕ) → PlaceOk c (Loan (next_loan H))
  loan_ok c = plain_ok c (Loan (next_loan H)) (λ e. let never : ⊥ = cc in never) (λ n e. let never : ⊥ = cc in never) (λ h s. s)

  abbrev home_in : Option CopyFacts → ℕ
  home_in y = unwrap_or (option_map (λ r. r.home) y) 0

  abbrev title_in : Option CopyFacts → ℕ
  title_in y = unwrap_or (option_map (λ r. r.title) y) 0

  abbrev OkAs : Option CopyFacts → (ℕ → Option HoldFacts) → Place → Type 0
  OkAs copy hold q = (q ≡ Nowhere → copy ≡ None) × ((n : ℕ) → q ≡ Shelf n → home_in copy ≡ n)
      × ((h : ℕ) → Serves q h → unwrap_or (option_map (λ r. r.title) (hold h)) 0 ≡ title_in copy)

  -- A copy that stays where it is.
  stays_ok : (c : ℕ) (f : CopyFacts) (x : Bool) (z : Option CopyFacts) → copy_of H c ≡ z → (z ≡ None → x ≡ false)
      → OkAs (option_or z (cond x (Some f) None)) (hold_of H) (place H c)
  stays_ok c f x None e ne =
      let at : place H c ≡ Nowhere = loans_ok.unknown c e in
      let off : x ≡ false = ne refl in (
        (λ q. ap (λ y. option_or None (cond y (Some f) None)) off),
        (λ n q. let never : ⊥ = cc in absurd never),
        (λ h s. let s' : Serves Nowhere h = rw at at s in absurd s'),
      )
  stays_ok c f x (Some g) e ne = (
    (λ q. let none : copy_of H c ≡ None = inv.somewhere c q in let never : ⊥ = cc in absurd never),
    (λ n q. ap home_in (sym e) ∙ inv.at_home c n q),
    (λ h s. inv.of_title c h s ∙ ap title_in e),
  )

  acquire_ok : (n t k home price c : ℕ) (text : List ℕ)
      → OkAs (copy_after (Acquire n t k home price text) c (copy_of H c)) (hold_of H) (after (Acquire n t k home price text) c)
  acquire_ok n t k home price c text = go (copy_of H n) (n == c) (copy_of H c) refl refl refl
    where
      none_at : copy_of H n ≡ None → (n == c) ≡ true → copy_of H c ≡ None
      none_at e d = subst (λ m. copy_of H m ≡ None) (eqb-true n c d) e

      go : (y : Option CopyFacts) (x : Bool) (z : Option CopyFacts) → copy_of H n ≡ y → (n == c) ≡ x → copy_of H c ≡ z
          → OkAs (option_or z (cond x (Some (record { title = t; kind = k; home = home; price = price })) None)) (hold_of H)
          (elim (is_none y) as (λ _. Place) [ true ↦ (elim x as (λ _. Place) [ true ↦ Shelf home | false ↦ place H c ]) | false ↦ place H c ])
      go None true None e d f = ((λ q. let never : ⊥ = cc in absurd never), (λ m q. let same : home ≡ m = cc in same), (λ h s. absurd s))
      go None true (Some g) e d f = let none : copy_of H c ≡ None = none_at e d in let never : ⊥ = cc in absurd never
      go None false z e d f = stays_ok c (record { title = t; kind = k; home = home; price = price }) false z f (λ _. refl)
      go (Some y) false z e d f = stays_ok c (record { title = t; kind = k; home = home; price = price }) false z f (λ _. refl)
      go (Some y) true None e d f = let some : copy_of H c ≡ Some y = subst (λ m. copy_of H m ≡ Some y) (eqb-true n c d) e in let never : ⊥ = cc in absurd never
      go (Some y) true (Some g) e d f =
          stays_ok c (record { title = t; kind = k; home = home; price = price }) true (Some g) f (λ q. let never : ⊥ = cc in absurd never)

  amended_ok : (here : Bool) (k price c : ℕ) → OkAs (cond here (option_map (with_price k price) (copy_of H c)) (copy_of H c)) (hold_of H) (place H c)
  amended_ok true k price c = (
    (λ q. ap (option_map (with_price k price)) (inv.somewhere c q)),
    (λ n q. ap (λ y. unwrap_or y 0) (amended-column (λ r. r.home) true (with_price k price) (copy_of H c) (λ r. refl)) ∙ inv.at_home c n q),
    (λ h s. inv.of_title c h s ∙ sym (ap (λ y. unwrap_or y 0) (amended-column (λ r. r.title) true (with_price k price) (copy_of H c) (λ r. refl)))),
  )
  amended_ok false k price c = was_ok c

  rehomed_ok : (b c : ℕ) → OkAs (option_map (with_home b) (copy_of H c)) (hold_of H) (rehomed H b (place H c))
  rehomed_ok b c = (
    (λ q. ap (option_map (with_home b)) (inv.somewhere c (rehomed-keeps H (λ p. p ≡ Nowhere → place H c ≡ Nowhere) b (place H c)
        (λ e. e) (λ e. let never : ⊥ = cc in absurd never) q))),
    (λ n q. let at = rehomed-shelf H b (place H c) n q in home (copy_of H c) refl n at.0 at.1),
    (λ h s. inv.of_title c h (rehomed-keeps H (λ p. Serves p h → Serves (place H c) h) b (place H c) (λ t. t) (λ t. absurd t) s)
        ∙ sym (ap (λ y. unwrap_or y 0) (amended-column (λ r. r.title) true (with_home b) (copy_of H c) (λ r. refl)))),
  )
    where
      home : (y : Option CopyFacts) → copy_of H c ≡ y → (n : ℕ) → place H c ≡ Shelf n → b ≡ n → home_in (option_map (with_home b) y) ≡ n
      home (Some r) e n at same = same
      home None e n at same = let nowhere : place H c ≡ Nowhere = loans_ok.unknown c e in let never : ⊥ = cc in absurd never

  rehome_ok : (n b c : ℕ) → OkAs (copy_after (Rehome n b) c (copy_of H c)) (hold_of H) (after (Rehome n b) c)
  rehome_ok n b c = go (n == c) refl
    where
      go : (x : Bool) → (n == c) ≡ x → OkAs (cond x (option_map (with_home b) (copy_of H c)) (copy_of H c)) (hold_of H)
          (elim x as (λ _. Place) [ true ↦ rehomed H b (place H n) | false ↦ place H c ])
      go true d = subst (λ m. OkAs (option_map (with_home b) (copy_of H c)) (hold_of H) (rehomed H b (place H m))) (sym (eqb-true n c d)) (rehomed_ok b c)
      go false d = was_ok c

  -- A hold that a copy serves was placed.
  served_placed : (unplaced : (h : ℕ) → hold_of H h ≡ None → state H h ≡ None) (c h : ℕ) → Serves (place H c) h → h ≤ holds H
  served_placed unplaced c h s = go (hold_of H h) refl
    where
      stated : (p : Place) → Serves p h → Fits (goal_of H) p h (state H h) → state H h ≡ None → ⊥
      stated (HoldShelf g) t f e = let never : ⊥ = cc in never
      stated (Transit b (Some g)) t f e = let waits : state H h ≡ Some Waiting = f.0 in let never : ⊥ = cc in never
      stated (Transit b None) t f e = t
      stated Nowhere t f e = t
      stated (Shelf b) t f e = t
      stated (Loan l) t f e = t
      stated MissingCopy t f e = t
      stated WithdrawnCopy t f e = t

      go : (y : Option HoldFacts) → hold_of H h ≡ y → h ≤ holds H
      go (Some f) e = (loans_ok.made_hold h f e).1
      go None e = absurd (stated (place H c) s (bound.fits c h s) (unplaced h e))

  new_hold_ok : (unplaced : (h : ℕ) → hold_of H h ≡ None → state H h ≡ None) (made : HoldFacts) (c : ℕ)
      → OkAs (copy_of H c) (λ h. hold_after H (Some made) h (hold_of H h)) (place H c)
  new_hold_ok unplaced made c = (inv.somewhere c, inv.at_home c, (λ h s. title_at h s ∙ inv.of_title c h s))
    where
      old : (h : ℕ) → h ≤ holds H → (x : Bool) → (next_hold H == h) ≡ x → x ≡ false
      old h le true d = let same : next_hold H ≡ h = eqb-true _ _ d in absurd (omega (arith, le, same))
      old h le false d = refl

      title_at : (h : ℕ) → Serves (place H c) h → unwrap_or (option_map (λ r. r.title) (hold_after H (Some made) h (hold_of H h))) 0 ≡ title_of_hold H h
      title_at h s = ap (λ x. unwrap_or (option_map (λ r. r.title) (cond x (Some made) (hold_of H h))) 0)
          (old h (served_placed unplaced c h s) (next_hold H == h) refl)

  moved-step : (x : Command) (c : ℕ) → OkAs (copy_after x c (copy_of H c)) (hold_of H) (after x c)
  moved-step (Acquire n t k home price text) c = acquire_ok n t k home price c text
  moved-step (CheckOut p n b) c = moved_ok n c (Loan (next_loan H)) (loan_ok n)
  moved-step (CheckIn n b) c = moved_ok n c (route_by H (place H) (state H) (is_begun H) n b) (routed_ok n b)
  moved-step (Missing n) c = moved_ok n c MissingCopy
      (plain_ok n MissingCopy (λ e. let never : ⊥ = cc in never) (λ m e. let never : ⊥ = cc in never) (λ h s. s))
  moved-step (Withdraw n) c = moved_ok n c WithdrawnCopy
      (plain_ok n WithdrawnCopy (λ e. let never : ⊥ = cc in never) (λ m e. let never : ⊥ = cc in never) (λ h s. s))
  moved-step (CancelHold h) c = let_go_ok h c (place H c) (was_ok c)
  moved-step (Unshelve g) c = unshelved_ok g c
  moved-step (UnshelveCancelled g) c = unshelved_ok g c
  moved-step (AmendCopy n k price) c = amended_ok (n == c) k price c
  moved-step (Rehome n b) c = rehome_ok n b c
  moved-step _ c = was_ok c

  pub place-step : ((h : ℕ) → hold_of H h ≡ None → state H h ≡ None) → (x : Command) (made : Option HoldFacts) → hold_made x ≡ made → (c : ℕ)
      → OkAs (copy_after x c (copy_of H c)) (λ h. hold_after H made h (hold_of H h)) (after x c)
  place-step unplaced x (Some made) e c =
      let still = moves-nothing H x made e in
      rw (still.facts c, still.places c) (new_hold_ok unplaced made c)
  place-step unplaced x None e c = moved-step x c
