-- A copy that moves: the rows of holds, transits and copies afterwards.
use Rattle.std.proofs.Common.{◌≡◌, ℕ, ◌==◌, Bool, true, false, refl, sym, ◌∙◌, ap, subst}
use Rattle.std.specs.Prelude.{Option, Some, None, find}
use Rattle.std.proofs.lemmas.Bool.{eqb-true, eq-eqb}
use Rattle.terms.specs.declared.row.Condition.TheVariants.{Present}
use Rattle.terms.specs.declared.row.HoldRow.{HoldRow}
use Rattle.terms.specs.declared.row.HoldState.{HoldState}
use Rattle.terms.specs.declared.row.HoldState.TheVariants.{Waiting, Ready}
use Rattle.terms.specs.declared.row.TransitRow.{TransitRow}
use Rattle.terms.specs.Pictures.{Picture}
use Rattle.model.specs.History.{History, hold_of, CopyFacts, copy_of, copies}
use Rattle.model.specs.Places.{Place, HoldShelf, place, state, is_kept_for, kept_for, limit, limit_now}
use Rattle.model.specs.Invariant.{Invariant, Serves}
use Rattle.model.specs.Picture.{hold_row, transit_at, condition_at, hold_by}
use Rattle.model.proofs.Moves.{moved}
use Rattle.circ_core.specs.declared.routing.Course.{Course}
use Rattle.circ_core.specs.declared.routing.Course.TheVariants as course
use Rattle.circ_core.specs.Routing.{readied, arrival_rows}
use Rattle.circ_core.specs.Tables.{changed}
use Rattle.circ_core.proofs.Claims.{kept-is}
use Rattle.circ_core.proofs.Rising.{find-same, find-only}
use Rattle.circ_core.proofs.RoutingMeets.{place_by, Suits, Limits}

-- ---- what the rows of an arrival change

-- The row of a hold after a copy arrived for the hold of the course.
abbrev pub ready_put : Course → ℕ → ℕ → Option HoldRow → ℕ → Option HoldRow
ready_put (course.HoldShelf r) copy until x h = elim (r.hold == h) as (λ _. Option HoldRow) [ true ↦ Some (readied r copy until) | false ↦ x ]
ready_put course.Shelf copy until x h = x
ready_put (course.Transit g k) copy until x h = x

-- The row of a transit after a copy was sent on the course.
abbrev pub sent_put : Course → ℕ → Option TransitRow → ℕ → Option TransitRow
sent_put (course.HoldShelf r) copy x c = x
sent_put course.Shelf copy x c = x
sent_put (course.Transit g k) copy x c = elim (copy == c) as (λ _. Option TransitRow) [ true ↦ Some (record { copy = copy; goal = g; hold = k }) | false ↦ x ]

-- An arrival changes the rows of holds and transits, and no others.
pub arrival_changed : (way : Course) (copy until : ℕ) (P : Picture)
    → changed (arrival_rows way copy until) P ≡ record P {
      holds = λ h. ready_put way copy until (P.holds h) h;
      transits = λ c. sent_put way copy (P.transits c) c;
    }
arrival_changed (course.HoldShelf r) copy until P = refl
arrival_changed course.Shelf copy until P = refl
arrival_changed (course.Transit g k) copy until P = refl

-- ---- the rows of holds

module _ (H : History) (inv : Invariant H) (n : ℕ) (f : CopyFacts) (there : copy_of H n ≡ Some f) (q : Place) where
  -- A hold that the copy neither leaves nor reaches has the copy that it had.
  pub kept-other : (k : ℕ) → is_kept_for (place H n) k ≡ false → is_kept_for q k ≡ false
      → find (λ x. is_kept_for (moved n q (place H) x) k) (copies H) ≡ kept_for H k
  kept-other k off e = find-same _ _ (λ x. go x (n == x) refl) (copies H)
    where
      go : (x : ℕ) (y : Bool) → (n == x) ≡ y → is_kept_for (elim y as (λ _. Place) [ true ↦ q | false ↦ place H x ]) k ≡ is_kept_for (place H x) k
      go x true d = subst (λ m. is_kept_for q k ≡ is_kept_for (place H m) k) (eqb-true n x d) (e ∙ sym off)
      go x false d = refl

  -- The waiting hold that the copy reaches has it.
  pub kept-here : (k : ℕ) → q ≡ HoldShelf k → state H k ≡ Some Waiting → find (λ x. is_kept_for (moved n q (place H) x) k) (copies H) ≡ Some n
  kept-here k at waits =
      find-only (λ x. is_kept_for (moved n q (place H) x) k) (copies H) n (inv.acquired n f there).1
      (ap (λ y. is_kept_for (elim y as (λ _. Place) [ true ↦ q | false ↦ place H n ]) k) (eq-eqb n n refl) ∙ ap (λ p. is_kept_for p k) at ∙ eq-eqb k k refl)
      (λ y e. only y (n == y) refl e)
    where
      only : (y : ℕ) (x : Bool) → (n == y) ≡ x → is_kept_for (elim x as (λ _. Place) [ true ↦ q | false ↦ place H y ]) k ≡ true → n ≡ y
      only y true d e = eqb-true n y d
      only y false d e =
          let on : place H y ≡ HoldShelf k = kept-is (place H y) k e in
          let serves : Serves (place H y) k = rw on refl in
          let ready : state H k ≡ Some Ready = rw on at (inv.bound.fits y k serves) in
          let never : ⊥ = cc in absurd never

module _ (H : History) (inv : Invariant H) (n : ℕ) (f : CopyFacts) (there : copy_of H n ≡ Some f) (b until : ℕ) where
  -- The row of a hold after the copy came to a place.
  abbrev pub arrived_row : Place → ℕ → Option HoldRow
  arrived_row q h =
      hold_by h (hold_of H h) (elim (is_kept_for q h) as (λ _. Option HoldState) [ true ↦ Some Ready | false ↦ state H h ])
      (find (λ x. is_kept_for (moved n q (place H) x) h) (copies H)) (elim (is_kept_for q h) as (λ _. Option ℕ) [ true ↦ limit_now H h | false ↦ limit H h ])

  -- The hold that the copy reaches becomes ready, and every other that it doesn't leave stays as it was.
  pub arrive : (way : Course) → Suits H b way → Limits H way until → (h : ℕ) → is_kept_for (place H n) h ≡ false
      → ready_put way n until (hold_row H h) h ≡ arrived_row (place_by way b) h
  arrive (course.HoldShelf r) s l h off = go (r.hold == h) refl
    where
      here : Some (readied r n until) ≡ hold_by r.hold (hold_of H r.hold) (Some Ready)
          (find (λ x. is_kept_for (moved n (HoldShelf r.hold) (place H) x) r.hold) (copies H)) (limit_now H r.hold)
      here =
          ap (λ x. Some (readied x n until)) (sym s.2)
          ∙ sym (ap (λ o. hold_by r.hold o (Some Ready) (Some n) (Some until)) s.1)
          ∙ sym (ap (λ d. hold_by r.hold (hold_of H r.hold) (Some Ready) (Some n) d) l)
          ∙ sym (ap (λ k. hold_by r.hold (hold_of H r.hold) (Some Ready) k (limit_now H r.hold)) (kept-here H inv n f there (HoldShelf r.hold) r.hold refl s.3))

      go : (x : Bool) → (r.hold == h) ≡ x
          → (elim x as (λ _. Option HoldRow) [ true ↦ Some (readied r n until) | false ↦ hold_row H h ])
          ≡ hold_by h (hold_of H h) (elim x as (λ _. Option HoldState) [ true ↦ Some Ready | false ↦ state H h ])
          (find (λ y. is_kept_for (moved n (HoldShelf r.hold) (place H) y) h) (copies H))
          (elim x as (λ _. Option ℕ) [ true ↦ limit_now H h | false ↦ limit H h ])
      go true e =
          subst (λ m. Some (readied r n until) ≡ hold_by m (hold_of H m) (Some Ready)
          (find (λ y. is_kept_for (moved n (HoldShelf r.hold) (place H) y) m) (copies H)) (limit_now H m))
          (eqb-true r.hold h e) here
      go false e = ap (λ k. hold_by h (hold_of H h) (state H h) k (limit H h)) (sym (kept-other H inv n f there (HoldShelf r.hold) h off e))
  arrive course.Shelf s l h off =
      ap (λ k. hold_by h (hold_of H h) (state H h) k (limit H h)) (sym (kept-other H inv n f there (place_by course.Shelf b) h off refl))
  arrive (course.Transit g k) s l h off =
      ap (λ x. hold_by h (hold_of H h) (state H h) x (limit H h))
      (sym (kept-other H inv n f there (place_by (course.Transit g k) b) h off refl))

-- ---- the rows of transits and copies

-- Unless the copy is sent on, its travel is over.
abbrev pub IsOver : Course → Option TransitRow → Type 0
IsOver (course.HoldShelf r) x = x ≡ None
IsOver course.Shelf x = x ≡ None
IsOver (course.Transit g k) x = Unit {0}

pub over : (way : Course) (x : Option TransitRow) → x ≡ None → IsOver way x
over (course.HoldShelf r) x e = e
over course.Shelf x e = e
over (course.Transit g k) x e = tt

module _ (H : History) (n b : ℕ) where
  -- The copy is on its way exactly if the course sends it.
  pub sends : (way : Course) (before : ℕ → Option TransitRow) → IsOver way (before n)
      → ((c : ℕ) → (n == c) ≡ false → before c ≡ transit_at c (place H c)) → (c : ℕ)
      → sent_put way n (before c) c ≡ transit_at c (moved n (place_by way b) (place H) c)
  sends way before left others c = go (n == c) refl way left
    where
      go : (x : Bool) → (n == c) ≡ x → (y : Course) → IsOver y (before n)
          → sent_put y n (before c) c ≡ transit_at c (elim x as (λ _. Place) [ true ↦ place_by y b | false ↦ place H c ])
      go true e (course.HoldShelf r) none = ap before (sym (eqb-true n c e)) ∙ none
      go true e course.Shelf none = ap before (sym (eqb-true n c e)) ∙ none
      go true e (course.Transit g k) free =
          ap (λ x. elim x as (λ _. Option TransitRow) [ true ↦ Some (record { copy = n; goal = g; hold = k }) | false ↦ before c ]) e
          ∙ ap (λ m. Some (record { copy = m; goal = g; hold = k })) (eqb-true n c e)
      go false e (course.HoldShelf r) none = others c e
      go false e course.Shelf none = others c e
      go false e (course.Transit g k) free =
          ap (λ x. elim x as (λ _. Option TransitRow) [ true ↦ Some (record { copy = n; goal = g; hold = k }) | false ↦ before c ]) e ∙ others c e

  pub present_there : (way : Course) → condition_at (place_by way b) ≡ Present
  present_there (course.HoldShelf r) = refl
  present_there course.Shelf = refl
  present_there (course.Transit g k) = refl

  -- A copy that was present stays so.
  pub stays_present : (way : Course) → condition_at (place H n) ≡ Present → (c : ℕ)
      → condition_at (place H c) ≡ condition_at (moved n (place_by way b) (place H) c)
  stays_present way was c = go (n == c) refl
    where
      go : (x : Bool) → (n == c) ≡ x → condition_at (place H c) ≡ condition_at (elim x as (λ _. Place) [ true ↦ place_by way b | false ↦ place H c ])
      go true e = ap (λ m. condition_at (place H m)) (sym (eqb-true n c e)) ∙ was ∙ sym (present_there way)
      go false e = refl
