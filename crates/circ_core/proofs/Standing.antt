-- A copy on a shelf or hold shelf: what its rows say of a check-out.
use Rattle.std.proofs.Common.{◌≡◌, ℕ, ◌==◌, Bool, true, false, not, ◌&&◌, inl, inr, List, ◌∷◌, refl, sym, ◌∙◌, ap, subst}
use Rattle.std.specs.Prelude.{Option, Some, None, option_map, unwrap_or}
use Rattle.std.proofs.lemmas.Bool.{eqb-true}
use Rattle.terms.specs.declared.row.CopyRow.{CopyRow}
use Rattle.terms.specs.declared.row.HoldRow.{HoldRow}
use Rattle.terms.specs.declared.row.HoldState.TheVariants.{Waiting, Ready}
use Rattle.terms.specs.declared.row.Condition.TheVariants.{Present}
use Rattle.circ_core.specs.CheckOut.{stands_at, is_of_other, filled_hold, is_wanted}
use Rattle.circ_core.specs.Views.{IsActiveOn, IsFirstOf, IsHoldOf}
use Rattle.model.specs.Invariant.{Invariant, Serves}
use Rattle.circ_core.proofs.Claims.{IsKept, hold_claims, hold_none, hold_row-from}
use Rattle.circ_core.proofs.FirstInLine.{line_none, line_some}
use Rattle.model.specs.History.{History, HoldFacts, hold_of, CopyFacts, copy_of}
use Rattle.model.specs.Places.{Shelf, HoldShelf, place, state, line, fills, fills_from, fills_first, goal_of, title_of_copy, title_of_hold}
use Rattle.model.specs.Places.{patron_of_hold, is_begun}
use Rattle.model.specs.Refusals.{is_elsewhere, is_kept_for_other, is_wanted_by_other, is_first_other, is_on_hold_shelf}
use Rattle.model.specs.Picture.{picture, hold_row, hold_columns, copy_row, transit_at, condition_at}

-- The hold that this check-out fills.
abbrev pub FillsAs : History → ℕ → ℕ → Option HoldRow → Type 0
FillsAs H p c None = (h : ℕ) → fills H p c h ≡ false
FillsAs H p c (Some q) = ((h : ℕ) → fills H p c h ≡ (q.hold == h)) × IsActiveOn (picture H) p (title_of_copy H c) q.hold × (hold_row H q.hold ≡ Some q)

pub record Standing (H : History) (p c b : ℕ) (copy : Option CopyRow) (hold first : Option HoldRow) : Type 0 where
  pub elsewhere : not (stands_at hold copy == b) ≡ is_elsewhere H b (place H c)
  pub other : is_of_other hold p ≡ is_kept_for_other H p (place H c)
  pub wanted : is_wanted hold first p ≡ is_wanted_by_other H p (line H (title_of_copy H c)) (place H c)
  pub fill : is_kept_for_other H p (place H c) ≡ false → is_wanted_by_other H p (line H (title_of_copy H c)) (place H c) ≡ false
      → FillsAs H p c (filled_hold hold first)
  pub present : condition_at (place H c) ≡ Present
  pub still : transit_at c (place H c) ≡ None

not-false : (x : Bool) → not x ≡ false → x ≡ true
not-false true e = refl
not-false false e = let never : ⊥ = cc in absurd never

module _ (H : History) (inv : Invariant H) (p c b : ℕ) (r : CopyFacts) (there : copy_of H c ≡ Some r)
    (copy : Option CopyRow) (hold first : Option HoldRow) (is_copy : copy ≡ copy_row H c) (is_hold : IsHoldOf (picture H) c hold)
    (is_first : IsFirstOf (picture H) (title_of_copy H c) first) where
  -- ---- on the shelf

  home-is : (n : ℕ) → place H c ≡ Shelf n → stands_at None copy ≡ n
  home-is n at = ap (λ o. stands_at None o) is_copy ∙ go (copy_of H c) there ∙ inv.at_home c n at
    where
      go : (o : Option CopyFacts) → o ≡ Some r
          → stands_at None (option_map (λ f.
          record { copy = c; title = f.title; kind = f.kind; home = f.home; price = f.price; condition = condition_at (place H c) }) o)
          ≡ unwrap_or (option_map (λ f. f.home) o) 0
      go (Some f) e = refl
      go None e = refl

  first_other : (o : Option HoldRow) → IsFirstOf (picture H) (title_of_copy H c) o → is_of_other o p ≡ is_first_other H p (line H (title_of_copy H c))
  first_other None w = sym (ap (λ l. is_first_other H p l) (line_none H inv (title_of_copy H c) w))
  first_other (Some q) w =
      let l : ((hs : List ℕ) × (line H (title_of_copy H c) ≡ q.hold ∷ hs))
      × ((f : HoldFacts) × (hold_of H q.hold ≡ Some f) × (hold_columns H q.hold Waiting f ≡ q)) =
      line_some H inv (title_of_copy H c) q w in
      let patron : patron_of_hold H q.hold ≡ q.patron = ap (λ o. unwrap_or (option_map (λ f. f.patron) o) 0) l.1.1 ∙ ap (λ x. x.patron) l.1.2 in
      ap (λ n. not (n == p)) (sym patron) ∙ sym (ap (λ l. is_first_other H p l) l.0.1)

  shelf_fill : (n : ℕ) → place H c ≡ Shelf n → (o : Option HoldRow) → IsFirstOf (picture H) (title_of_copy H c) o → is_of_other o p ≡ false → FillsAs H p c o
  shelf_fill n at None w e = λ h.
      ap (λ x. fills_from H (place H) (state H) (is_begun H) p c x h) at
      ∙ ap (λ l. fills_first H (place H) (state H) (is_begun H) p l h) (line_none H inv (title_of_copy H c) w)
  shelf_fill n at (Some q) w e =
      let l : ((hs : List ℕ) × (line H (title_of_copy H c) ≡ q.hold ∷ hs))
      × ((f : HoldFacts) × (hold_of H q.hold ≡ Some f) × (hold_columns H q.hold Waiting f ≡ q)) =
      line_some H inv (title_of_copy H c) q w in
      let patron : patron_of_hold H q.hold ≡ q.patron = ap (λ o. unwrap_or (option_map (λ f. f.patron) o) 0) l.1.1 ∙ ap (λ x. x.patron) l.1.2 in
      let own : (q.patron == p) ≡ true = not-false _ e in
      let own' : (patron_of_hold H q.hold == p) ≡ true = ap (λ n. n == p) patron ∙ own in (
        (λ h. ap (λ x. fills_from H (place H) (state H) (is_begun H) p c x h) at
            ∙ ap (λ l. fills_first H (place H) (state H) (is_begun H) p l h) l.0.1 ∙ and_true (q.hold == h) _ own'),
        (q, w.0.there, eqb-true _ _ own, w.0.on_title, inl w.0.waits),
        w.0.there,
      )
    where
      and_true : (x y : Bool) → y ≡ true → (x && y) ≡ x
      and_true true y f = f
      and_true false y f = refl

  on_shelf : (n : ℕ) → place H c ≡ Shelf n → (o : Option HoldRow) → o ≡ None → Standing H p c b copy o first
  on_shelf n at None e = record {
    elsewhere = ap (λ m. not (m == b)) (home-is n at) ∙ sym (ap (λ x. is_elsewhere H b x) at);
    other = sym (ap (λ x. is_kept_for_other H p x) at);
    wanted = first_other first is_first ∙ sym (ap (λ x. is_wanted_by_other H p (line H (title_of_copy H c)) x) at);
    fill = λ _ f. shelf_fill n at first is_first (first_other first is_first ∙ sym (ap (λ x. is_wanted_by_other H p (line H (title_of_copy H c)) x) at) ∙ f);
    present = ap condition_at at;
    still = ap (λ x. transit_at c x) at;
  }
  on_shelf n at (Some q) e = let never : ⊥ = cc in absurd never

  pub standing_shelf : (n : ℕ) → place H c ≡ Shelf n → Standing H p c b copy hold first
  standing_shelf n at = on_shelf n at hold (hold_none H inv c r there hold is_hold (ap is_on_hold_shelf at))

  -- ---- on the hold shelf

  on_hold : (h : ℕ) (q : HoldRow) → IsKept H c h q → (o : Option HoldRow) → o ≡ Some q → Standing H p c b copy o first
  on_hold h q k None e = let never : ⊥ = cc in absurd never
  on_hold h q k (Some x) e =
      let same : x ≡ q = cc in
      let at : place H c ≡ HoldShelf h = k.here in
      let facts : hold_of H h ≡ Some k.facts.0 = k.facts.1 in
      let row : hold_columns H h Ready k.facts.0 ≡ x = k.facts.2 ∙ sym same in
      let number : x.hold ≡ h = ap (λ y. y.hold) (sym row) in
      let branch : goal_of H h ≡ x.branch = ap (λ o. unwrap_or (option_map (λ f. f.branch) o) 0) facts ∙ ap (λ y. y.branch) row in
      let patron : patron_of_hold H h ≡ x.patron = ap (λ o. unwrap_or (option_map (λ f. f.patron) o) 0) facts ∙ ap (λ y. y.patron) row in
      let title : title_of_hold H h ≡ x.title = ap (λ o. unwrap_or (option_map (λ f. f.title) o) 0) facts ∙ ap (λ y. y.title) row in
      let serves : Serves (place H c) h = rw at refl in
      let ready : state H h ≡ Some Ready = rw at at (inv.bound.fits c h serves) in
      let row_is : hold_row H h ≡ Some x = hold_row-from H h Ready k.facts.0 ready facts ∙ ap Some row in
      let row_here : hold_row H x.hold ≡ Some x = subst (λ m. hold_row H m ≡ Some x) (sym number) row_is in
      record {
        elsewhere = ap (λ m. not (m == b)) (sym branch) ∙ sym (ap (λ y. is_elsewhere H b y) at);
        other = ap (λ m. not (m == p)) (sym patron) ∙ sym (ap (λ y. is_kept_for_other H p y) at);
        wanted = sym (ap (λ y. is_wanted_by_other H p (line H (title_of_copy H c)) y) at);
        fill = λ f _.
            let own : (x.patron == p) ≡ true = not-false _ (ap (λ m. not (m == p)) (sym patron) ∙ sym (ap (λ y. is_kept_for_other H p y) at) ∙ f) in (
              (λ g. ap (λ y. fills_from H (place H) (state H) (is_begun H) p c y g) at ∙ ap (λ m. m == g) (sym number)),
              (x, row_here, eqb-true _ _ own, sym title ∙ inv.of_title c h serves, inr (ap (λ y. y.state) (sym row))),
              row_here,
            );
        present = ap condition_at at;
        still = ap (λ y. transit_at c y) at;
      }

  pub standing_hold : (h : ℕ) → place H c ≡ HoldShelf h → Standing H p c b copy hold first
  standing_hold h at =
      let k : (q : HoldRow) × (hold ≡ Some q) × IsKept H c h q = hold_claims H inv c r there hold h is_hold at in
      on_hold h k.0 k.2 hold k.1
