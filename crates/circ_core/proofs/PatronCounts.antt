-- What the counts of a patron's open loans and active holds say.
use Rattle.model.specs.Sights.{sight}
use Rattle.std.proofs.Common.{◌≡◌, ℕ, suc, ◌≤◌, ◌==◌, nat_lt, Bool, true, false, not, ◌&&◌, ◌||◌, ◌⊎◌, inl, inr, List, [], ◌∷◌, length}
use Rattle.std.proofs.Common.{refl, sym, ◌∙◌, ap, subst, arith}
use Rattle.std.specs.Prelude.{Option, Some, None, option_map, unwrap_or, is_some, is_none}
use Rattle.std.specs.List.{list_any, IsDistinct}
use Rattle.std.proofs.lemmas.Bool.{eqb-true, eq-eqb, and_parts, and_from, false_from_ne_true, lt-ltb}
use Rattle.terms.specs.declared.row.LoanRow.{LoanRow}
use Rattle.terms.specs.declared.row.HoldState.{HoldState}
use Rattle.terms.specs.declared.row.HoldState.TheVariants.{Waiting, Ready, Filled, Cancelled, Expired}
use Rattle.circ_core.specs.Views.{IsCount, IsOpenBy, IsActiveBy, IsActiveOn, IsLoanOfTitle}
use Rattle.model.specs.Invariant.{Invariant}
use Rattle.circ_core.proofs.Rows.{is_none-None, option_map-is}
use Rattle.circ_core.proofs.Lenders.{lent_copy-there}
use Rattle.circ_core.proofs.Counts.{any_filter-some, any_filter-from, numbers_to-has, count-length}
use Rattle.circ_core.proofs.Claims.{loan_row-is, hold_row-is, hold_row-from}
use Rattle.model.specs.History.{History, CopyFacts, copy_of, HoldFacts, hold_of, holds, numbers_to, loans}
use Rattle.model.specs.Places.{is_waiting, is_ready, state, title_of_copy, title_of_hold, patron_of_hold}
use Rattle.model.specs.Loans.{LoanFacts, loan_of, ended, is_loan_of_patron, is_open_loan, open_loans, title_of_loan, has_on_loan}
use Rattle.model.specs.Refusals.{is_active, active_holds, has_hold_on}
use Rattle.model.specs.Picture.{picture, copy_columns, loan_columns, hold_columns}

active-is : (s : Option HoldState) → (is_waiting s || is_ready s) ≡ true → (x : HoldState) × (s ≡ Some x) × ((x ≡ Waiting) ⊎ (x ≡ Ready))
active-is (Some Waiting) e = (Waiting, refl, inl refl)
active-is (Some Ready) e = (Ready, refl, inr refl)
active-is (Some Filled) e = let never : ⊥ = cc in absurd never
active-is (Some Cancelled) e = let never : ⊥ = cc in absurd never
active-is (Some Expired) e = let never : ⊥ = cc in absurd never
active-is None e = let never : ⊥ = cc in absurd never

is-active : (x : HoldState) → (x ≡ Waiting) ⊎ (x ≡ Ready) → (is_waiting (Some x) || is_ready (Some x)) ≡ true
is-active x (inl e) = rw e refl
is-active x (inr e) = rw e refl

module _ (H : History) (inv : Invariant H) (p : ℕ) where
  -- ---- open loans

  abbrev opens_loan : ℕ → Bool
  opens_loan l = is_loan_of_patron H p l && is_open_loan H l

  pub loan-to : (l : ℕ) → IsOpenBy (picture H) p l → (opens_loan l ≡ true) × (1 ≤ l) × (l ≤ loans H)
  loan-to l w =
      let is : (r : LoanFacts) × (loan_of H l ≡ Some r) × (loan_columns H l r ≡ w.0) = loan_row-is H l w.0 w.1 in
      let own : is.0.patron ≡ p = ap (λ x. x.patron) is.2 ∙ w.2 in
      let still : ended H l ≡ None = ap (λ x. x.ended) is.2 ∙ w.3 in (
        and_from _ _ (ap (λ o. unwrap_or (option_map (λ r. r.patron == p) o) false) is.1 ∙ eq-eqb _ _ own) (and_from _ _ (ap is_some is.1) (ap is_none still)),
        (inv.made_loan l is.0 is.1).0,
        (inv.made_loan l is.0 is.1).1,
      )

  pub loan-from : (l : ℕ) → opens_loan l ≡ true → IsOpenBy (picture H) p l
  loan-from l e =
      let parts : (is_loan_of_patron H p l ≡ true) × (is_open_loan H l ≡ true) = and_parts _ _ e in
      let more : (is_some (loan_of H l) ≡ true) × (is_none (ended H l) ≡ true) = and_parts _ _ parts.1 in
      go (loan_of H l) refl parts.0 (is_none-None (ended H l) more.1)
    where
      go : (o : Option LoanFacts) → loan_of H l ≡ o → unwrap_or (option_map (λ r. r.patron == p) o) false ≡ true → ended H l ≡ None → IsOpenBy (picture H) p l
      go (Some r) q f none = (loan_columns H l r, ap (λ o. option_map (loan_columns H l) o) q, eqb-true _ _ f, none)
      go None q f none = let never : ⊥ = cc in absurd never

  pub open_loans-count : (n : ℕ) → IsCount (IsOpenBy (picture H) p) n → n ≡ length (open_loans H p)
  open_loans-count n w = count-length (IsOpenBy (picture H) p) opens_loan (loans H) n loan-to loan-from w

  -- ---- active holds on a title

  abbrev is_own_hold : ℕ → Bool
  is_own_hold h = (patron_of_hold H h == p) && is_active H h

  hold-to : (t h : ℕ) → IsActiveOn (picture H) p t h → (is_own_hold h ≡ true) × ((title_of_hold H h == t) ≡ true) × (1 ≤ h) × (h ≤ holds H)
  hold-to t h w =
      let is : (s : HoldState) × (f : HoldFacts) × (state H h ≡ Some s) × (hold_of H h ≡ Some f) × (hold_columns H h s f ≡ w.0) = hold_row-is H h w.0 w.1 in
      let own : patron_of_hold H h ≡ p = ap (λ o. unwrap_or (option_map (λ r. r.patron) o) 0) is.3 ∙ ap (λ x. x.patron) is.4 ∙ w.2 in
      let title : title_of_hold H h ≡ t = ap (λ o. unwrap_or (option_map (λ r. r.title) o) 0) is.3 ∙ ap (λ x. x.title) is.4 ∙ w.3 in
      let same : is.0 ≡ w.0.state = ap (λ x. x.state) is.4 in
      let active : is_active H h ≡ true = ap (λ o. is_waiting o || is_ready o) (is.2 ∙ ap Some same) ∙ is-active w.0.state w.4 in
      (and_from _ _ (eq-eqb _ _ own) active, eq-eqb _ _ title, (inv.made_hold h is.1 is.3).0, (inv.made_hold h is.1 is.3).1)

  hold-from : (t h : ℕ) → is_own_hold h ≡ true → (title_of_hold H h == t) ≡ true → IsActiveOn (picture H) p t h
  hold-from t h e title =
      let parts : ((patron_of_hold H h == p) ≡ true) × (is_active H h ≡ true) = and_parts _ _ e in
      let s : (x : HoldState) × (state H h ≡ Some x) × ((x ≡ Waiting) ⊎ (x ≡ Ready)) = active-is (state H h) parts.1 in
      let f : (r : HoldFacts) × (hold_of H h ≡ Some r) = inv.placed h s.0 s.1 in (
        hold_columns H h s.0 f.0,
        hold_row-from H h s.0 f.0 s.1 f.1,
        ap (λ o. unwrap_or (option_map (λ r. r.patron) o) 0) (sym f.1) ∙ eqb-true _ _ parts.0,
        ap (λ o. unwrap_or (option_map (λ r. r.title) o) 0) (sym f.1) ∙ eqb-true _ _ title,
        s.2,
      )

  -- ---- active holds, and open loans of a title

  -- A hold of the title is one too many.
  pub holds-some : (t n : ℕ) → IsCount (IsActiveOn (picture H) p t) n → nat_lt 0 n ≡ has_hold_on H (sight H) p t
  holds-some t n w = ap (λ k. nat_lt 0 k) (sym w.count) ∙ go w.keys w.sound w.whole
    where
      go : (ks : List ℕ) → ((k : ℕ) → list_any (λ y. k == y) ks ≡ true → IsActiveOn (picture H) p t k)
          → ((k : ℕ) → IsActiveOn (picture H) p t k → list_any (λ y. k == y) ks ≡ true)
          → nat_lt 0 (length ks) ≡ has_hold_on H (sight H) p t
      go [] sound whole = sym (false_from_ne_true _ (λ e.
          let who : (h : ℕ) × (is_own_hold h ≡ true) × ((title_of_hold H h == t) ≡ true) =
          any_filter-some is_own_hold (λ h. title_of_hold H h == t) (numbers_to (holds H)) e in
          let has : list_any (λ y. who.0 == y) [] ≡ true = whole who.0 (hold-from t who.0 who.1 who.2) in let never : ⊥ = cc in never))
      go (k ∷ ks) sound whole =
          let q : (is_own_hold k ≡ true) × ((title_of_hold H k == t) ≡ true) × (1 ≤ k) × (k ≤ holds H) = hold-to t k (sound k (rw (eq-eqb k k refl) refl)) in
          lt-ltb 0 (suc (length ks)) (omega arith)
          ∙ sym (any_filter-from is_own_hold (λ h. title_of_hold H h == t) (numbers_to (holds H)) k (numbers_to-has (holds H) k q.2 q.3) q.0 q.1)

  pub active-to : (h : ℕ) → IsActiveBy (picture H) p h → (is_own_hold h ≡ true) × (1 ≤ h) × (h ≤ holds H)
  active-to h w =
      let q : (is_own_hold h ≡ true) × ((title_of_hold H h == w.0.title) ≡ true) × (1 ≤ h) × (h ≤ holds H) = hold-to w.0.title h (w.0, w.1, w.2, refl, w.3) in
      (q.0, q.2, q.3)

  pub active-from : (h : ℕ) → is_own_hold h ≡ true → IsActiveBy (picture H) p h
  active-from h e =
      let w : IsActiveOn (picture H) p (title_of_hold H h) h = hold-from (title_of_hold H h) h e (eq-eqb _ _ refl) in
      (w.0, w.1, w.2, w.4)

  pub active_holds-count : (n : ℕ) → IsCount (IsActiveBy (picture H) p) n → n ≡ length (active_holds H p)
  active_holds-count n w = count-length (IsActiveBy (picture H) p) is_own_hold (holds H) n active-to active-from w

  -- An open loan of the title is found exactly if there is one.
  pub loan-of_title : (t : ℕ) (o : Option LoanRow) → IsLoanOfTitle (picture H) p t o → is_some o ≡ has_on_loan H p t
  loan-of_title t (Some row) w =
      let at : (opens_loan row.loan ≡ true) × (1 ≤ row.loan) × (row.loan ≤ loans H) = loan-to row.loan (row, w.0, w.1.by, w.1.unended) in
      let is : (r : LoanFacts) × (loan_of H row.loan ≡ Some r) × (loan_columns H row.loan r ≡ row) = loan_row-is H row.loan row w.0 in
      let x : (x : CopyFacts) × (copy_of H row.copy ≡ Some x) × (copy_columns H row.copy x ≡ w.1.copy) =
      option_map-is (copy_columns H row.copy) (copy_of H row.copy) w.1.copy w.1.lent in
      let title : title_of_loan H row.loan ≡ t =
      ap (λ o. unwrap_or (option_map (λ r. title_of_copy H r.copy) o) 0) is.1 ∙ ap (λ y. title_of_copy H y.copy) is.2
      ∙ ap (λ o. unwrap_or (option_map (λ y. y.title) o) 0) x.1 ∙ ap (λ y. y.title) x.2 ∙ w.1.of_title in
      sym (any_filter-from opens_loan (λ l. title_of_loan H l == t) (numbers_to (loans H)) row.loan
      (numbers_to-has (loans H) row.loan at.1 at.2) at.0 (eq-eqb _ _ title))
  loan-of_title t None w = sym (false_from_ne_true _ (λ e.
      let who : (l : ℕ) × (opens_loan l ≡ true) × ((title_of_loan H l == t) ≡ true) =
      any_filter-some opens_loan (λ l. title_of_loan H l == t) (numbers_to (loans H)) e in
      let open_one : IsOpenBy (picture H) p who.0 = loan-from who.0 who.1 in
      let is : (r : LoanFacts) × (loan_of H who.0 ≡ Some r) × (loan_columns H who.0 r ≡ open_one.0) = loan_row-is H who.0 open_one.0 open_one.1 in
      let still : ended H who.0 ≡ None = ap (λ y. y.ended) is.2 ∙ open_one.3 in
      let x : (x : CopyFacts) × (copy_of H is.0.copy ≡ Some x) = lent_copy-there H inv who.0 is.0 is.1 still in
      let title : title_of_loan H who.0 ≡ x.0.title =
      ap (λ o. unwrap_or (option_map (λ r. title_of_copy H r.copy) o) 0) is.1 ∙ ap (λ o. unwrap_or (option_map (λ y. y.title) o) 0) x.1 in
      w who.0 open_one.0 open_one.1 (record {
        by = open_one.2;
        unended = open_one.3;
        copy = copy_columns H is.0.copy x.0;
        lent = subst (λ n. (picture H).copies n ≡ Some (copy_columns H is.0.copy x.0)) (ap (λ y. y.copy) is.2) (ap (option_map (copy_columns H is.0.copy)) x.1);
        of_title = sym title ∙ eqb-true _ _ who.2;
      })))

  module _ (t : ℕ) (fills : ℕ → Bool) where
    abbrev is_other_hold : ℕ → Bool
    is_other_hold h = (title_of_hold H h == t) && not (fills h)

    other-from : (h : ℕ) → IsActiveOn (picture H) p t h → fills h ≡ false → list_any is_other_hold (active_holds H p) ≡ true
    other-from h w e =
        let q : (is_own_hold h ≡ true) × ((title_of_hold H h == t) ≡ true) × (1 ≤ h) × (h ≤ holds H) = hold-to t h w in
        any_filter-from is_own_hold is_other_hold (numbers_to (holds H)) h (numbers_to-has (holds H) h q.2 q.3) q.0 (and_from _ _ q.1 (ap not e))

    not-true : (b : Bool) → not b ≡ true → b ≡ false
    not-true true e = let never : ⊥ = cc in absurd never
    not-true false e = refl

    other-is : list_any is_other_hold (active_holds H p) ≡ true → (h : ℕ) × IsActiveOn (picture H) p t h × (fills h ≡ false)
    other-is e =
        let who : (h : ℕ) × (is_own_hold h ≡ true) × (is_other_hold h ≡ true) = any_filter-some is_own_hold is_other_hold (numbers_to (holds H)) e in
        let parts : ((title_of_hold H who.0 == t) ≡ true) × (not (fills who.0) ≡ true) = and_parts _ _ who.2 in
        (who.0, hold-from t who.0 who.1 parts.0, not-true _ parts.1)

    -- With nothing to fill, one hold is one too many.
    pub others_none : (n : ℕ) → IsCount (IsActiveOn (picture H) p t) n → ((h : ℕ) → fills h ≡ false) → nat_lt 0 n ≡ list_any is_other_hold (active_holds H p)
    others_none n w off = ap (λ k. nat_lt 0 k) (sym w.count) ∙ go w.keys w.sound w.whole
      where
        go : (ks : List ℕ) → ((k : ℕ) → list_any (λ y. k == y) ks ≡ true → IsActiveOn (picture H) p t k)
            → ((k : ℕ) → IsActiveOn (picture H) p t k → list_any (λ y. k == y) ks ≡ true)
            → nat_lt 0 (length ks) ≡ list_any is_other_hold (active_holds H p)
        go [] sound whole = sym (false_from_ne_true _ (λ e.
            let o : (h : ℕ) × IsActiveOn (picture H) p t h × (fills h ≡ false) = other-is e in
            let has : list_any (λ y. o.0 == y) [] ≡ true = whole o.0 o.1 in let never : ⊥ = cc in never))
        go (k ∷ ks) sound whole = lt-ltb 0 (suc (length ks)) (omega arith) ∙ sym (other-from k (sound k (rw (eq-eqb k k refl) refl)) (off k))

    -- Beside the one that is filled, a second is one too many.
    pub others_one : (n g : ℕ) → IsCount (IsActiveOn (picture H) p t) n → IsActiveOn (picture H) p t g → ((h : ℕ) → fills h ≡ (g == h))
        → nat_lt 1 n ≡ list_any is_other_hold (active_holds H p)
    unfolding IsDistinct
    others_one n g w own only = ap (λ k. nat_lt 1 k) (sym w.count) ∙ go w.keys w.once w.sound w.whole
      where
        or_false : (x y : Bool) → (x || y) ≡ true → y ≡ false → x ≡ true
        or_false true y e f = refl
        or_false false y e f = let never : ⊥ = cc in absurd never

        alone : (k h : ℕ) → list_any (λ y. h == y) (k ∷ []) ≡ true → h ≡ k
        alone k h e = eqb-true h k (or_false (h == k) false e refl)

        ne : (a b : ℕ) → (g == a) ≡ true → (a == b) ≡ false → (g == b) ≡ false
        ne a b e f = let same : g ≡ a = eqb-true g a e in rw same f

        two : (k j : ℕ) → IsActiveOn (picture H) p t k → IsActiveOn (picture H) p t j → (k == j) ≡ false → (b : Bool) → (g == k) ≡ b
            → list_any is_other_hold (active_holds H p) ≡ true
        two k j a b e true q = other-from j b (only j ∙ ne k j q e)
        two k j a b e false q = other-from k a (only k ∙ q)

        go : (ks : List ℕ) → IsDistinct ◌==◌ ks → ((k : ℕ) → list_any (λ y. k == y) ks ≡ true → IsActiveOn (picture H) p t k)
            → ((k : ℕ) → IsActiveOn (picture H) p t k → list_any (λ y. k == y) ks ≡ true)
            → nat_lt 1 (length ks) ≡ list_any is_other_hold (active_holds H p)
        go [] once sound whole = let has : list_any (λ y. g == y) [] ≡ true = whole g own in let never : ⊥ = cc in absurd never
        go (k ∷ []) once sound whole = sym (false_from_ne_true _ (λ e.
            let o : (h : ℕ) × IsActiveOn (picture H) p t h × (fills h ≡ false) = other-is e in
            let a : o.0 ≡ k = alone k o.0 (whole o.0 o.1) in
            let b : g ≡ k = alone k g (whole g own) in
            let q : (g == o.0) ≡ true = eq-eqb g o.0 (b ∙ sym a) in
            let r : (g == o.0) ≡ false = sym (only o.0) ∙ o.2 in let never : ⊥ = cc in never))
        go (k ∷ j ∷ ks) once sound whole =
            let here : list_any (λ y. k == y) (k ∷ j ∷ ks) ≡ true = rw (eq-eqb k k refl) refl in
            let next : list_any (λ y. j == y) (k ∷ j ∷ ks) ≡ true = go2 (j == k) in
            lt-ltb 1 (suc (suc (length ks))) (omega arith) ∙ sym (two k j (sound k here) (sound j next) once.0.0 (g == k) refl)
          where
            go2 : (b : Bool) → (b || ((j == j) || list_any (λ y. j == y) ks)) ≡ true
            go2 true = refl
            go2 false = rw (eq-eqb j j refl) refl
