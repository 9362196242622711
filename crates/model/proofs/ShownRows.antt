-- Each list of the desk's questions shows exactly the rows that pass its test.
use Rattle.std.proofs.Common.{◌≡◌, ℕ, zero, suc, ◌+◌, ◌-◌, ◌<◌, ◌≤◌, ◌==◌, Bool, true, false, cond, ◌&&◌, ◌||◌, List, [], ◌∷◌, ◌++◌}
use Rattle.std.proofs.Common.{refl, sym, ◌∙◌, ap, ap₂, subst, arith, length, take, nat_lt}
use Rattle.std.specs.Prelude.{Option, Some, None, is_some, is_none, filter, option_map, option_and_then, unwrap_or, sum_by, codes, decimal}
use Rattle.std.specs.Option.{option_or}
use Rattle.std.specs.List.{list_any}
use Rattle.std.proofs.lemmas.Bool.{eqb-true, eq-eqb, and_parts, ltb-true, lt-ltb}
use Rattle.std.proofs.lemmas.List.Elements.{filter-append}
use Rattle.std.proofs.lemmas.List.Sums.{sum_by-append}
use Rattle.terms.specs.declared.command.Command.{Command}
use Rattle.terms.specs.declared.command.Command.TheVariants.{Acquire, AmendCopy, Rehome}
use Rattle.terms.specs.declared.row.Condition.TheVariants.{Missing}
use Rattle.terms.specs.declared.row.CopyRow.{CopyRow}
use Rattle.terms.specs.declared.row.HoldRow.{HoldRow}
use Rattle.terms.specs.declared.row.HoldState.{HoldState}
use Rattle.terms.specs.declared.row.HoldState.TheVariants.{Waiting, Ready, Filled, Cancelled, Expired}
use Rattle.terms.specs.declared.row.LineRow.{LineRow}
use Rattle.terms.specs.declared.row.LoanRow.{LoanRow}
use Rattle.terms.specs.declared.row.PatronRow.{PatronRow}
use Rattle.terms.specs.declared.row.Sort.{Sort}
use Rattle.terms.specs.declared.row.TitleRow.{TitleRow}
use Rattle.terms.specs.declared.row.TransitRow.{TransitRow}
use Rattle.model.specs.History.{History, numbers_to, today, has_begun, CopyFacts, copy_of, copy_after, copies, copies_after, PatronFacts, with_price, with_home}
use Rattle.model.specs.History.{patron_of, title_of, patrons, loans, HoldFacts, hold_of, holds}
use Rattle.model.specs.Places.{Place, Nowhere, Shelf, HoldShelf, Transit, Loan, MissingCopy, WithdrawnCopy, place, state, line}
use Rattle.model.specs.Places.{is_waiting, patron_of_hold, is_ready, is_bound_for, is_coming, title_of_copy, title_of_hold, goal_of, home_of}
use Rattle.model.specs.Loans.{LoanFacts, is_loan_of_copy, is_loan_of_patron, open_loans, loan_of, due, ended, is_open_loan}
use Rattle.model.specs.Accounts.{Note, Line, lines, nth_line, owed, charges, credits}
use Rattle.model.specs.Asking.{rising, first_of, is_first, is_shelf_of, is_bound_to, pulled_for, is_line_of, missing_copies_list}
use Rattle.model.specs.AskingLaws.{AreRising}
use Rattle.model.specs.Reports.{lending_branch, is_sort, is_made_at, till_sum, till_sum_at}
use Rattle.model.specs.Pages.{spaced, title_text}
use Rattle.model.specs.Picture.{picture, condition_at, transit_at, copy_columns, loan_columns, hold_columns, line_columns, note_columns, note_row, patron_columns}
use Rattle.model.specs.Invariant.{Invariant}
use Rattle.model.specs.Requests.{IsLegal}
use Rattle.model.specs.Laws.{stands_in_line, is_active_state}
use Rattle.model.specs.RowLaws.{IsOpenLoanOf, IsActiveHoldOf, IsMissing, IsLoanOfCopy, missing_copy_words, loan_row_words}
use Rattle.model.specs.Refusals.{is_active, is_missing, active_holds}
use Rattle.model.specs.RowLaws.{IsCopyOf, IsInLineOf, IsLineOf, IsOwing, IsOverdueAt, IsReadyAt, IsBoundTo, IsFirstInLine, IsOnShelf}
use Rattle.model.specs.RowLaws.{IsToPull, if_row, line_rows_below, sum_of_rows, is_noted_at, sum_of_rows_at, ShowsRows, RowsAreShown}
use Rattle.model.proofs.Amending.{amended-is_some}
use Rattle.model.proofs.Members.{has, filter-among, filter-passes, filter-has, numbers-has, or-left}
use Rattle.model.proofs.Bindings.{listed, clash, ready-is}
use Rattle.model.proofs.Line.{in-line, line-in}
use Rattle.model.proofs.Debts.{rising-has, enrolled-has}
use Rattle.model.proofs.Asking.{lists-rise, has-above, rising-rises, rising-filter}
use Rattle.model.proofs.AskedRows.{line-at, take-whole, shelves-are-unclaimed}
use Rattle.model.proofs.ClaimsLaw.{map-some, transit-place, hold-facts}
use Rattle.model.proofs.Invariants.{legal-Invariant}
use Rattle.model.proofs.SettingRanges.{there}
use Rattle.model.proofs.OneEachLaw.{active-test, and-true}
use Rattle.model.proofs.Settings.{told-of, branches-shown, branch-told, closed-days-shown, kinds-shown, kind-told, rules-shown, rule-told}

-- ---- members

pub any-some : (test : ℕ → Bool) (xs : List ℕ) → list_any test xs ≡ true → (c : ℕ) × (test c ≡ true)
any-some test [] e = let never : ⊥ = cc in absurd never
any-some test (x ∷ xs) e = go (any-some test xs) (test x) refl e
  where
    go : (list_any test xs ≡ true → (c : ℕ) × (test c ≡ true)) → (b : Bool) → test x ≡ b → (b || list_any test xs) ≡ true → (c : ℕ) × (test c ≡ true)
    go ih true d r = (x, d)
    go ih false d r = ih r

pub none-is : {A : Type 0} (o : Option A) → is_none o ≡ true → o ≡ None
none-is None e = refl
none-is (Some x) e = let never : ⊥ = cc in absurd never

-- The first of rising numbers is the least.
first-least : (xs : List ℕ) (h : ℕ) → AreRising xs → is_first xs h ≡ true → (has xs h ≡ true) × ((g : ℕ) → has xs g ≡ true → h ≤ g)
first-least [] h r e = let never : ⊥ = cc in absurd never
first-least (x ∷ xs) h r e = (or-left (x == h) _ e, λ g among. go g (x == g) refl among)
  where
    same : x ≡ h
    same = eqb-true x h e

    go : (g : ℕ) → (b : Bool) → (x == g) ≡ b → (b || has xs g) ≡ true → h ≤ g
    go g true d q = let is : x ≡ g = eqb-true x g d in omega (arith, is, same)
    go g false d q = let lt = has-above x g xs r q in omega (arith, lt, same)

least-first : (xs : List ℕ) (h : ℕ) → AreRising xs → has xs h ≡ true → ((g : ℕ) → has xs g ≡ true → h ≤ g) → is_first xs h ≡ true
least-first [] h r e least = let never : ⊥ = cc in absurd never
least-first (x ∷ xs) h r e least = go (x == h) refl e
  where
    go : (b : Bool) → (x == h) ≡ b → (b || has xs h) ≡ true → (x == h) ≡ true
    go true d q = d
    go false d q =
        let lt = has-above x h xs r q in
        let le = least x (or-left (x == x) _ (eq-eqb x x refl)) in
        let never : ⊥ = omega (arith, lt, le) in absurd never

first-of-is : (xs : List ℕ) (c : ℕ) → first_of xs ≡ Some c → is_first xs c ≡ true
first-of-is [] c e = let never : ⊥ = cc in absurd never
first-of-is (x ∷ xs) c e = let same : x ≡ c = cc in eq-eqb x c same

is-first-of : (xs : List ℕ) (c : ℕ) → is_first xs c ≡ true → first_of xs ≡ Some c
is-first-of [] c e = let never : ⊥ = cc in absurd never
is-first-of (x ∷ xs) c e = ap Some (eqb-true x c e)

-- ---- copies

acquired-step : (H : History) (x : Command) (c : ℕ) → (has (copies H) c ≡ true → is_some (copy_of H c) ≡ true)
    → has (copies_after H x (copies H)) c ≡ true → is_some (copy_after x c (copy_of H c)) ≡ true
acquired-step H (Acquire n t kind home price text) c ih e = go (is_none (copy_of H n)) (n == c) refl e
  where
    old : (y : Bool) → is_some (copy_of H c) ≡ true
        → is_some (option_or (copy_of H c) (cond y (Some (record { title = t; kind = kind; home = home; price = price })) None)) ≡ true
    old y made = by (copy_of H c) made
      where
        by : (o : Option CopyFacts) → is_some o ≡ true
            → is_some (option_or o (cond y (Some (record { title = t; kind = kind; home = home; price = price })) None)) ≡ true
        by (Some f) q = refl
        by None q = let never : ⊥ = cc in absurd never

    new : is_some (option_or (copy_of H c) (Some (record { title = t; kind = kind; home = home; price = price }))) ≡ true
    new = by (copy_of H c)
      where
        by : (o : Option CopyFacts) → is_some (option_or o (Some (record { title = t; kind = kind; home = home; price = price }))) ≡ true
        by (Some f) = refl
        by None = refl

    go : (x y : Bool) → (n == c) ≡ y → has (cond x (n ∷ copies H) (copies H)) c ≡ true
        → is_some (option_or (copy_of H c) (cond y (Some (record { title = t; kind = kind; home = home; price = price })) None)) ≡ true
    go x true d r = new
    go true false d r = old false (ih (subst (λ z. (z || has (copies H) c) ≡ true) d r))
    go false false d r = old false (ih r)
acquired-step H (AmendCopy n kind price) c ih e = amended-is_some (n == c) (with_price kind price) (copy_of H c) ∙ ih e
acquired-step H (Rehome n home) c ih e = amended-is_some (n == c) (with_home home) (copy_of H c) ∙ ih e
acquired-step H _ c ih e = ih e

-- A listed copy was acquired.
copies-acquired : (H : History) (c : ℕ) → has (copies H) c ≡ true → is_some (copy_of H c) ≡ true
copies-acquired [] c e = let never : ⊥ = cc in absurd never
copies-acquired (e ∷ H) c f = acquired-step H e.command c (copies-acquired H c) f

-- An acquired copy is listed.
acquired-listed : (H : History) (c : ℕ) (r : CopyFacts) → copy_of H c ≡ Some r → has (copies H) c ≡ true
acquired-listed H c r at = go (has (copies H) c) refl
  where
    go : (b : Bool) → has (copies H) c ≡ b → has (copies H) c ≡ true
    go true e = e
    go false e = absurd (clash _ (eq-eqb c c refl) (listed H (λ g. g == c) c e (ap is_none at)))

-- ---- lines

pub nth-within : (xs : List Line) (n : ℕ) (x : Line) → nth_line xs n ≡ Some x → (1 ≤ n) × (n ≤ length xs)
nth-within [] n x e = let never : ⊥ = cc in absurd never
nth-within (y ∷ ys) zero x e = let never : ⊥ = cc in absurd never
nth-within (y ∷ ys) (suc zero) x e = (omega arith, omega arith)
nth-within (y ∷ ys) (suc (suc n)) x e = let w = nth-within ys (suc n) x e in (omega arith, omega (arith, w.1))

nth-zero : (xs : List Line) → nth_line xs 0 ≡ None
nth-zero [] = refl
nth-zero (x ∷ xs) = refl

module _ (H : History) (legal : IsLegal H) where
  inv : Invariant H
  inv = legal-Invariant H legal

  -- ---- copies and transits

  copies-shown : (t c : ℕ) → has (filter (λ d. title_of_copy H d == t) (rising (copies H))) c ≡ true → IsCopyOf (picture H) t c
  copies-shown t c e =
      let r = there (copy_of H c) (copies-acquired H c (sym (rising-has (copies H) c) ∙ filter-among _ c (rising (copies H)) e)) in
      let title : title_of_copy H c ≡ t = eqb-true _ _ (filter-passes (λ d. title_of_copy H d == t) c (rising (copies H)) e) in (
        copy_columns H c r.0,
        ap (option_map (copy_columns H c)) r.1,
        sym (ap (λ o. unwrap_or (option_map (λ x. x.title) o) 0) r.1) ∙ title,
      )

  copies-back : (t c : ℕ) → IsCopyOf (picture H) t c → has (filter (λ d. title_of_copy H d == t) (rising (copies H))) c ≡ true
  copies-back t c w =
      let r = map-some (copy_columns H c) (copy_of H c) w.0 w.1 in
      let title : title_of_copy H c ≡ t = ap (λ o. unwrap_or (option_map (λ x. x.title) o) 0) r.1 ∙ ap (λ (x : CopyRow). x.title) r.2 ∙ w.2 in
      filter-has (λ d. title_of_copy H d == t) c (rising (copies H)) (eq-eqb _ _ title) (rising-has (copies H) c ∙ acquired-listed H c r.0 r.1)

  -- A copy that is somewhere was acquired.
  somewhere : (c : ℕ) (p : Place) → place H c ≡ p → (p ≡ Nowhere → ⊥) → (r : CopyFacts) × (copy_of H c ≡ Some r)
  somewhere c p at off = go (copy_of H c) refl
    where
      go : (o : Option CopyFacts) → copy_of H c ≡ o → (r : CopyFacts) × (copy_of H c ≡ Some r)
      go (Some r) e = (r, e)
      go None e = absurd (off (sym at ∙ inv.unknown c e))

  bound-to : (b : ℕ) (p : Place) → is_bound_to b p ≡ true → (h : Option ℕ) × (p ≡ Transit b h)
  bound-to b (Transit n h) e = (h, ap (λ m. Transit m h) (eqb-true n b e))
  bound-to b Nowhere e = let never : ⊥ = cc in absurd never
  bound-to b (Shelf n) e = let never : ⊥ = cc in absurd never
  bound-to b (HoldShelf h) e = let never : ⊥ = cc in absurd never
  bound-to b (Loan l) e = let never : ⊥ = cc in absurd never
  bound-to b MissingCopy e = let never : ⊥ = cc in absurd never
  bound-to b WithdrawnCopy e = let never : ⊥ = cc in absurd never

  transits-shown : (b c : ℕ) → has (filter (λ d. is_bound_to b (place H d)) (rising (copies H))) c ≡ true → IsBoundTo (picture H) b c
  transits-shown b c e =
      let at = bound-to b (place H c) (filter-passes (λ d. is_bound_to b (place H d)) c (rising (copies H)) e) in
      (record { copy = c; goal = b; hold = at.0 }, ap (transit_at c) at.1, refl)

  transits-back : (b c : ℕ) → IsBoundTo (picture H) b c → has (filter (λ d. is_bound_to b (place H d)) (rising (copies H))) c ≡ true
  transits-back b c w =
      let at = transit-place c w.0 (place H c) w.1 in
      let r = somewhere c _ at.0 (λ e. let never : ⊥ = cc in never) in
      let test : is_bound_to b (place H c) ≡ true = ap (is_bound_to b) at.0 ∙ eq-eqb _ _ w.2 in
      filter-has (λ d. is_bound_to b (place H d)) c (rising (copies H)) test (rising-has (copies H) c ∙ acquired-listed H c r.0 r.1)

  -- ---- missing copies

  missing-place : (p : Place) → is_missing p ≡ true → p ≡ MissingCopy
  missing-place MissingCopy e = refl
  missing-place Nowhere e = let never : ⊥ = cc in absurd never
  missing-place (Shelf n) e = let never : ⊥ = cc in absurd never
  missing-place (HoldShelf h) e = let never : ⊥ = cc in absurd never
  missing-place (Transit n h) e = let never : ⊥ = cc in absurd never
  missing-place (Loan l) e = let never : ⊥ = cc in absurd never
  missing-place WithdrawnCopy e = let never : ⊥ = cc in absurd never

  missing-condition : (p : Place) → condition_at p ≡ Missing → is_missing p ≡ true
  missing-condition MissingCopy e = refl
  missing-condition Nowhere e = let never : ⊥ = cc in absurd never
  missing-condition (Shelf n) e = let never : ⊥ = cc in absurd never
  missing-condition (HoldShelf h) e = let never : ⊥ = cc in absurd never
  missing-condition (Transit n h) e = let never : ⊥ = cc in absurd never
  missing-condition (Loan l) e = let never : ⊥ = cc in absurd never
  missing-condition WithdrawnCopy e = let never : ⊥ = cc in absurd never

  missing-shown : (c : ℕ) → has (filter (λ d. is_missing (place H d)) (rising (copies H))) c ≡ true → IsMissing (picture H) c
  missing-shown c e =
      let at = missing-place (place H c) (filter-passes (λ d. is_missing (place H d)) c (rising (copies H)) e) in
      let r = somewhere c MissingCopy at (λ q. let never : ⊥ = cc in never) in
      (copy_columns H c r.0, ap (option_map (copy_columns H c)) r.1, ap condition_at at)

  missing-back : (c : ℕ) → IsMissing (picture H) c → has (filter (λ d. is_missing (place H d)) (rising (copies H))) c ≡ true
  missing-back c w =
      let r = map-some (copy_columns H c) (copy_of H c) w.0 w.1 in
      let test : is_missing (place H c) ≡ true = missing-condition (place H c) (ap (λ (x : CopyRow). x.condition) r.2 ∙ w.2) in
      filter-has (λ d. is_missing (place H d)) c (rising (copies H)) test (rising-has (copies H) c ∙ acquired-listed H c r.0 r.1)

  missing-told : (c : ℕ) (r : CopyRow) (x : TitleRow) → (picture H).copies c ≡ Some r → (picture H).titles r.title ≡ Some x
      → (missing_copies_list H).row c ≡ missing_copy_words r x
  missing-told c r x row title =
      let f = map-some (copy_columns H c) (copy_of H c) r row in
      let home : home_of H c ≡ r.home = ap (λ o. unwrap_or (option_map (λ y. y.home) o) 0) f.1 ∙ ap (λ (y : CopyRow). y.home) f.2 in
      let titled : title_of_copy H c ≡ r.title = ap (λ o. unwrap_or (option_map (λ y. y.title) o) 0) f.1 ∙ ap (λ (y : CopyRow). y.title) f.2 in
      let same : c ≡ r.copy = ap (λ (y : CopyRow). y.copy) f.2 in
      let t = map-some (λ y. record { title = r.title; text = y }) (title_of H r.title) x title in
      let number : r.title ≡ x.title = ap (λ (y : TitleRow). y.title) t.2 in
      let text : title_text H r.title ≡ x.text = ap (λ o. unwrap_or o []) t.1 ∙ ap (λ (y : TitleRow). y.text) t.2 in
      (λ i. spaced (codes "copy" ∷ decimal (same i) ∷ codes "home" ∷ decimal (home i) ∷ codes "title" ∷ decimal (titled i) ∷ title_text H (titled i) ∷ []))
      ∙ (λ i. spaced (codes "copy" ∷ decimal r.copy ∷ codes "home" ∷ decimal r.home ∷ codes "title" ∷ decimal (number i) ∷ text i ∷ []))

  -- ---- the loans of a copy

  loan-of-copy : (c l : ℕ) → is_loan_of_copy H l c ≡ true → IsLoanOfCopy (picture H) c l
  loan-of-copy c l e = go (loan_of H l) refl e
    where
      go : (o : Option LoanFacts) → loan_of H l ≡ o → unwrap_or (option_map (λ x. x.copy == c) o) false ≡ true → IsLoanOfCopy (picture H) c l
      go (Some f) at q = (loan_columns H l f, ap (option_map (loan_columns H l)) at, eqb-true f.copy c q)
      go None at q = let never : ⊥ = cc in absurd never

  copy-of-loan : (c l : ℕ) → IsLoanOfCopy (picture H) c l → has (filter (λ k. is_loan_of_copy H k c) (numbers_to (loans H))) l ≡ true
  copy-of-loan c l w =
      let r = map-some (loan_columns H l) (loan_of H l) w.0 w.1 in
      let m = inv.made_loan l r.0 r.1 in
      let own : is_loan_of_copy H l c ≡ true = ap (λ o. unwrap_or (option_map (λ x. x.copy == c) o) false) r.1
      ∙ eq-eqb _ _ (ap (λ (x : LoanRow). x.copy) r.2 ∙ w.2) in
      filter-has (λ k. is_loan_of_copy H k c) l (numbers_to (loans H)) own (numbers-has (loans H) l m.0 m.1)

  -- ---- the queue

  pub bound-for : (h : ℕ) (p : Place) → is_bound_for p h ≡ true → (b : ℕ) × (p ≡ Transit b (Some h))
  bound-for h (Transit b (Some g)) e = (b, ap (λ m. Transit b (Some m)) (eqb-true g h e))
  bound-for h (Transit b None) e = let never : ⊥ = cc in absurd never
  bound-for h Nowhere e = let never : ⊥ = cc in absurd never
  bound-for h (Shelf n) e = let never : ⊥ = cc in absurd never
  bound-for h (HoldShelf g) e = let never : ⊥ = cc in absurd never
  bound-for h (Loan l) e = let never : ⊥ = cc in absurd never
  bound-for h MissingCopy e = let never : ⊥ = cc in absurd never
  bound-for h WithdrawnCopy e = let never : ⊥ = cc in absurd never

  no-transit : (h : ℕ) → is_coming H h ≡ false → (c : ℕ) (x : TransitRow) → (picture H).transits c ≡ Some x → x.hold ≡ Some h → ⊥
  no-transit h off c x row for =
      let at = transit-place c x (place H c) row in
      let goes : place H c ≡ Transit x.goal (Some h) = at.0 ∙ ap (Transit x.goal) for in
      let r = somewhere c _ goes (λ e. let never : ⊥ = cc in never) in
      clash _ (ap (λ p. is_bound_for p h) goes ∙ eq-eqb h h refl) (listed H (λ d. is_bound_for (place H d) h) c off (ap is_none r.1))

  uncoming : (h : ℕ) → ((c : ℕ) (x : TransitRow) → (picture H).transits c ≡ Some x → x.hold ≡ Some h → ⊥) → is_coming H h ≡ false
  uncoming h none = go (is_coming H h) refl
    where
      go : (b : Bool) → is_coming H h ≡ b → is_coming H h ≡ false
      go true e =
          let c = any-some (λ d. is_bound_for (place H d) h) (copies H) e in
          let at = bound-for h (place H c.0) c.1 in
          absurd (none c.0 (record { copy = c.0; goal = at.0; hold = Some h }) (ap (transit_at c.0) at.1) refl)
      go false e = e

  hold-title : (h : ℕ) (f : HoldFacts) → hold_of H h ≡ Some f → title_of_hold H h ≡ f.title
  hold-title h f at = ap (λ o. unwrap_or (option_map (λ r. r.title) o) 0) at

  row-of : (h : ℕ) (s : HoldState) (f : HoldFacts) → state H h ≡ Some s → hold_of H h ≡ Some f → (picture H).holds h ≡ Some (hold_columns H h s f)
  row-of h s f is at = ap (option_and_then (λ t. option_map (hold_columns H h t) (hold_of H h))) is ∙ ap (option_map (hold_columns H h s)) at

  queue-shown : (t h : ℕ) → stands_in_line H t h ≡ true → IsInLineOf (picture H) t h
  queue-shown t h e =
      let stands = in-line H t h e in
      let f = inv.placed h Waiting stands.1.waits.waits in (
        hold_columns H h Waiting f.0,
        record {
          row = row-of h Waiting f.0 stands.1.waits.waits f.1;
          waits = refl;
          begun = sym (ap (λ o. has_begun (today H) (option_and_then (λ r. r.first_day) o)) f.1) ∙ stands.1.begun;
          uncoming = no-transit h stands.1.waits.uncoming;
        },
        sym (hold-title h f.0 f.1) ∙ stands.0,
      )

  queue-back : (t h : ℕ) → IsInLineOf (picture H) t h → stands_in_line H t h ≡ true
  queue-back t h w =
      let q = hold-facts H h w.0 w.1.row in
      let m = inv.made_hold h q.1 q.3 in
      line-in H t h m.0 m.1 (hold-title h q.1 q.3 ∙ ap (λ (x : HoldRow). x.title) q.4 ∙ w.2) (record {
        waits = record {
          waits = q.2 ∙ ap Some (ap (λ (x : HoldRow). x.state) q.4 ∙ w.1.waits);
          uncoming = uncoming h w.1.uncoming;
        };
        begun = ap (λ o. has_begun (today H) (option_and_then (λ r. r.first_day) o)) q.3
            ∙ ap (λ (x : HoldRow). has_begun (today H) x.first_day) q.4 ∙ w.1.begun;
      })

  -- ---- accounts and debts

  line-of : (p n : ℕ) → is_line_of H p n ≡ true → IsLineOf (picture H) p n
  line-of p n e = go (nth_line (lines H) n) refl e
    where
      go : (o : Option Line) → nth_line (lines H) n ≡ o → unwrap_or (option_map (λ x. x.patron == p) o) false ≡ true → IsLineOf (picture H) p n
      go (Some x) at q = (line_columns H n x, ap (option_map (line_columns H n)) at, eqb-true x.patron p q)
      go None at q = let never : ⊥ = cc in absurd never

  account-back : (p n : ℕ) → IsLineOf (picture H) p n → has (filter (is_line_of H p) (numbers_to (length (lines H)))) n ≡ true
  account-back p n w =
      let x = map-some (line_columns H n) (nth_line (lines H) n) w.0 w.1 in
      let m = nth-within (lines H) n x.0 x.1 in
      let own : (x.0.patron == p) ≡ true = eq-eqb _ _ (ap (λ (r : LineRow). r.patron) x.2 ∙ w.2) in
      filter-has (is_line_of H p) n (numbers_to (length (lines H))) (ap (λ o. unwrap_or (option_map (λ y. y.patron == p) o) false) x.1 ∙ own)
      (numbers-has (length (lines H)) n m.0 m.1)

  owing : (p : ℕ) → 0 < owed H p → (r : PatronFacts) × (patron_of H p ≡ Some r)
  owing p lt = go (patron_of H p) refl
    where
      go : (o : Option PatronFacts) → patron_of H p ≡ o → (r : PatronFacts) × (patron_of H p ≡ Some r)
      go (Some r) e = (r, e)
      go None e =
          let none : owed H p ≡ 0 = ap (λ xs. charges xs - credits xs) (inv.strangers p e) in
          let never : ⊥ = omega (arith, lt, none) in absurd never

  debts-shown : (p : ℕ) → has (filter (λ q. nat_lt 0 (owed H q)) (rising (patrons H))) p ≡ true → IsOwing (picture H) p
  debts-shown p e =
      let lt : 0 < owed H p = ltb-true 0 (owed H p) (filter-passes (λ q. nat_lt 0 (owed H q)) p (rising (patrons H)) e) in
      let r = owing p lt in
      (patron_columns H p r.0, ap (option_map (patron_columns H p)) r.1, lt)

  debts-back : (p : ℕ) → IsOwing (picture H) p → has (filter (λ q. nat_lt 0 (owed H q)) (rising (patrons H))) p ≡ true
  debts-back p w =
      let r = map-some (patron_columns H p) (patron_of H p) w.0 w.1 in
      let lt : 0 < owed H p = subst (λ (q : PatronRow). 0 < q.owed) (sym r.2) w.2 in
      filter-has (λ q. nat_lt 0 (owed H q)) p (rising (patrons H)) (lt-ltb 0 (owed H p) lt)
      (rising-has (patrons H) p ∙ enrolled-has H p (ap is_none r.1))

  -- ---- overdue and ready

  overdue-shown : (b l : ℕ) → (is_open_loan H l && ((lending_branch H l == b) && nat_lt (due H l) (today H))) ≡ true → IsOverdueAt (picture H) b l
  overdue-shown b l e =
      let parts = and_parts (is_open_loan H l) _ e in
      let on = and_parts (is_some (loan_of H l)) (is_none (ended H l)) parts.0 in
      let more = and_parts (lending_branch H l == b) (nat_lt (due H l) (today H)) parts.1 in
      let r = there (loan_of H l) on.0 in (
        loan_columns H l r.0,
        ap (option_map (loan_columns H l)) r.1,
        none-is (ended H l) on.1,
        sym (ap (λ o. unwrap_or (option_map (λ x. x.branch) o) 0) r.1) ∙ eqb-true _ _ more.0,
        ltb-true (due H l) (today H) more.1,
      )

  overdue-back : (b l : ℕ) → IsOverdueAt (picture H) b l
      → has (filter (λ k. is_open_loan H k && ((lending_branch H k == b) && nat_lt (due H k) (today H))) (numbers_to (loans H))) l ≡ true
  overdue-back b l w =
      let r = map-some (loan_columns H l) (loan_of H l) w.0 w.1 in
      let m = inv.made_loan l r.0 r.1 in
      let still : ended H l ≡ None = ap (λ (x : LoanRow). x.ended) r.2 ∙ w.2 in
      let branch : lending_branch H l ≡ b = ap (λ o. unwrap_or (option_map (λ x. x.branch) o) 0) r.1 ∙ ap (λ (x : LoanRow). x.branch) r.2 ∙ w.3 in
      let late : due H l < today H = subst (λ (x : LoanRow). x.due < today H) (sym r.2) w.4 in
      filter-has (λ k. is_open_loan H k && ((lending_branch H k == b) && nat_lt (due H k) (today H))) l (numbers_to (loans H))
      (and-true _ _ (and-true _ _ (ap is_some r.1) (ap is_none still)) (and-true _ _ (eq-eqb _ _ branch) (lt-ltb _ _ late)))
      (numbers-has (loans H) l m.0 m.1)

  shelf-shown : (b h : ℕ) → (is_ready (state H h) && (goal_of H h == b)) ≡ true → IsReadyAt (picture H) b h
  shelf-shown b h e =
      let parts = and_parts (is_ready (state H h)) (goal_of H h == b) e in
      let is = ready-is (state H h) parts.0 in
      let f = inv.placed h Ready is in
      (hold_columns H h Ready f.0, row-of h Ready f.0 is f.1, refl, sym (ap (λ o. unwrap_or (option_map (λ r. r.branch) o) 0) f.1) ∙ eqb-true _ _ parts.1)

  shelf-back : (b h : ℕ) → IsReadyAt (picture H) b h → has (filter (λ g. is_ready (state H g) && (goal_of H g == b)) (numbers_to (holds H))) h ≡ true
  shelf-back b h w =
      let q = hold-facts H h w.0 w.1 in
      let m = inv.made_hold h q.1 q.3 in
      let is : state H h ≡ Some Ready = q.2 ∙ ap Some (ap (λ (x : HoldRow). x.state) q.4 ∙ w.2) in
      let branch : goal_of H h ≡ b = ap (λ o. unwrap_or (option_map (λ r. r.branch) o) 0) q.3 ∙ ap (λ (x : HoldRow). x.branch) q.4 ∙ w.3 in
      filter-has (λ g. is_ready (state H g) && (goal_of H g == b)) h (numbers_to (holds H))
      (and-true _ _ (ap is_ready is) (eq-eqb _ _ branch)) (numbers-has (holds H) h m.0 m.1)

  -- ---- pages

  page-loan : (p l : ℕ) → (is_loan_of_patron H p l && is_open_loan H l) ≡ true → IsOpenLoanOf (picture H) p l
  page-loan p l e =
      let parts = and_parts (is_loan_of_patron H p l) (is_open_loan H l) e in
      let on = and_parts (is_some (loan_of H l)) (is_none (ended H l)) parts.1 in
      let r = there (loan_of H l) on.0 in (
        loan_columns H l r.0,
        ap (option_map (loan_columns H l)) r.1,
        eqb-true r.0.patron p (sym (ap (λ o. unwrap_or (option_map (λ x. x.patron == p) o) false) r.1) ∙ parts.0),
        none-is (ended H l) on.1,
      )

  loan-page : (p l : ℕ) → IsOpenLoanOf (picture H) p l → has (open_loans H p) l ≡ true
  loan-page p l w =
      let r = map-some (loan_columns H l) (loan_of H l) w.0 w.1 in
      let m = inv.made_loan l r.0 r.1 in
      let own : is_loan_of_patron H p l ≡ true = ap (λ o. unwrap_or (option_map (λ x. x.patron == p) o) false) r.1
      ∙ eq-eqb _ _ (ap (λ (x : LoanRow). x.patron) r.2 ∙ w.2) in
      let still : ended H l ≡ None = ap (λ (x : LoanRow). x.ended) r.2 ∙ w.3 in
      filter-has (λ k. is_loan_of_patron H p k && is_open_loan H k) l (numbers_to (loans H))
      (and-true _ _ own (and-true _ _ (ap is_some r.1) (ap is_none still))) (numbers-has (loans H) l m.0 m.1)

  pub active-state : (s : Option HoldState) → (is_waiting s || is_ready s) ≡ true → (t : HoldState) × (s ≡ Some t) × (is_active_state t ≡ true)
  active-state (Some Waiting) e = (Waiting, refl, refl)
  active-state (Some Ready) e = (Ready, refl, refl)
  active-state (Some Filled) e = let never : ⊥ = cc in absurd never
  active-state (Some Cancelled) e = let never : ⊥ = cc in absurd never
  active-state (Some Expired) e = let never : ⊥ = cc in absurd never
  active-state None e = let never : ⊥ = cc in absurd never

  page-hold : (p h : ℕ) → ((patron_of_hold H h == p) && is_active H h) ≡ true → IsActiveHoldOf (picture H) p h
  page-hold p h e =
      let parts = and_parts (patron_of_hold H h == p) (is_active H h) e in
      let s = active-state (state H h) parts.1 in
      let r = inv.placed h s.0 s.1 in (
        hold_columns H h s.0 r.0,
        row-of h s.0 r.0 s.1 r.1,
        sym (ap (λ o. unwrap_or (option_map (λ x. x.patron) o) 0) r.1) ∙ eqb-true _ _ parts.0,
        s.2,
      )

  hold-page : (p h : ℕ) → IsActiveHoldOf (picture H) p h → has (active_holds H p) h ≡ true
  hold-page p h w =
      let q = hold-facts H h w.0 w.1 in
      let m = inv.made_hold h q.1 q.3 in
      let own : (patron_of_hold H h == p) ≡ true = eq-eqb _ _ (ap (λ o. unwrap_or (option_map (λ x. x.patron) o) 0) q.3
      ∙ ap (λ (x : HoldRow). x.patron) q.4 ∙ w.2) in
      let on : is_active H h ≡ true = ap (λ s. is_waiting s || is_ready s) q.2
      ∙ active-test q.0 (subst (λ (x : HoldRow). is_active_state x.state ≡ true) (sym q.4) w.3) in
      filter-has (λ g. (patron_of_hold H g == p) && is_active H g) h (numbers_to (holds H)) (and-true _ _ own on) (numbers-has (holds H) h m.0 m.1)

  -- ---- pulls

  shelf-of : (b : ℕ) (p : Place) → is_shelf_of b p ≡ true → p ≡ Shelf b
  shelf-of b (Shelf n) e = ap Shelf (eqb-true n b e)
  shelf-of b Nowhere e = let never : ⊥ = cc in absurd never
  shelf-of b (HoldShelf h) e = let never : ⊥ = cc in absurd never
  shelf-of b (Transit n h) e = let never : ⊥ = cc in absurd never
  shelf-of b (Loan l) e = let never : ⊥ = cc in absurd never
  shelf-of b MissingCopy e = let never : ⊥ = cc in absurd never
  shelf-of b WithdrawnCopy e = let never : ⊥ = cc in absurd never

  abbrev Shelved : ℕ → ℕ → ℕ → Type 0
  Shelved b t c = has (filter (λ d. (title_of_copy H d == t) && is_shelf_of b (place H d)) (rising (copies H))) c ≡ true

  on-shelf : (b t c : ℕ) → Shelved b t c → IsOnShelf (picture H) b t c
  on-shelf b t c e =
      let parts = and_parts (title_of_copy H c == t) (is_shelf_of b (place H c))
      (filter-passes (λ d. (title_of_copy H d == t) && is_shelf_of b (place H d)) c (rising (copies H)) e) in
      let at = shelf-of b (place H c) parts.1 in
      let r = somewhere c (Shelf b) at (λ q. let never : ⊥ = cc in never) in
      let home : home_of H c ≡ b = inv.at_home c b at in
      record {
        row = copy_columns H c r.0;
        there = ap (option_map (copy_columns H c)) r.1;
        title = sym (ap (λ o. unwrap_or (option_map (λ x. x.title) o) 0) r.1) ∙ eqb-true _ _ parts.0;
        home = sym (ap (λ o. unwrap_or (option_map (λ x. x.home) o) 0) r.1) ∙ home;
        unclaimed = (shelves-are-unclaimed H c legal (ap is_some r.1)).0 (at ∙ ap Shelf (sym home));
      }

  shelf-on : (b t c : ℕ) → IsOnShelf (picture H) b t c → Shelved b t c
  shelf-on b t c w =
      let r = map-some (copy_columns H c) (copy_of H c) w.row w.there in
      let at = (shelves-are-unclaimed H c legal (ap is_some r.1)).1 w.unclaimed in
      let home : home_of H c ≡ b = ap (λ o. unwrap_or (option_map (λ x. x.home) o) 0) r.1 ∙ ap (λ (x : CopyRow). x.home) r.2 ∙ w.home in
      let title : title_of_copy H c ≡ t = ap (λ o. unwrap_or (option_map (λ x. x.title) o) 0) r.1 ∙ ap (λ (x : CopyRow). x.title) r.2 ∙ w.title in
      filter-has (λ d. (title_of_copy H d == t) && is_shelf_of b (place H d)) c (rising (copies H))
      (and-true _ _ (eq-eqb _ _ title) (ap (is_shelf_of b) at ∙ eq-eqb _ _ home)) (rising-has (copies H) c ∙ acquired-listed H c r.0 r.1)

  first-in-line : (h : ℕ) → is_first (line H (title_of_hold H h)) h ≡ true → (r : HoldRow) × IsFirstInLine (picture H) h r × (r.title ≡ title_of_hold H h)
  first-in-line h e =
      let least = first-least (line H (title_of_hold H h)) h ((lists-rise H).queue (title_of_hold H h)) e in
      let r = queue-shown (title_of_hold H h) h least.0 in
      (r.0, record { in_line = r.1; first = λ g s stands title. least.1 g (queue-back (title_of_hold H h) g (s, stands, title ∙ r.2)) }, r.2)

  line-first : (h : ℕ) (r : HoldRow) → IsFirstInLine (picture H) h r → (title_of_hold H h ≡ r.title) × (is_first (line H (title_of_hold H h)) h ≡ true)
  line-first h r w =
      let q = hold-facts H h r w.in_line.row in
      let title : title_of_hold H h ≡ r.title = hold-title h q.1 q.3 ∙ ap (λ (x : HoldRow). x.title) q.4 in (
        title,
        least-first (line H (title_of_hold H h)) h ((lists-rise H).queue (title_of_hold H h)) (queue-back (title_of_hold H h) h (r, w.in_line, sym title))
            (λ g among. let s = queue-shown (title_of_hold H h) g among in w.first g s.0 s.1 (s.2 ∙ title)),
      )

  abbrev PullTest : ℕ → ℕ → Bool → Option ℕ
  PullTest b h x = elim x
      [ true ↦ first_of (filter (λ c. (title_of_copy H c == title_of_hold H h) && is_shelf_of b (place H c)) (rising (copies H))) | false ↦ None ]

  shelf-rises : (b t : ℕ) → AreRising (filter (λ d. (title_of_copy H d == t) && is_shelf_of b (place H d)) (rising (copies H)))
  shelf-rises b t = rising-filter _ (rising (copies H)) (rising-rises (copies H))

  pulled-shown : (b h c : ℕ) → pulled_for H b h ≡ Some c → IsToPull (picture H) b h c
  pulled-shown b h c e = go (is_first (line H (title_of_hold H h)) h) refl e
    where
      go : (x : Bool) → is_first (line H (title_of_hold H h)) h ≡ x → PullTest b h x ≡ Some c → IsToPull (picture H) b h c
      go true d q =
          let r = first-in-line h d in
          let least = first-least _ c (shelf-rises b (title_of_hold H h)) (first-of-is _ c q) in
          record {
            row = r.0;
            first = r.1;
            shelved = subst (λ t. IsOnShelf (picture H) b t c) (sym r.2) (on-shelf b (title_of_hold H h) c least.0);
            least = λ k on. least.1 k (shelf-on b (title_of_hold H h) k (subst (λ t. IsOnShelf (picture H) b t k) r.2 on));
          }
      go false d q = let never : ⊥ = cc in absurd never

  pulled-back : (b h c : ℕ) → IsToPull (picture H) b h c → pulled_for H b h ≡ Some c
  pulled-back b h c w =
      let f = line-first h w.row w.first in
      let on = shelf-on b (title_of_hold H h) c (subst (λ t. IsOnShelf (picture H) b t c) (sym f.0) w.shelved) in
      ap (PullTest b h) f.1 ∙ is-first-of _ c (least-first _ c (shelf-rises b (title_of_hold H h)) on
      (λ d among. w.least d (subst (λ t. IsOnShelf (picture H) b t d) f.0 (on-shelf b (title_of_hold H h) d among))))

  pulls-shown : (b h : ℕ) → has (filter (λ g. is_some (pulled_for H b g)) (numbers_to (holds H))) h ≡ true → (c : ℕ) × IsToPull (picture H) b h c
  pulls-shown b h e =
      let c = there (pulled_for H b h) (filter-passes (λ g. is_some (pulled_for H b g)) h (numbers_to (holds H)) e) in
      (c.0, pulled-shown b h c.0 c.1)

  pulls-back : (b h : ℕ) → (c : ℕ) × IsToPull (picture H) b h c → has (filter (λ g. is_some (pulled_for H b g)) (numbers_to (holds H))) h ≡ true
  pulls-back b h w =
      let q = hold-facts H h w.1.row w.1.first.in_line.row in
      let m = inv.made_hold h q.1 q.3 in
      filter-has (λ g. is_some (pulled_for H b g)) h (numbers_to (holds H)) (ap is_some (pulled-back b h w.0 w.1)) (numbers-has (holds H) h m.0 m.1)

  -- ---- the till

  module _ (d : ℕ) (s : Sort) where
    abbrev sum-lines : List Line → ℕ
    sum-lines xs = sum_by (λ x. x.amount) (filter (λ x. (x.day == d) && is_sort x.sort s) xs)

    abbrev sum-rows : List LineRow → ℕ
    sum-rows xs = sum_by (λ x. x.amount) (filter (λ x. (x.day == d) && is_sort x.sort s) xs)

    lines-append : (xs ys : List Line) → sum-lines (xs ++ ys) ≡ sum-lines xs + sum-lines ys
    lines-append xs ys = ap (sum_by (λ x. x.amount)) (filter-append _ xs ys) ∙ sum_by-append (λ x. x.amount) (filter _ xs) (filter _ ys)

    rows-append : (xs ys : List LineRow) → sum-rows (xs ++ ys) ≡ sum-rows xs + sum-rows ys
    rows-append xs ys = ap (sum_by (λ x. x.amount)) (filter-append _ xs ys) ∙ sum_by-append (λ x. x.amount) (filter _ xs) (filter _ ys)

    one-row : (n : ℕ) (x : Line) → sum-rows (line_columns H n x ∷ []) ≡ sum-lines (x ∷ [])
    one-row n x = go ((x.day == d) && is_sort x.sort s)
      where
        go : (b : Bool) → sum_by (λ y. y.amount) (cond b (line_columns H n x ∷ []) []) ≡ sum_by (λ y. y.amount) (cond b (x ∷ []) [])
        go true = refl
        go false = refl

    rows-below : (n : ℕ) → n ≤ length (lines H) → sum-rows (line_rows_below (picture H) (suc n)) ≡ sum-lines (take n (lines H))
    rows-below zero le = ap (λ o. sum-rows (if_row (picture H) (option_map (line_columns H 0) o))) (nth-zero (lines H))
    rows-below (suc k) le =
        let x = line-at (lines H) k (omega (arith, le)) in
        rows-append (line_rows_below (picture H) (suc k)) (if_row (picture H) ((picture H).lines (suc k)))
        ∙ ap₂ (λ a b. a + b) (rows-below k (omega (arith, le)))
        (ap (λ o. sum-rows (if_row (picture H) (option_map (line_columns H (suc k)) o))) x.1 ∙ one-row (suc k) x.0)
        ∙ sym (ap sum-lines x.2 ∙ lines-append (take k (lines H)) (x.0 ∷ []))

    till-shown : till_sum H d s ≡ sum_of_rows (picture H) d s
    till-shown =
        let next : length (lines H) + 1 ≡ suc (length (lines H)) = omega arith in
        sym (ap (λ n. sum-rows (line_rows_below (picture H) n)) next ∙ rows-below (length (lines H)) (omega arith) ∙ ap sum-lines (take-whole (lines H)))

  module _ (b d : ℕ) (s : Sort) where
    abbrev sum-lines-at : List Line → ℕ
    sum-lines-at xs = sum_by (λ x. x.amount) (filter (λ x. (x.day == d) && (is_sort x.sort s && is_made_at b x.note)) xs)

    abbrev sum-rows-at : List LineRow → ℕ
    sum-rows-at xs = sum_by (λ x. x.amount) (filter (λ x. (x.day == d) && (is_sort x.sort s && is_noted_at b (note_row H x.line))) xs)

    lines-append-at : (xs ys : List Line) → sum-lines-at (xs ++ ys) ≡ sum-lines-at xs + sum-lines-at ys
    lines-append-at xs ys = ap (sum_by (λ x. x.amount)) (filter-append _ xs ys) ∙ sum_by-append (λ x. x.amount) (filter _ xs) (filter _ ys)

    rows-append-at : (xs ys : List LineRow) → sum-rows-at (xs ++ ys) ≡ sum-rows-at xs + sum-rows-at ys
    rows-append-at xs ys = ap (sum_by (λ x. x.amount)) (filter-append _ xs ys) ∙ sum_by-append (λ x. x.amount) (filter _ xs) (filter _ ys)

    -- The note of the line says where it was made.
    noted-at : (n : ℕ) (x : Line) → nth_line (lines H) n ≡ Some x → is_noted_at b (note_row H n) ≡ is_made_at b x.note
    noted-at n x at = ap (λ o. is_noted_at b (option_and_then (λ y. option_map (note_columns H n) y.note) o)) at ∙ go x.note
      where
        go : (remark : Option Note) → is_noted_at b (option_map (note_columns H n) remark) ≡ is_made_at b remark
        go (Some k) = refl
        go None = refl

    one-row-at : (n : ℕ) (x : Line) → nth_line (lines H) n ≡ Some x → sum-rows-at (line_columns H n x ∷ []) ≡ sum-lines-at (x ∷ [])
    one-row-at n x at =
        ap (λ c. sum_by (λ (y : LineRow). y.amount) (cond ((x.day == d) && (is_sort x.sort s && c)) (line_columns H n x ∷ []) [])) (noted-at n x at)
        ∙ go ((x.day == d) && (is_sort x.sort s && is_made_at b x.note))
      where
        go : (c : Bool) → sum_by (λ (y : LineRow). y.amount) (cond c (line_columns H n x ∷ []) []) ≡ sum_by (λ (y : Line). y.amount) (cond c (x ∷ []) [])
        go true = refl
        go false = refl

    rows-below-at : (n : ℕ) → n ≤ length (lines H) → sum-rows-at (line_rows_below (picture H) (suc n)) ≡ sum-lines-at (take n (lines H))
    rows-below-at zero le = ap (λ o. sum-rows-at (if_row (picture H) (option_map (line_columns H 0) o))) (nth-zero (lines H))
    rows-below-at (suc k) le =
        let x = line-at (lines H) k (omega (arith, le)) in
        rows-append-at (line_rows_below (picture H) (suc k)) (if_row (picture H) ((picture H).lines (suc k)))
        ∙ ap₂ (λ a c. a + c) (rows-below-at k (omega (arith, le)))
        (ap (λ o. sum-rows-at (if_row (picture H) (option_map (line_columns H (suc k)) o))) x.1 ∙ one-row-at (suc k) x.0 x.1)
        ∙ sym (ap sum-lines-at x.2 ∙ lines-append-at (take k (lines H)) (x.0 ∷ []))

    till-at-shown : till_sum_at H b d s ≡ sum_of_rows_at (picture H) b d s
    till-at-shown =
        let next : length (lines H) + 1 ≡ suc (length (lines H)) = omega arith in
        sym (ap (λ n. sum-rows-at (line_rows_below (picture H) n)) next ∙ rows-below-at (length (lines H)) (omega arith)
        ∙ ap sum-lines-at (take-whole (lines H)))

  shows-rows : ShowsRows H (picture H)
  shows-rows = record {
    copies = λ t c. (copies-shown t c, copies-back t c);
    queue = λ t h. (queue-shown t h, queue-back t h);
    account = λ p n. ((λ e. line-of p n (filter-passes (is_line_of H p) n (numbers_to (length (lines H))) e)), account-back p n);
    debts = λ p. (debts-shown p, debts-back p);
    overdue = λ b l. (
      (λ e. overdue-shown b l (filter-passes (λ k. is_open_loan H k && ((lending_branch H k == b) && nat_lt (due H k) (today H))) l (numbers_to (loans H)) e)),
      overdue-back b l,
    );
    shelf = λ b h. ((λ e. shelf-shown b h (filter-passes (λ g. is_ready (state H g) && (goal_of H g == b)) h (numbers_to (holds H)) e)), shelf-back b h);
    pulls = λ b h. (pulls-shown b h, pulls-back b h);
    pulled = λ b h c. (pulled-shown b h c, pulled-back b h c);
    transits = λ b c. (transits-shown b c, transits-back b c);
    page_loans = λ p l. ((λ e. page-loan p l (filter-passes (λ k. is_loan_of_patron H p k && is_open_loan H k) l (numbers_to (loans H)) e)), loan-page p l);
    page_holds = λ p h. ((λ e. page-hold p h (filter-passes (λ g. (patron_of_hold H g == p) && is_active H g) h (numbers_to (holds H)) e)), hold-page p h);
    till = till-shown;
    till_at = till-at-shown;
    branches = branches-shown H;
    branch_rows = branch-told H;
    closed_days = closed-days-shown H;
    kinds = kinds-shown H;
    kind_rows = kind-told H;
    rules = rules-shown H;
    rule_rows = rule-told H;
    missing_copies = λ c. (missing-shown c, missing-back c);
    missing_copy_rows = missing-told;
    loans = λ c l. ((λ e. loan-of-copy c l (filter-passes (λ k. is_loan_of_copy H k c) l (numbers_to (loans H)) e)), copy-of-loan c l);
    loan_rows = λ c l r there. told-of (loan_columns H l) loan_row_words (loan_of H l) r there;
  }

pub rows-are-shown : RowsAreShown
rows-are-shown = shows-rows
