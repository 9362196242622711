-- The readers of a title are the patrons of its open loans and active holds.
use Rattle.std.proofs.Common.{◌≡◌, ℕ, zero, suc, ◌<◌, ◌==◌, Bool, true, false, ◌||◌, ◌⊎◌, inl, inr, List, [], ◌∷◌, ◌++◌, map, refl, sym, ◌∙◌, ap, subst, arith}
use Rattle.std.specs.Prelude.{Option, Some, None}
use Rattle.std.specs.List.{list_any, Contains}
use Rattle.std.proofs.lemmas.Bool.{eq-eqb, eqb-true}
use Rattle.std.proofs.lemmas.List.Folds.{list_any-append}
use Rattle.terms.specs.declared.command.Command.{Command}
use Rattle.terms.specs.declared.command.Command.TheVariants.{AmendTitle}
use Rattle.terms.specs.declared.row.CopyRow.{CopyRow}
use Rattle.terms.specs.declared.row.LoanRow.{LoanRow}
use Rattle.terms.specs.declared.row.HoldRow.{HoldRow}
use Rattle.terms.specs.declared.row.HoldState.{HoldState}
use Rattle.terms.specs.declared.row.HoldState.TheVariants.{Waiting, Ready, Filled, Cancelled, Expired}
use Rattle.circ_core.specs.Views.{IsLoanOf}
use Rattle.circ_core.proofs.Claims.{loan_row-is}
use Rattle.store.specs.Lists.{AreCopiesOf, AreHoldsOn}
use Rattle.model.specs.History.{History}
use Rattle.model.specs.Invariant.{Invariant}
use Rattle.model.specs.Laws.{is_active_state}
use Rattle.model.specs.Picture.{picture}
use Rattle.model.specs.Places.{Loan, place}
use Rattle.model.proofs.SettingRanges.{some-same}
use Rattle.desk.specs.Touching.{IsAmong, Adds, AreExactly, HasLoanOf, HasLoanAmong, IsReader, IsReaderFor, borrower_of}
use Rattle.desk.proofs.ListBatches.{copy-number}

-- ---- lists

or-left : (x y : Bool) → x ≡ true → (x || y) ≡ true
or-left true y e = refl
or-left false y e = let never : ⊥ = cc in absurd never

or-right : (x y : Bool) → y ≡ true → (x || y) ≡ true
or-right true y e = refl
or-right false y e = e

or-either : (x y : Bool) → (x || y) ≡ true → (x ≡ true) ⊎ (y ≡ true)
or-either true y e = inl refl
or-either false y e = inr e

pub among-first : (xs ys : List ℕ) (p : ℕ) → IsAmong xs p → IsAmong (xs ++ ys) p
among-first xs ys p e = list_any-append (λ q. q == p) xs ys ∙ or-left (list_any (λ q. q == p) xs) (list_any (λ q. q == p) ys) e

pub among-last : (xs ys : List ℕ) (p : ℕ) → IsAmong ys p → IsAmong (xs ++ ys) p
among-last xs ys p e = list_any-append (λ q. q == p) xs ys ∙ or-right (list_any (λ q. q == p) xs) (list_any (λ q. q == p) ys) e

pub among-either : (xs ys : List ℕ) (p : ℕ) → IsAmong (xs ++ ys) p → IsAmong xs p ⊎ IsAmong ys p
among-either xs ys p e =
    or-either (list_any (λ q. q == p) xs) (list_any (λ q. q == p) ys) (sym (list_any-append (λ q. q == p) xs ys) ∙ e)

pub among-none : {A : Type 0} (p : ℕ) → IsAmong [] p → A
among-none p e = let never : ⊥ = cc in absurd never

among-one : (q p : ℕ) → q ≡ p → IsAmong (q ∷ []) p
among-one q p same = or-left (q == p) false (eq-eqb q p same)

one-among : (q p : ℕ) → IsAmong (q ∷ []) p → q ≡ p
one-among q p e = go (or-either (q == p) false e)
  where
    go : ((q == p) ≡ true) ⊎ (false ≡ true) → q ≡ p
    go (inl here) = eqb-true q p here
    go (inr e) = let never : ⊥ = cc in absurd never

-- ---- patrons who are added

pub adds-none : (Is : ℕ → Type 0) (old : List ℕ) → ((p : ℕ) → Is p → ⊥) → Adds Is old old
adds-none Is old none = record { only = λ p among. inl among; kept = λ p among. among; all = λ p is. absurd (none p is) }

pub adds-then : (A B C : ℕ → Type 0) (x y z : List ℕ) → ((p : ℕ) → C p → A p ⊎ B p) → ((p : ℕ) → A p ⊎ B p → C p)
    → Adds A x y → Adds B y z → Adds C x z
adds-then A B C x y z apart joined first next = record {
  only = λ p among. go p (next.only p among);
  kept = λ p among. next.kept p (first.kept p among);
  all = λ p is. from p (apart p is);
}
  where
    early : (p : ℕ) → IsAmong x p ⊎ A p → IsAmong x p ⊎ C p
    early p (inl old) = inl old
    early p (inr is) = inr (joined p (inl is))

    go : (p : ℕ) → IsAmong y p ⊎ B p → IsAmong x p ⊎ C p
    go p (inl mid) = early p (first.only p mid)
    go p (inr is) = inr (joined p (inr is))

    from : (p : ℕ) → A p ⊎ B p → IsAmong z p
    from p (inl is) = next.kept p (first.all p is)
    from p (inr is) = next.all p is

-- ---- borrowers

module _ (H : History) (inv : Invariant H) where
  -- A copy has one open loan at most.
  one-loan : (l m : ℕ) (q r : LoanRow) → (picture H).loans l ≡ Some q → (picture H).loans m ≡ Some r → q.copy ≡ r.copy → q.ended ≡ None → r.ended ≡ None → l ≡ m
  one-loan l m q r at there same open_q open_r =
      let a = loan_row-is H l q at in
      let b = loan_row-is H m r there in
      let first : place H a.0.copy ≡ Loan l = inv.open_loan l a.0 a.1 (ap (λ (x : LoanRow). x.ended) a.2 ∙ open_q) in
      let second : place H b.0.copy ≡ Loan m = inv.open_loan m b.0 b.1 (ap (λ (x : LoanRow). x.ended) b.2 ∙ open_r) in
      let copy : a.0.copy ≡ b.0.copy = ap (λ (x : LoanRow). x.copy) a.2 ∙ same ∙ sym (ap (λ (x : LoanRow). x.copy) b.2) in
      let both : Loan l ≡ Loan m = sym first ∙ ap (place H) copy ∙ second in
      let result : l ≡ m = cc in result

  pub borrower-added : (copy : ℕ) (found : Option LoanRow) (old : List ℕ) → IsLoanOf (picture H) copy found
      → Adds (HasLoanOf H copy) old (old ++ borrower_of found)
  borrower-added copy (Some q) old is = record {
    only = λ p among. go p (among-either old (q.patron ∷ []) p among);
    kept = λ p among. among-first old (q.patron ∷ []) p among;
    all = λ p has.
        let l = has.0 in
        let r = has.1 in
        let at = has.2 in
        let number : q.loan ≡ l = one-loan q.loan l q r is.0 at (is.1 ∙ sym has.3) is.2 has.4 in
        let row : q ≡ r = some-same q r (sym is.0 ∙ ap (picture H).loans number ∙ at) in
        among-last old (q.patron ∷ []) p (among-one q.patron p (ap (λ (x : LoanRow). x.patron) row ∙ has.5));
  }
    where
      go : (p : ℕ) → IsAmong old p ⊎ IsAmong (q.patron ∷ []) p → IsAmong old p ⊎ HasLoanOf H copy p
      go p (inl before) = inl before
      go p (inr one) = inr (q.loan, q, is.0, is.1, is.2, one-among q.patron p one)
  borrower-added copy None old is = record {
    only = λ p among. go p (among-either old [] p among);
    kept = λ p among. among-first old [] p among;
    all = λ p has. absurd (is has.0 has.1 has.2 has.3 has.4);
  }
    where
      go : (p : ℕ) → IsAmong old p ⊎ IsAmong [] p → IsAmong old p ⊎ HasLoanOf H copy p
      go p (inl before) = inl before
      go p (inr none) = among-none p none

loan-apart : (H : History) (p : ℕ) (xs : List CopyRow) (c : CopyRow) → HasLoanAmong H (xs ++ c ∷ []) p → HasLoanAmong H xs p ⊎ HasLoanOf H c.copy p
loan-apart H p [] c (inl has) = inr has
loan-apart H p [] c (inr never) = absurd never
loan-apart H p (x ∷ xs) c (inl has) = inl (inl has)
loan-apart H p (x ∷ xs) c (inr rest) = go (loan-apart H p xs c rest)
  where
    go : HasLoanAmong H xs p ⊎ HasLoanOf H c.copy p → HasLoanAmong H (x ∷ xs) p ⊎ HasLoanOf H c.copy p
    go (inl among) = inl (inr among)
    go (inr has) = inr has

loan-joined : (H : History) (p : ℕ) (xs : List CopyRow) (c : CopyRow) → HasLoanAmong H xs p ⊎ HasLoanOf H c.copy p → HasLoanAmong H (xs ++ c ∷ []) p
loan-joined H p [] c (inl never) = absurd never
loan-joined H p [] c (inr has) = inl has
loan-joined H p (x ∷ xs) c (inl (inl has)) = inl has
loan-joined H p (x ∷ xs) c (inl (inr among)) = inr (loan-joined H p xs c (inl among))
loan-joined H p (x ∷ xs) c (inr has) = inr (loan-joined H p xs c (inr has))

-- One copy's borrower more.
pub borrowers-then : (H : History) (xs : List CopyRow) (c : CopyRow) (old mid new : List ℕ) → Adds (HasLoanAmong H xs) old mid
    → Adds (HasLoanOf H c.copy) mid new → Adds (HasLoanAmong H (xs ++ c ∷ [])) old new
borrowers-then H xs c old mid new =
    adds-then (HasLoanAmong H xs) (HasLoanOf H c.copy) (HasLoanAmong H (xs ++ c ∷ [])) old mid new
    (λ p has. loan-apart H p xs c has) (λ p has. loan-joined H p xs c has)

loan-at : (H : History) (p : ℕ) (xs : List CopyRow) (c : CopyRow) → Contains xs c → HasLoanOf H c.copy p → HasLoanAmong H xs p
loan-at H p [] c at has = let lt : at.0 < 0 = at.1 in absurd (omega (arith, lt))
loan-at H p (x ∷ xs) c (zero, lt, is) has = inl (subst (λ (y : CopyRow). HasLoanOf H y.copy p) (sym is) has)
loan-at H p (x ∷ xs) c (suc k, lt, is) has = inr (loan-at H p xs c (k, omega (arith, lt), is) has)

loan-in : (H : History) (p : ℕ) (xs : List CopyRow) → HasLoanAmong H xs p → (c : CopyRow) × Contains xs c × HasLoanOf H c.copy p
loan-in H p [] never = absurd never
loan-in H p (x ∷ xs) (inl has) = (x, (0, omega arith, refl), has)
loan-in H p (x ∷ xs) (inr rest) = let more = loan-in H p xs rest in (more.0, (suc more.1.0, omega (arith, more.1.1), more.1.2), more.2)

-- ---- holders

holder-among : (rows : List HoldRow) (r : HoldRow) → Contains rows r → IsAmong (map (λ x. x.patron) rows) r.patron
holder-among [] r at = let lt : at.0 < 0 = at.1 in absurd (omega (arith, lt))
holder-among (y ∷ rows) r (zero, lt, is) =
    or-left (y.patron == r.patron) (list_any (λ q. q == r.patron) (map (λ x. x.patron) rows)) (eq-eqb y.patron r.patron (ap (λ (x : HoldRow). x.patron) is))
holder-among (y ∷ rows) r (suc k, lt, is) =
    or-right (y.patron == r.patron) (list_any (λ q. q == r.patron) (map (λ x. x.patron) rows)) (holder-among rows r (k, omega (arith, lt), is))

among-holder : (rows : List HoldRow) (p : ℕ) → IsAmong (map (λ x. x.patron) rows) p → (r : HoldRow) × Contains rows r × (r.patron ≡ p)
among-holder [] p e = among-none p e
among-holder (y ∷ rows) p e = go (λ later. among-holder rows p later) (or-either (y.patron == p) (list_any (λ q. q == p) (map (λ x. x.patron) rows)) e)
  where
    go : (IsAmong (map (λ x. x.patron) rows) p → (r : HoldRow) × Contains rows r × (r.patron ≡ p))
        → ((y.patron == p) ≡ true) ⊎ IsAmong (map (λ x. x.patron) rows) p → (r : HoldRow) × Contains (y ∷ rows) r × (r.patron ≡ p)
    go more (inl here) = (y, (0, omega arith, refl), eqb-true y.patron p here)
    go more (inr later) = let found = more later in (found.0, (suc found.1.0, omega (arith, found.1.1), found.1.2), found.2)

-- ---- readers

active-as : (s : HoldState) → is_active_state s ≡ true → (s ≡ Waiting) ⊎ (s ≡ Ready)
active-as Waiting e = inl refl
active-as Ready e = inr refl
active-as Filled e = let never : ⊥ = cc in absurd never
active-as Cancelled e = let never : ⊥ = cc in absurd never
active-as Expired e = let never : ⊥ = cc in absurd never

as-active : (s : HoldState) → (s ≡ Waiting) ⊎ (s ≡ Ready) → is_active_state s ≡ true
as-active s (inl is) = ap is_active_state is
as-active s (inr is) = ap is_active_state is

pub readers-are : (H : History) (title : ℕ) (copies : List CopyRow) (holds : List HoldRow) (borrowers readers : List ℕ)
    → AreCopiesOf (picture H) title copies → Adds (HasLoanAmong H copies) [] borrowers → AreHoldsOn (picture H) title holds
    → readers ≡ borrowers ++ map (λ r. r.patron) holds → AreExactly (IsReader H title) readers
readers-are H title copies holds borrowers readers of_title adds on_title is = record {
  only = λ p among. from p (among-either borrowers (map (λ r. r.patron) holds) p (subst (λ (ps : List ℕ). IsAmong ps p) is among));
  all = λ p reads. subst (λ (ps : List ℕ). IsAmong ps p) (sym is) (to p reads);
}
  where
    lent : (p : ℕ) → IsAmong [] p ⊎ HasLoanAmong H copies p → IsReader H title p
    lent p (inl none) = among-none p none
    lent p (inr has) =
        let found = loan-in H p copies has in
        let c : CopyRow = found.0 in
        let row = of_title.sound c found.1 in
        let loan : HasLoanOf H c.copy p = found.2 in
        inl (loan.0, loan.1, c, loan.2, loan.4, ap (picture H).copies loan.3 ∙ row.0, row.1, loan.5)

    from : (p : ℕ) → IsAmong borrowers p ⊎ IsAmong (map (λ r. r.patron) holds) p → IsReader H title p
    from p (inl borrows) = lent p (adds.only p borrows)
    from p (inr waits) =
        let found = among-holder holds p waits in
        let r : HoldRow = found.0 in
        let row = on_title.sound r found.1 in
        inr (r.hold, r, row.0, as-active r.state row.1.1, row.1.0, found.2)

    to : (p : ℕ) → IsReader H title p → IsAmong (borrowers ++ map (λ r. r.patron) holds) p
    to p (inl has) =
        let r : LoanRow = has.1 in
        let c : CopyRow = has.2 in
        let number : c.copy ≡ r.copy = copy-number H r.copy c has.5 in
        among-first borrowers (map (λ x. x.patron) holds) p
        (adds.all p (loan-at H p copies c (of_title.whole r.copy c has.5 has.6) (has.0, r, has.3, sym number, has.4, has.7)))
    to p (inr has) =
        let r : HoldRow = has.1 in
        among-last borrowers (map (λ x. x.patron) holds) p
        (subst (λ (q : ℕ). IsAmong (map (λ x. x.patron) holds) q) has.5
        (holder-among holds r (on_title.whole has.0 r has.2 (has.4, active-as r.state has.3))))

-- No other command has readers.
pub no-readers : (H : History) (c : Command) → ((t : ℕ) (x : List ℕ) → c ≡ AmendTitle t x → ⊥) → AreExactly (IsReaderFor H c) []
no-readers H (AmendTitle t x) other = absurd (other t x refl)
no-readers H _ other = record { only = λ p e. among-none p e; all = λ p never. absurd never }
