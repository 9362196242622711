-- A legal history's tables make at most one claim on a copy.
use Rattle.std.proofs.Common.{◌≡◌, ℕ, ◌<◌, ◌≤◌, ◌⊎◌, inl, inr, Bool, true, false, cond, refl, sym, ◌∙◌, ap, subst}
use Rattle.std.specs.Prelude.{Option, Some, None, is_none, count_by}
use Rattle.std.specs.List.{Contains}
use Rattle.std.proofs.lemmas.Bool.{eqb-true}
use Rattle.store.specs.Lists.{AreAuditTables}
use Rattle.terms.specs.declared.row.LoanRow.{LoanRow}
use Rattle.terms.specs.declared.row.HoldRow.{HoldRow}
use Rattle.terms.specs.declared.row.HoldState.{HoldState}
use Rattle.terms.specs.declared.row.HoldState.TheVariants.{Ready}
use Rattle.terms.specs.declared.row.TransitRow.{TransitRow}
use Rattle.terms.specs.declared.row.CopyRow.{CopyRow}
use Rattle.terms.specs.declared.row.Condition.{Condition}
use Rattle.terms.specs.declared.row.Condition.TheVariants.{Present, Missing, Withdrawn}
use Rattle.terms.specs.declared.tables.Tables.{Tables}
use Rattle.model.specs.History.{History}
use Rattle.model.specs.Places.{Place, HoldShelf, Transit, Loan, MissingCopy, WithdrawnCopy, place}
use Rattle.model.specs.Picture.{picture}
use Rattle.model.specs.Requests.{IsLegal}
use Rattle.model.proofs.ClaimsLaw.{claims-place, transit-place}
use Rattle.circ_audit.specs.Rows.{names, is_ready, is_present, lent_copy, shelved_copy, travelling_copy, absent_copy}
use Rattle.circ_audit.specs.Sound.{IsClaimedOnce}
use Rattle.circ.proofs.CountedRows.{one-counted, counted-once, one-of-four}

-- ---- what a claim says

pub is-named : (o : Option ℕ) (n : ℕ) → names o n ≡ true → o ≡ Some n
is-named (Some m) n e = ap Some (eqb-true m n e)
is-named None n e = let never : ⊥ = cc in absurd never

lent : (r : LoanRow) (c : ℕ) → names (lent_copy r) c ≡ true → (r.copy ≡ c) × (r.ended ≡ None)
lent r c e = go r.ended refl (is-named (lent_copy r) c e)
  where
    go : (o : Option ℕ) → r.ended ≡ o → cond (is_none o) (Some r.copy) None ≡ Some c → (r.copy ≡ c) × (r.ended ≡ None)
    go None is named = let same : r.copy ≡ c = cc in (same, is)
    go (Some d) is named = let never : ⊥ = cc in absurd never

ready-is : (s : HoldState) → is_ready s ≡ true → s ≡ Ready
ready-is Ready e = refl
ready-is _ e = let never : ⊥ = cc in absurd never

shelved : (r : HoldRow) (c : ℕ) → names (shelved_copy r) c ≡ true → (r.copy ≡ Some c) × (r.state ≡ Ready)
shelved r c e = go (is_ready r.state) refl (is-named (shelved_copy r) c e)
  where
    go : (b : Bool) → is_ready r.state ≡ b → cond b r.copy None ≡ Some c → (r.copy ≡ Some c) × (r.state ≡ Ready)
    go true is named = (named, ready-is r.state is)
    go false is named = let never : ⊥ = cc in absurd never

absent : (r : CopyRow) (c : ℕ) → names (absent_copy r) c ≡ true → (r.copy ≡ c) × ((r.condition ≡ Missing) ⊎ (r.condition ≡ Withdrawn))
absent r c e = go r.condition refl (is-named (absent_copy r) c e)
  where
    go : (s : Condition) → r.condition ≡ s → cond (is_present s) None (Some r.copy) ≡ Some c → (r.copy ≡ c)
        × ((r.condition ≡ Missing) ⊎ (r.condition ≡ Withdrawn))
    go Present is named = let never : ⊥ = cc in absurd never
    go Missing is named = let same : r.copy ≡ c = cc in (same, inl is)
    go Withdrawn is named = let same : r.copy ≡ c = cc in (same, inr is)

module _ (H : History) (rows : Tables) (legal : IsLegal H) (are : AreAuditTables (picture H) rows) (c : ℕ) where
  -- ---- a claim names the place of the copy

  on-loan : (r : LoanRow) → Contains rows.loans r → names (lent_copy r) c ≡ true → place H c ≡ Loan r.loan
  on-loan r there e = let l = lent r c e in claims-place H legal c (Loan r.loan) (r, (are.loans.sound r there).0, l.0, l.1)

  on-shelf : (r : HoldRow) → Contains rows.holds r → names (shelved_copy r) c ≡ true → place H c ≡ HoldShelf r.hold
  on-shelf r there e = let s = shelved r c e in claims-place H legal c (HoldShelf r.hold) (r, (are.holds.sound r there).0, s.0, s.1)

  on-way : (r : TransitRow) → Contains rows.transits r → names (travelling_copy r) c ≡ true → (r.copy ≡ c) × (place H c ≡ Transit r.goal r.hold)
  on-way r there e =
      let same : r.copy ≡ c = eqb-true r.copy c e in
      (same, subst (λ (n : ℕ). place H n ≡ Transit r.goal r.hold) same (transit-place r.copy r (place H r.copy) (are.transits.sound r there).0).0)

  -- The copy isn't in the library's keeping.
  abbrev IsGone : Type 0
  IsGone = (place H c ≡ MissingCopy) ⊎ (place H c ≡ WithdrawnCopy)

  gone : (r : CopyRow) → Contains rows.copies r → names (absent_copy r) c ≡ true → (r.copy ≡ c) × IsGone
  gone r there e = let a = absent r c e in (a.0, go a.0 a.1)
    where
      row : r.copy ≡ c → (picture H).copies c ≡ Some r
      row same = subst (λ (n : ℕ). (picture H).copies n ≡ Some r) same (are.copies.sound r there).0

      go : r.copy ≡ c → (r.condition ≡ Missing) ⊎ (r.condition ≡ Withdrawn) → IsGone
      go same (inl is) = inl (claims-place H legal c MissingCopy (r, row same, is))
      go same (inr is) = inr (claims-place H legal c WithdrawnCopy (r, row same, is))

  -- ---- the claims of a kind

  loans-once : count_by (λ r. names (lent_copy r) c) rows.loans ≤ 1
  loans-once = counted-once (λ r. names (lent_copy r) c) (λ r. r.loan) rows.loans are.loans.rise
      (λ r s in_r in_s e f. let p : place H c ≡ Loan r.loan = on-loan r in_r e in let q : place H c ≡ Loan s.loan = on-loan s in_s f in cc)

  holds-once : count_by (λ r. names (shelved_copy r) c) rows.holds ≤ 1
  holds-once = counted-once (λ r. names (shelved_copy r) c) (λ r. r.hold) rows.holds are.holds.rise
      (λ r s in_r in_s e f. let p : place H c ≡ HoldShelf r.hold = on-shelf r in_r e in let q : place H c ≡ HoldShelf s.hold = on-shelf s in_s f in cc)

  transits-once : count_by (λ r. names (travelling_copy r) c) rows.transits ≤ 1
  transits-once = counted-once (λ r. names (travelling_copy r) c) (λ r. r.copy) rows.transits are.transits.rise
      (λ r s in_r in_s e f. (on-way r in_r e).0 ∙ sym (on-way s in_s f).0)

  copies-once : count_by (λ r. names (absent_copy r) c) rows.copies ≤ 1
  copies-once = counted-once (λ r. names (absent_copy r) c) (λ r. r.copy) rows.copies are.copies.rise
      (λ r s in_r in_s e f. (gone r in_r e).0 ∙ sym (gone s in_s f).0)

  -- ---- claims of two kinds would name two places

  loan-there : 0 < count_by (λ r. names (lent_copy r) c) rows.loans → (l : ℕ) × (place H c ≡ Loan l)
  loan-there some = let r = one-counted (λ r. names (lent_copy r) c) rows.loans some in (r.0.loan, on-loan r.0 r.1 r.2)

  hold-there : 0 < count_by (λ r. names (shelved_copy r) c) rows.holds → (h : ℕ) × (place H c ≡ HoldShelf h)
  hold-there some = let r = one-counted (λ r. names (shelved_copy r) c) rows.holds some in (r.0.hold, on-shelf r.0 r.1 r.2)

  transit-there : 0 < count_by (λ r. names (travelling_copy r) c) rows.transits → (g : ℕ) × (h : Option ℕ) × (place H c ≡ Transit g h)
  transit-there some = let r = one-counted (λ r. names (travelling_copy r) c) rows.transits some in (r.0.goal, r.0.hold, (on-way r.0 r.1 r.2).1)

  gone-there : 0 < count_by (λ r. names (absent_copy r) c) rows.copies → IsGone
  gone-there some = let r = one-counted (λ r. names (absent_copy r) c) rows.copies some in (gone r.0 r.1 r.2).1

  not-gone : (p : Place) → place H c ≡ p → (MissingCopy ≡ p → ⊥) → (WithdrawnCopy ≡ p → ⊥) → IsGone → ⊥
  not-gone p is missing withdrawn (inl e) = missing (sym e ∙ is)
  not-gone p is missing withdrawn (inr e) = withdrawn (sym e ∙ is)

  pub claimed-once : IsClaimedOnce rows c
  claimed-once =
      one-of-four (count_by (λ r. names (lent_copy r) c) rows.loans) (count_by (λ r. names (shelved_copy r) c) rows.holds)
      (count_by (λ r. names (travelling_copy r) c) rows.transits) (count_by (λ r. names (absent_copy r) c) rows.copies)
      loans-once holds-once transits-once copies-once
      (λ x y. let p : place H c ≡ Loan (loan-there x).0 = (loan-there x).1 in let q : place H c ≡ HoldShelf (hold-there y).0 = (hold-there y).1 in cc)
      (λ x y. let p : place H c ≡ Loan (loan-there x).0 = (loan-there x).1 in let q : place H c ≡ Transit (transit-there y).0
      (transit-there y).1 = (transit-there y).2 in cc)
      (λ x y. not-gone (Loan (loan-there x).0) (loan-there x).1 (λ e. let never : ⊥ = cc in never) (λ e. let never : ⊥ = cc in never) (gone-there y))
      (λ x y. let p : place H c ≡ HoldShelf (hold-there x).0 = (hold-there x).1 in let q : place H c ≡ Transit (transit-there y).0
      (transit-there y).1 = (transit-there y).2 in cc)
      (λ x y. not-gone (HoldShelf (hold-there x).0) (hold-there x).1 (λ e. let never : ⊥ = cc in never) (λ e. let never : ⊥ = cc in never) (gone-there y))
      (λ x y. not-gone (Transit (transit-there x).0 (transit-there x).1) (transit-there x).2
      (λ e. let never : ⊥ = cc in never) (λ e. let never : ⊥ = cc in never) (gone-there y))
