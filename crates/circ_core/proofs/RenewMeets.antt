-- Renewal meets the history.
use Rattle.terms.specs.declared.refusal.Refusal.TheVariants as check
use Rattle.model.specs.Sights.{sight}
use Rattle.std.proofs.Common.{◌≡◌, ℕ, ◌+◌, ◌-◌, ◌==◌, nat_lt, Bool, true, false, cond, not, List, ◌∷◌, refl, sym, ◌∙◌, ap, subst, arith}
use Rattle.std.specs.Prelude.{Option, Some, None, option_map, option_and_then, unwrap_or, is_none, is_some}
use Rattle.std.proofs.lemmas.Bool.{eqb-true}
use Rattle.terms.specs.declared.command.Owner.TheVariants.{Desk}
use Rattle.terms.specs.declared.command.Command.TheVariants.{Renew}
use Rattle.terms.specs.declared.reply.Reply.TheVariants.{Lent}
use Rattle.terms.specs.declared.row.LoanRow.{LoanRow}
use Rattle.terms.specs.declared.row.HoldRow.{HoldRow}
use Rattle.terms.specs.declared.row.HoldState.TheVariants.{Waiting}
use Rattle.terms.specs.Pictures.{put}
use Rattle.model.specs.Calendar.{least}
use Rattle.model.specs.History.{History, today, is_open, BranchFacts, branch_of, CopyFacts, copy_of, PatronFacts, patron_of, HoldFacts, hold_of}
use Rattle.model.specs.Places.{line, title_of_copy}
use Rattle.model.specs.Loans.{LoanFacts, loan_of, due, ended, renewals, renewals_left, renewed_due, title_of_loan}
use Rattle.model.specs.Accounts.{borrower}
use Rattle.model.specs.Refusals.{checks, refusal, has_branch, has_loan, is_empty, kind_now, owes_too_much}
use Rattle.model.specs.Requests.{IsLegal}
use Rattle.model.specs.Invariant.{Invariant}
use Rattle.model.specs.Picture.{picture, copy_columns, loan_row, loan_columns, hold_columns}
use Rattle.model.proofs.Passing.{passed}
use Rattle.circ_core.specs.Decides.{event}
use Rattle.circ_core.specs.declared.views.View.{View}
use Rattle.circ_core.specs.Debt.{debt_allowed, owed_by}
use Rattle.circ_core.specs.Renew.{is_over, is_late, is_renewed_out, next_due, renew_checks, renewed_due_day, renewed_due_in, renewed_rows}
use Rattle.circ_core.specs.Views.{IsCalendarOf, IsLenderOf, IsFirstOf, IsFirstFor, IsRenewView, copy_in, borrower_in}
use Rattle.circ_core.proofs.Meets.{Meets, Leads, SameChecks}
use Rattle.circ_core.proofs.Rows.{and-true, none-map, there-is}
use Rattle.circ_core.proofs.FirstInLine.{line_none, line_some}
use Rattle.circ_core.proofs.KindNow.{debt_same, owed_same}
use Rattle.circ_core.proofs.Lenders.{legal-lenders, borrower-there, lent_copy-there}
use Rattle.circ_core.proofs.Calendars.{due_from-is, same_day}

none-is_some : {A : Type 0} (o : Option A) → is_some o ≡ false → o ≡ None
none-is_some None e = refl
none-is_some (Some x) e = let never : ⊥ = cc in absurd never

module _ (H : History) (legal : IsLegal H) (inv : Invariant H) (l : ℕ) (v : View) (w : IsRenewView (picture H) l v) where
  unknown_same : is_none v.loan ≡ not (has_loan H Desk l)
  unknown_same = ap is_none w.loan ∙ none-map (loan_columns H l) (loan_of H l) ∙ ap not (sym (and-true (is_some (loan_of H l))))

  made-is : is_none v.loan ≡ false → (r : LoanFacts) × (loan_of H l ≡ Some r)
  made-is e = go (loan_of H l) refl (sym (ap is_none w.loan) ∙ e)
    where
      go : (o : Option LoanFacts) → loan_of H l ≡ o → is_none (option_map (loan_columns H l) o) ≡ false → (r : LoanFacts) × (loan_of H l ≡ Some r)
      go (Some r) d f = (r, d)
      go None d f = let never : ⊥ = cc in absurd never

  module _ (r : LoanFacts) (made : loan_of H l ≡ Some r) where
    loan_is : v.loan ≡ Some (loan_columns H l r)
    loan_is = w.loan ∙ ap (option_map (loan_columns H l)) made

    -- ---- the first in line

    copy_is : (x : CopyFacts) → copy_of H r.copy ≡ Some x → v.copy ≡ Some (copy_columns H r.copy x)
    copy_is x e = w.copy ∙ ap (copy_in (picture H)) loan_is ∙ ap (option_map (copy_columns H r.copy)) e

    title_is : (x : CopyFacts) → copy_of H r.copy ≡ Some x → title_of_loan H l ≡ x.title
    title_is x e = ap (λ o. unwrap_or (option_map (λ y. title_of_copy H y.copy) o) 0) made ∙ ap (λ o. unwrap_or (option_map (λ y. y.title) o) 0) e

    empty_same : (t : ℕ) (o : Option HoldRow) → IsFirstOf (picture H) t o → is_some o ≡ not (is_empty (line H t))
    empty_same t None f = sym (ap (λ hs. not (is_empty hs)) (line_none H inv t f))
    empty_same t (Some q) f =
        let first : ((hs : List ℕ) × (line H t ≡ q.hold ∷ hs))
        × ((f : HoldFacts) × (hold_of H q.hold ≡ Some f) × (hold_columns H q.hold Waiting f ≡ q)) = line_some H inv t q f in
        sym (ap (λ hs. not (is_empty hs)) first.0.1)

    line_same : ended H l ≡ None → is_some v.first ≡ not (is_empty (line H (title_of_loan H l)))
    line_same still =
        let x : (x : CopyFacts) × (copy_of H r.copy ≡ Some x) = lent_copy-there H inv l r made still in
        let first : IsFirstOf (picture H) x.0.title v.first = subst (λ o. IsFirstFor (picture H) o v.first) (copy_is x.0 x.1) w.first in
        empty_same x.0.title v.first first ∙ ap (λ t. not (is_empty (line H t))) (sym (title_is x.0 x.1))

    -- ---- the borrower

    who_is : borrower H l ≡ r.patron
    who_is = ap (λ o. unwrap_or (option_map (λ y. y.patron) o) 0) made

    enrolled : (f : PatronFacts) × (patron_of H r.patron ≡ Some f)
    enrolled = borrower-there H inv l r made

    patron_is : v.patron ≡ (picture H).patrons r.patron
    patron_is = w.patron ∙ ap (borrower_in (picture H)) loan_is

    debt_here : nat_lt (debt_allowed v.kind) (owed_by v.patron) ≡ owes_too_much H (sight H) (borrower H l)
    debt_here =
        ap (λ n. nat_lt n (owed_by v.patron)) (debt_same H r.patron enrolled.0 enrolled.1 v.patron patron_is v.kind w.kind)
        ∙ ap (λ n. nat_lt (kind_now H r.patron).debt n) (owed_same H r.patron enrolled.0 enrolled.1 v.patron patron_is v.kind w.kind)
        ∙ ap (owes_too_much H (sight H)) (sym who_is)

    -- ---- the new due day

    renewed_due-is : renewed_due H l (due H l) ≡ least (is_open H r.branch) (due H l + r.terms.period)
    renewed_due-is = ap (option_and_then (λ y. least (is_open H y.branch) (due H l + y.terms.period))) made

    calendar_is : IsCalendarOf (picture H) r.branch v.lender
    calendar_is = subst (λ o. IsLenderOf (picture H) o v.lender) loan_is w.calendar

    lender_there : not (has_branch H r.branch) ≡ false
    lender_there = go (branch_of H r.branch) refl
      where
        go : (o : Option BranchFacts) → branch_of H r.branch ≡ o → not (is_some o) ≡ false
        go (Some f) e = refl
        go None e = absurd (legal-lenders H legal l r made e)

    due_is : renewed_due_day v ≡ renewed_due H l (due H l)
    due_is =
        ap (λ o. next_due o v.lender) loan_is
        ∙ due_from-is H r.branch v.lender calendar_is lender_there (due H l + r.terms.period)
        ∙ sym renewed_due-is

  -- ---- the checks

  same : SameChecks (renew_checks v) (checks H Desk (Renew l))
  same = (
    refl,
    unknown_same,
    λ p14.
        let r : (r : LoanFacts) × (loan_of H l ≡ Some r) = made-is (unknown_same ∙ p14) in (
          refl,
          ap is_over (loan_is r.0 r.1),
          λ p40. (
            refl,
            (ap (λ m. is_late v.loan m.today) w.meta ∙ ap (λ o. is_late o (today H)) (loan_is r.0 r.1)),
            λ p41. (
              refl,
              line_same r.0 r.1 (none-is_some (ended H l) p40),
              λ p36. (refl, ap is_renewed_out (loan_is r.0 r.1), λ p42. (refl, debt_here r.0 r.1, λ p38. (refl, ap is_none (due_is r.0 r.1), λ p39. tt))),
            ),
          ),
        ),
  )

  -- ---- the rows

  module _ (r : LoanFacts) (made : loan_of H l ≡ Some r) (day : ℕ) (found : renewed_due H l (due H l) ≡ Some day) where
    abbrev loan_at : ℕ → Bool → Option LoanRow
    loan_at n renewed = option_map
        (λ x. record (loan_columns H n x) {
          due = elim renewed as (λ _. ℕ) [ true ↦ unwrap_or (renewed_due H n (due H n)) (due H n) | false ↦ due H n ];
          renewals_left = unwrap_or (option_map (λ y. y.terms.renewals) (loan_of H n)) 0 - cond renewed (renewals H n + 1) (renewals H n);
        }) (loan_of H n)

    abbrev loan_now : LoanRow
    loan_now = record (loan_columns H l r) { due = day; renewals_left = renewals_left H l - 1 }

    fewer : (a b : ℕ) → (a - b) - 1 ≡ a - (b + 1)
    fewer a b = omega arith

    here : Some loan_now ≡ loan_at l true
    here =
        ap (λ n. Some (record (loan_columns H l r) { due = day; renewals_left = n }))
        (fewer (unwrap_or (option_map (λ y. y.terms.renewals) (loan_of H l)) 0) (renewals H l))
        ∙ ap (λ o. Some (record (loan_columns H l r) {
          due = unwrap_or o (due H l);
          renewals_left = unwrap_or (option_map (λ y. y.terms.renewals) (loan_of H l)) 0 - (renewals H l + 1);
        })) (sym found)
        ∙ sym (ap (option_map (λ x. record (loan_columns H l x) {
          due = unwrap_or (renewed_due H l (due H l)) (due H l);
          renewals_left = unwrap_or (option_map (λ y. y.terms.renewals) (loan_of H l)) 0 - (renewals H l + 1);
        })) made)

    loans_lead : (n : ℕ) → put (loan_row H) l (Some loan_now) n ≡ loan_at n (l == n)
    loans_lead n = go (l == n) refl
      where
        go : (x : Bool) → (l == n) ≡ x → (elim x as (λ _. Option LoanRow) [ true ↦ Some loan_now | false ↦ loan_row H n ]) ≡ loan_at n x
        go true e = subst (λ m. Some loan_now ≡ loan_at m true) (eqb-true _ _ e) here
        go false e = refl

    leads_at : Leads H (Renew l) (renewed_rows v.loan day)
    leads_at owner key =
        rw (loan_is r made) (λ i. record (picture (event owner key (Renew l) ∷ H)) {
          loans = λ n. loans_lead n i;
        })

  -- The new due day, where the renewal isn't refused.
  day_same : refusal H Desk (Renew l) ≡ None → renewed_due_in v ≡ unwrap_or (renewed_due H l (due H l)) 0
  day_same ok =
      let k = passed (checks H Desk (Renew l)) ok in
      let r : (r : LoanFacts) × (loan_of H l ≡ Some r) = made-is (unknown_same ∙ (k check.UnknownLoan)) in
      same_day (renewed_due_day v) v.meta.today 0 (ap is_none (due_is r.0 r.1) ∙ (k check.PastCalendar)) ∙ ap (λ o. unwrap_or o 0) (due_is r.0 r.1)

  pub renew_meets : Meets H (Renew l) (renew_checks v) (Lent l (renewed_due_in v)) (renewed_rows v.loan (renewed_due_in v))
  renew_meets = record {
    same = same;
    due = λ ok. ap (λ d. Lent l d) (day_same ok);
    leads = λ ok owner key.
        let k = passed (checks H Desk (Renew l)) ok in
        let r : (r : LoanFacts) × (loan_of H l ≡ Some r) = made-is (unknown_same ∙ (k check.UnknownLoan)) in
        let found : (d : ℕ) × (renewed_due H l (due H l) ≡ Some d) = there-is (renewed_due H l (due H l)) (k check.PastCalendar) in
        let day : renewed_due_in v ≡ found.0 = day_same ok ∙ ap (λ o. unwrap_or o 0) found.1 in
        rw day (leads_at r.0 r.1 found.0 found.1 owner key);
  }
