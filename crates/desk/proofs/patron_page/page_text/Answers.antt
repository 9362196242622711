use Rattle.std.proofs.Common.{List, string_bytes, subst}
use Rattle.std.specs.List.{Contains}
use Rattle.terms.specs.declared.row.LoanRow.{LoanRow}
use Rattle.terms.specs.declared.row.HoldRow.{HoldRow}
use Rattle.model.proofs.RowRanges.{legal-rows}
use Rattle.desk.proofs.Looking.{looked, ◌⨾◌, gives, fails}
use Rattle.desk.proofs.PageWhole.{page-is}
use Rattle.desk.proofs.patron_page.page_text.Goals as goal

pub returns-in_err-loans : goal.returns-in_err-loans
returns-in_err-loans g c = fails _ c.from_residual-in_err-loans.ensures (looked c.in_err-loans.ensures legal-rows legal-rows) (λ _ _ _. tt)

pub returns-in_err-add_loans : goal.returns-in_err-add_loans
returns-in_err-add_loans g c =
    let loans = looked c.in_ok-loans.ensures legal-rows legal-rows in
    fails _ c.from_residual-in_err-add_loans.ensures (loans ⨾ c.in_err-add_loans.ensures)
    (λ H list _. (tt, λ are r at. (are.sound r (subst (λ (xs : List LoanRow). Contains xs r) c.deref.ensures.value at)).0))

pub returns-in_err-holds : goal.returns-in_err-holds
returns-in_err-holds g c =
    let loans = looked c.in_ok-loans.ensures legal-rows legal-rows in
    let holds = looked c.in_err-holds.ensures legal-rows legal-rows in
    fails _ c.from_residual-in_err-holds.ensures (loans ⨾ c.in_ok-add_loans.ensures ⨾ holds)
    (λ H list _. (tt, λ are. ((λ r at. (are.sound r (subst (λ (xs : List LoanRow). Contains xs r) c.deref.ensures.value at)).0), λ _. tt)))

pub returns-in_err-add_holds : goal.returns-in_err-add_holds
returns-in_err-add_holds g c =
    let loans = looked c.in_ok-loans.ensures legal-rows legal-rows in
    let holds = looked c.in_ok-holds.ensures legal-rows legal-rows in
    fails _ c.from_residual-in_err-add_holds.ensures (loans ⨾ c.in_ok-add_loans.ensures ⨾ holds ⨾ c.in_err-add_holds.ensures)
    (λ H list _. (
      tt,
      λ are. (
        (λ r at. (are.sound r (subst (λ (xs : List LoanRow). Contains xs r) c.deref.ensures.value at)).0),
        λ _. (tt, λ held r at. (held.sound r (subst (λ (xs : List HoldRow). Contains xs r) c.deref-2.ensures.value at)).0),
      ),
    ))

pub returns : goal.returns
returns g c =
    let loans = looked c.in_ok-loans.ensures legal-rows legal-rows in
    let holds = looked c.in_ok-holds.ensures legal-rows legal-rows in
    gives (loans ⨾ c.in_ok-add_loans.ensures ⨾ holds ⨾ c.in_ok-add_holds.ensures)
    (λ H list _. (
      tt,
      λ are. (
        (λ r at. (are.sound r (subst (λ (xs : List LoanRow). Contains xs r) c.deref.ensures.value at)).0),
        λ _. (tt, λ held r at. (held.sound r (subst (λ (xs : List HoldRow). Contains xs r) c.deref-2.ensures.value at)).0),
      ),
    ))
    (λ H legal there is.
    page-is H legal c.args.patron c.args.row.now c.in_ok-loans.loans.items c.in_ok-holds.holds.items (string_bytes c.in_ok-text.text)
    (string_bytes c.add_loans.new.text)
    (string_bytes c.add_holds.new.text) there is.0 is.1.1.0 c.in_ok-text.ensures (rw c.deref.ensures.value at is.1.0) (rw c.deref-2.ensures.value at is.1.1.1))
