use Rattle.std.proofs.Common.{◌≡◌, ℕ, ◌<◌, List, length, take, string_bytes, ◌∙◌, arith}
use Rattle.std.proofs.lemmas.List.{take_all}
use Rattle.terms.specs.declared.row.LoanRow.{LoanRow}
use Rattle.model.specs.Pages.{loan_line}
use Rattle.desk.proofs.Looking.{◌⨾◌, gives, stops, fails}
use Rattle.desk.proofs.PageRows.{following-map, item-there}
use Rattle.desk.proofs.patron_page.add_loans.Goals as goal

pub returns-in_err-line : goal.returns-in_err-line
returns-in_err-line g c =
    let within : c.rows.row-index < length c.args.rows.now = omega (arith, c.rows-test.true) in
    fails _ c.from_residual.ensures (c.rows.invariant ⨾ c.in_err-line.ensures)
    (λ H list all. (all, λ _. all c.row-item.result (item-there c.args.rows.now c.rows.row-index c.row-item.result within c.row-item.is)))

pub returns-in_err-add_line : goal.returns-in_err-add_line
returns-in_err-add_line g c = stops _ c.from_residual-in_err-add_line.ensures (c.rows.invariant ⨾ c.in_ok-line.ensures)

pub rows-preserved : goal.rows-preserved
rows-preserved g c =
    let xs : List LoanRow = c.args.rows.now in
    let i : ℕ = c.rows.row-index in
    let r : LoanRow = c.row-item.result in
    let within : i < length xs = omega (arith, c.rows-test.true) in
    gives (c.rows.invariant ⨾ c.in_ok-line.ensures) (λ H list all. (all, λ _. all r (item-there xs i r within c.row-item.is))) (λ H legal all is.
    c.in_ok-add_line.ensures
    ∙ following-map (λ (y : LoanRow). loan_line H y.loan) xs i r within c.row-item.is (string_bytes c.args.text.now)
    (string_bytes c.rows.text) c.deref.result.now
    is.0 (c.deref.ensures ∙ is.1))

pub returns : goal.returns
returns g c = gives c.rows.invariant (λ H list all. all) (λ H legal all is.
    let whole : take c.rows.row-index c.args.rows.now ≡ c.args.rows.now = take_all c.rows.row-index c.args.rows.now c.rows-test.false in
    rw whole at is)
