use Rattle.std.proofs.Common.{◌≡◌, ◌++◌, map, take, string_bytes}
use Rattle.std.specs.Prelude.{Ok}
use Rattle.model.specs.Pages.{loan_line}
use Rattle.desk.specs.Answering.{LearnsIf}
use Rattle.desk.specs.Paging.{following, AreLoanRows}
use Rattle.desk.proofs.patron_page.add_loans.Given as goal

abbrev pub invariant-rows : goal.invariant-rows
invariant-rows g l =
    LearnsIf {A = Unit {0}} (λ H. AreLoanRows H l.rows)
    (λ H _. string_bytes l.text ≡ string_bytes l.fn.text ++ following (map (λ r. loan_line H r.loan) (take l.row-index l.rows)))
    g.S.Store l.fn.store l.store (Ok tt)
