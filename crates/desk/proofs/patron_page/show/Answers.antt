use Rattle.std.proofs.Common.{sym, ◌∙◌}
use Rattle.model.proofs.RowRanges.{legal-rows}
use Rattle.desk.proofs.Owning.{patron-in}
use Rattle.desk.proofs.Looking.{looked, ◌⨾◌, gives, fails, learns-on}
use Rattle.desk.proofs.PageWhole.{page-unknown}
use Rattle.desk.proofs.patron_page.show.Goals as goal

pub returns-in_err-row : goal.returns-in_err-row
returns-in_err-row g c = fails _ c.from_residual.ensures
    (looked c.in_err-row.ensures (λ H legal forms. patron-in H legal forms c.args.patron) legal-rows) (λ _ _ _. tt)

pub returns-in-Some : goal.returns-in-Some
returns-in-Some g c =
    let row = looked c.in_ok-row.ensures (λ H legal forms. patron-in H legal forms c.args.patron) legal-rows in
    learns-on (row ⨾ c.show_row.ensures) (λ H list _. (tt, λ found. sym found ∙ c.in-Some.is)) (λ H legal _ reply is. is.1)

pub returns-in-None : goal.returns-in-None
returns-in-None g c =
    let row = looked c.in_ok-row.ensures (λ H legal forms. patron-in H legal forms c.args.patron) legal-rows in
    gives row (λ _ _ _. tt) (λ H legal _ found owner. sym (page-unknown H owner c.args.patron (sym found ∙ c.in-None.is)))
