use Rattle.std.proofs.Common.{sym, ◌∙◌}
use Rattle.terms.specs.declared.command.Owner.TheVariants.{Desk}
use Rattle.model.proofs.RowRanges.{legal-rows}
use Rattle.desk.proofs.Enrolled.{page-there, page-nowhere}
use Rattle.desk.proofs.Looking.{looked, ◌⨾◌, gives, fails}
use Rattle.desk.proofs.Owning.{patron-in}
use Rattle.desk.proofs.showing.own_page.Goals as goal

pub returns-in_err-row : goal.returns-in_err-row
returns-in_err-row g c = fails _ c.from_residual.ensures
    (looked c.in_err-row.ensures (λ H legal forms. patron-in H legal forms c.args.patron) legal-rows) (λ _ _ _. tt)

pub returns-in_err-reply-in-Some : goal.returns-in_err-reply-in-Some
returns-in_err-reply-in-Some g c =
    let row = looked c.in_ok-row.ensures (λ H legal forms. patron-in H legal forms c.args.patron) legal-rows in
    fails _ c.from_residual-in_err-reply-in-Some.ensures (row ⨾ c.in_err-reply-in-Some.ensures) (λ H list _. (tt, λ found. sym found ∙ c.in-Some.is))

pub returns-in_ok-reply-in-Some : goal.returns-in_ok-reply-in-Some
returns-in_ok-reply-in-Some g c =
    let row = looked c.in_ok-row.ensures (λ H legal forms. patron-in H legal forms c.args.patron) legal-rows in
    gives (row ⨾ c.in_ok-reply-in-Some.ensures) (λ H list _. (tt, λ found. sym found ∙ c.in-Some.is))
    (λ H legal _ is. page-there H c.args.patron c.in-Some.row c.in_ok-reply-in-Some.reply (sym is.0 ∙ c.in-Some.is) (is.1 Desk))

pub returns-in-None : goal.returns-in-None
returns-in-None g c =
    let row = looked c.in_ok-row.ensures (λ H legal forms. patron-in H legal forms c.args.patron) legal-rows in
    gives row (λ _ _ _. tt) (λ H legal _ found. page-nowhere H c.args.patron (sym found ∙ c.in-None.is))
