use Rattle.std.proofs.Common.{subst}
use Rattle.circ_core.specs.Views.{IsCalendarOf}
use Rattle.model.specs.Picture.{picture}
use Rattle.model.proofs.RowRanges.{legal-rows}
use Rattle.desk.proofs.Looking.{looked, ◌⨾◌, gives, fails}
use Rattle.desk.proofs.Sound.{is-readable}
use Rattle.desk.proofs.overdue.lender_of.Goals as goal

pub returns-in_err-calendar : goal.returns-in_err-calendar
returns-in_err-calendar g c = fails _ c.from_residual.ensures (looked c.in_err-calendar.ensures legal-rows is-readable) (λ _ _ _. tt)

pub returns-in_err-lender-in-Some : goal.returns-in_err-lender-in-Some
returns-in_err-lender-in-Some g c =
    fails _ c.from_residual-in_err-lender-in-Some.ensures
    (looked c.in_ok-calendar.ensures legal-rows is-readable ⨾ c.in_err-lender-in-Some.ensures) (λ _ _ _. (tt, λ _. tt))

pub returns-in_ok-lender-in-Some : goal.returns-in_ok-lender-in-Some
returns-in_ok-lender-in-Some g c =
    gives (looked c.in_ok-calendar.ensures legal-rows is-readable ⨾ c.in_ok-lender-in-Some.ensures) (λ _ _ _. (tt, λ _. tt))
    (λ H legal _ is.
    let days = subst (IsCalendarOf (picture H) c.args.branch) c.in-Some.is is.0 in
    ((days.row, days.there), is.1.0, is.1.1 days))

pub returns-in-None : goal.returns-in-None
returns-in-None g c = gives (looked c.in_ok-calendar.ensures legal-rows is-readable) (λ _ _ _. tt)
    (λ H legal _ found. subst (IsCalendarOf (picture H) c.args.branch) c.in-None.is found)
