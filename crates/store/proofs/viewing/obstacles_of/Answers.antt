use Rattle.store.proofs.ViewLemmas.{◌⨾◌, fails, gives, title_loan_seen, active_holds_on_seen, active_holds_seen}
use Rattle.store.proofs.viewing.obstacles_of.Goals as goal

pub returns-in_err-own_holds : goal.returns-in_err-own_holds
returns-in_err-own_holds g c = fails _ _ c.from_residual.ensures (active_holds_on_seen c.in_err-own_holds.ensures)

pub returns-in_err-loan : goal.returns-in_err-loan
returns-in_err-loan g c = fails _ _ c.from_residual-in_err-loan.ensures
    ((active_holds_on_seen c.in_ok-own_holds.ensures) ⨾ title_loan_seen c.in_err-loan.ensures)

pub returns-in_err-active_holds : goal.returns-in_err-active_holds
returns-in_err-active_holds g c =
    fails _ _ c.from_residual-in_err-active_holds.ensures
    ((active_holds_on_seen c.in_ok-own_holds.ensures) ⨾ title_loan_seen c.in_ok-loan.ensures
    ⨾ (active_holds_seen c.in_err-active_holds.ensures))

pub returns : goal.returns
returns g c =
    gives ((active_holds_on_seen c.in_ok-own_holds.ensures) ⨾ title_loan_seen c.in_ok-loan.ensures ⨾ (active_holds_seen c.in_ok-active_holds.ensures))
    (λ P all. (all.0, all.1.0, all.1.1))
