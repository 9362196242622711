use Rattle.store.proofs.OldRows.{old_fails, at_is, at_none, rule_first, loan_first, hold_first, none_first}
use Rattle.store.proofs.ViewLemmas.{◌⨾◌}
use Rattle.store.proofs.older.old_row.Goals as goal

pub returns-in_err-rule : goal.returns-in_err-rule
returns-in_err-rule g c = old_fails _ _ c.from_residual.ensures c.in_err-rule.ensures.view

pub returns-in-Some : goal.returns-in-Some
returns-in-Some g c = rule_first c.in-Some.kind (at_is c.in_ok-rule.ensures c.in-Some.is)

pub returns-in_err-loan : goal.returns-in_err-loan
returns-in_err-loan g c = old_fails _ _ c.from_residual-in_err-loan.ensures (c.in_ok-rule.ensures.view ⨾ c.in_err-loan.ensures.view)

pub returns-in-Some-loan : goal.returns-in-Some-loan
returns-in-Some-loan g c =
    rw (c.new.ensures)
    (loan_first c.in-Some-loan.loan (at_none _ c.in_ok-rule.ensures c.in_default.not-Some) (at_is c.in_ok-loan.ensures c.in-Some-loan.is))

pub returns-in_err-hold : goal.returns-in_err-hold
returns-in_err-hold g c =
    old_fails _ _ c.from_residual-in_err-hold.ensures (c.in_ok-rule.ensures.view ⨾ c.in_ok-loan.ensures.view ⨾ c.in_err-hold.ensures.view)

pub returns-in-Some-hold : goal.returns-in-Some-hold
returns-in-Some-hold g c =
    rw (c.new-in-Some-hold.ensures)
    (hold_first (at_none _ c.in_ok-rule.ensures c.in_default.not-Some) (at_none _ c.in_ok-loan.ensures c.in_default-loan.not-Some)
    c.in-Some-hold.hold (at_is c.in_ok-hold.ensures c.in-Some-hold.is))

pub returns-in-None : goal.returns-in-None
returns-in-None g c =
    none_first (at_none _ c.in_ok-rule.ensures c.in_default.not-Some) (at_none _ c.in_ok-loan.ensures c.in_default-loan.not-Some)
    (at_is c.in_ok-hold.ensures c.in-None.is)
