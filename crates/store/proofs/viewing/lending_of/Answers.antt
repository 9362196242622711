use Rattle.store.proofs.ViewLemmas.{◌⨾◌, fails, gives, open_loans_seen}
use Rattle.store.proofs.viewing.lending_of.Goals as goal

pub returns-in_err-first : goal.returns-in_err-first
returns-in_err-first g c = fails _ _ c.from_residual-in_err-first.ensures (c.in_ok-rule.ensures ⨾ c.in_err-first.ensures)

pub returns-in_err-open_loans : goal.returns-in_err-open_loans
returns-in_err-open_loans g c =
    fails _ _ c.from_residual-in_err-open_loans.ensures
    (c.in_ok-rule.ensures ⨾ c.in_ok-first.ensures ⨾ (open_loans_seen c.in_err-open_loans.ensures))

pub returns-in_err-own_holds : goal.returns-in_err-own_holds
returns-in_err-own_holds g c =
    fails _ _ c.from_residual-in_err-own_holds.ensures
    (c.in_ok-rule.ensures ⨾ c.in_ok-first.ensures ⨾ (open_loans_seen c.in_ok-open_loans.ensures) ⨾ c.in_err-own_holds.ensures)

pub returns : goal.returns
returns g c =
    gives (c.in_ok-rule.ensures ⨾ c.in_ok-first.ensures ⨾ (open_loans_seen c.in_ok-open_loans.ensures) ⨾ c.in_ok-own_holds.ensures)
    (λ P all. (all.0, all.1.0, all.1.1.0, all.1.1.1))
