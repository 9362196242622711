use Rattle.store.proofs.ViewLemmas.{◌⨾◌, fails, gives}
use Rattle.store.proofs.viewing.counter_view.Goals as goal

pub returns-in_err-patron-clause-view : goal.returns-in_err-patron-clause-view
returns-in_err-patron-clause-view g c = fails _ _ c.from_residual-in_err-patron.ensures (c.in_ok-meta.ensures.view ⨾ c.in_err-patron.ensures.view)

pub returns-in_err-branch-clause-view : goal.returns-in_err-branch-clause-view
returns-in_err-branch-clause-view g c =
    fails _ _ c.from_residual-in_err-branch.ensures (c.in_ok-meta.ensures.view ⨾ c.in_ok-patron.ensures.view ⨾ c.in_err-branch.ensures.view)

pub returns-clause-view : goal.returns-clause-view
returns-clause-view g c =
    gives (c.in_ok-meta.ensures.view ⨾ c.in_ok-patron.ensures.view ⨾ c.in_ok-branch.ensures.view)
    (λ P all. record { meta = all.0; patron = all.1.0; branch = all.1.1 })
