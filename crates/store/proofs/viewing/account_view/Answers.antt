use Rattle.store.proofs.ViewLemmas.{◌⨾◌, fails, gives}
use Rattle.store.proofs.viewing.account_view.Goals as goal

pub returns-in_err-patron-clause-view : goal.returns-in_err-patron-clause-view
returns-in_err-patron-clause-view g c = fails _ _ c.from_residual-in_err-patron.ensures (c.in_ok-meta.ensures.view ⨾ c.in_err-patron.ensures.view)

pub returns-clause-view : goal.returns-clause-view
returns-clause-view g c =
    gives (c.in_ok-meta.ensures.view ⨾ c.in_ok-patron.ensures.view)
    (λ P all. record { meta = all.0; patron = all.1 })
