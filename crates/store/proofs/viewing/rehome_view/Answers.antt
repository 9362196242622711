use Rattle.store.proofs.ViewLemmas.{◌⨾◌, fails, gives}
use Rattle.store.proofs.viewing.rehome_view.Goals as goal

pub returns-in_err-at-clause-view : goal.returns-in_err-at-clause-view
returns-in_err-at-clause-view g c = fails _ _ c.from_residual-in_err-at.ensures (c.in_ok-branch.ensures.view ⨾ c.in_err-at.ensures.view)

pub returns-clause-view : goal.returns-clause-view
returns-clause-view g c =
    gives (c.in_ok-branch.ensures.view ⨾ c.in_ok-at.ensures.view)
    (λ P all. record { home = all.0; at = record { copy = all.1.copy; loan = all.1.loan; transit = all.1.transit; hold = all.1.hold } })
