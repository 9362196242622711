use Rattle.std.proofs.Common.{ap}
use Rattle.store.proofs.ViewLemmas.{◌⨾◌, fails, gives}
use Rattle.store.proofs.viewing.unshelve_view.Goals as goal

pub returns-in_err-hold-clause-view : goal.returns-in_err-hold-clause-view
returns-in_err-hold-clause-view g c = fails _ _ c.from_residual-in_err-hold.ensures (c.in_ok-meta.ensures.view ⨾ c.in_err-hold.ensures.view)

pub returns-in_err-copy-clause-view : goal.returns-in_err-copy-clause-view
returns-in_err-copy-clause-view g c =
    fails _ _ c.from_residual-in_err-copy.ensures (c.in_ok-meta.ensures.view ⨾ c.in_ok-hold.ensures.view ⨾ c.in_err-copy.ensures)

pub returns-in_err-here-clause-view : goal.returns-in_err-here-clause-view
returns-in_err-here-clause-view g c =
    fails _ _ c.from_residual-in_err-here.ensures
    (c.in_ok-meta.ensures.view ⨾ c.in_ok-hold.ensures.view ⨾ c.in_ok-copy.ensures ⨾ c.in_err-here.ensures)

pub returns-in_err-first-clause-view : goal.returns-in_err-first-clause-view
returns-in_err-first-clause-view g c =
    fails _ _ c.from_residual-in_err-first.ensures
    (c.in_ok-meta.ensures.view ⨾ c.in_ok-hold.ensures.view ⨾ c.in_ok-copy.ensures ⨾ c.in_ok-here.ensures ⨾ c.in_err-first.ensures)

pub returns-clause-view : goal.returns-clause-view
returns-clause-view g c =
    gives (c.in_ok-meta.ensures.view ⨾ c.in_ok-hold.ensures.view ⨾ c.in_ok-copy.ensures ⨾ c.in_ok-here.ensures ⨾ c.in_ok-first.ensures)
    (λ P all. record { meta = all.0; hold = all.1.0; copy = all.1.1.0; here = all.1.1.1.0; first = all.1.1.1.1 (ap (λ m. m.today) all.0) })
