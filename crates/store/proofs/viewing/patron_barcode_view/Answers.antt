use Rattle.store.proofs.ViewLemmas.{◌⨾◌, fails, gives}
use Rattle.store.proofs.viewing.patron_barcode_view.Goals as goal

pub returns-in_err-labelled-clause-view : goal.returns-in_err-labelled-clause-view
returns-in_err-labelled-clause-view g c = fails _ _ c.from_residual-in_err-labelled.ensures (c.in_ok-patron.ensures.view ⨾ c.in_err-labelled.ensures.view)

pub returns-clause-view : goal.returns-clause-view
returns-clause-view g c =
    gives (c.in_ok-patron.ensures.view ⨾ c.in_ok-labelled.ensures.view)
    (λ P all. record { patron = all.0; labelled = all.1 })
