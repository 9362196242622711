use Rattle.store.proofs.ViewLemmas.{◌⨾◌, fails, gives}
use Rattle.store.proofs.viewing.missing_view.Goals as goal

pub returns-in_err-at-clause-view : goal.returns-in_err-at-clause-view
returns-in_err-at-clause-view g c = fails _ _ c.from_residual-in_err-at.ensures (c.in_ok-meta.ensures.view ⨾ c.in_err-at.ensures.view)

pub returns-in_err-end-clause-view : goal.returns-in_err-end-clause-view
returns-in_err-end-clause-view g c = fails _ _ c.from_residual-in_err-end.ensures (c.in_ok-meta.ensures.view ⨾ c.in_ok-at.ensures.view ⨾ c.in_err-end.ensures)

pub returns-clause-view : goal.returns-clause-view
returns-clause-view g c =
    gives (c.in_ok-meta.ensures.view ⨾ c.in_ok-at.ensures.view ⨾ c.in_ok-end.ensures)
    (λ P all. record {
      meta = all.0;
      at = record { copy = all.1.0.copy; loan = all.1.0.loan; transit = all.1.0.transit; hold = all.1.0.hold };
      lender =
          record { calendar = all.1.1.0; patron = all.1.1.1 };
    })
