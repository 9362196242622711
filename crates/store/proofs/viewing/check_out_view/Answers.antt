use Rattle.std.proofs.Common.{ap}
use Rattle.store.proofs.ViewLemmas.{◌⨾◌, fails, gives}
use Rattle.store.proofs.viewing.check_out_view.Goals as goal

pub returns-in_err-calendar-clause-view : goal.returns-in_err-calendar-clause-view
returns-in_err-calendar-clause-view g c = fails _ _ c.from_residual-in_err-calendar.ensures (c.in_ok-meta.ensures.view ⨾ c.in_err-calendar.ensures)

pub returns-in_err-patron-clause-view : goal.returns-in_err-patron-clause-view
returns-in_err-patron-clause-view g c =
    fails _ _ c.from_residual-in_err-patron.ensures (c.in_ok-meta.ensures.view ⨾ c.in_ok-calendar.ensures ⨾ c.in_err-patron.ensures.view)

pub returns-in_err-kind-clause-view : goal.returns-in_err-kind-clause-view
returns-in_err-kind-clause-view g c =
    fails _ _ c.from_residual-in_err-kind.ensures
    (c.in_ok-meta.ensures.view ⨾ c.in_ok-calendar.ensures ⨾ c.in_ok-patron.ensures.view ⨾ c.in_err-kind.ensures)

pub returns-in_err-at-clause-view : goal.returns-in_err-at-clause-view
returns-in_err-at-clause-view g c =
    fails _ _ c.from_residual-in_err-at.ensures
    (c.in_ok-meta.ensures.view ⨾ c.in_ok-calendar.ensures ⨾ c.in_ok-patron.ensures.view ⨾ c.in_ok-kind.ensures ⨾ c.in_err-at.ensures.view)

pub returns-in_err-lending-clause-view : goal.returns-in_err-lending-clause-view
returns-in_err-lending-clause-view g c =
    fails _ _ c.from_residual-in_err-lending.ensures
    (c.in_ok-meta.ensures.view ⨾ c.in_ok-calendar.ensures ⨾ c.in_ok-patron.ensures.view ⨾ c.in_ok-kind.ensures ⨾ c.in_ok-at.ensures.view
    ⨾ c.in_err-lending.ensures)

pub returns-clause-view : goal.returns-clause-view
returns-clause-view g c =
    gives (c.in_ok-meta.ensures.view ⨾ c.in_ok-calendar.ensures ⨾ c.in_ok-patron.ensures.view ⨾ c.in_ok-kind.ensures
    ⨾ c.in_ok-at.ensures.view ⨾ c.in_ok-lending.ensures)
    (λ P all. record {
      meta = all.0;
      calendar = all.1.0.0;
      patron = all.1.1.0;
      kind = all.1.1.1.0;
      at = record { copy = all.1.1.1.1.0.copy; loan = all.1.1.1.1.0.loan; transit = all.1.1.1.1.0.transit; hold = all.1.1.1.1.0.hold };
      rule = all.1.1.1.1.1.0;
      first = all.1.1.1.1.1.1 (ap (λ m. m.today) all.0);
      open_loans = all.1.1.1.1.1.2;
      own_holds =
          all.1.1.1.1.1.3;
    })
