use Rattle.std.proofs.Common.{ap}
use Rattle.store.proofs.ViewLemmas.{◌⨾◌, fails, gives}
use Rattle.store.proofs.viewing.check_in_view.Goals as goal

pub returns-in_err-branch-clause-view : goal.returns-in_err-branch-clause-view
returns-in_err-branch-clause-view g c = fails _ _ c.from_residual-in_err-branch.ensures (c.in_ok-meta.ensures.view ⨾ c.in_err-branch.ensures.view)

pub returns-in_err-calendar-clause-view : goal.returns-in_err-calendar-clause-view
returns-in_err-calendar-clause-view g c =
    fails _ _ c.from_residual-in_err-calendar.ensures (c.in_ok-meta.ensures.view ⨾ c.in_ok-branch.ensures.view ⨾ c.in_err-calendar.ensures)

pub returns-in_err-at-clause-view : goal.returns-in_err-at-clause-view
returns-in_err-at-clause-view g c =
    fails _ _ c.from_residual-in_err-at.ensures
    (c.in_ok-meta.ensures.view ⨾ c.in_ok-branch.ensures.view ⨾ c.in_ok-calendar.ensures ⨾ c.in_err-at.ensures.view)

pub returns-in_err-end-clause-view : goal.returns-in_err-end-clause-view
returns-in_err-end-clause-view g c =
    fails _ _ c.from_residual-in_err-end.ensures
    (c.in_ok-meta.ensures.view ⨾ c.in_ok-branch.ensures.view ⨾ c.in_ok-calendar.ensures ⨾ c.in_ok-at.ensures.view ⨾ c.in_err-end.ensures)

pub returns-in_err-coming-clause-view : goal.returns-in_err-coming-clause-view
returns-in_err-coming-clause-view g c =
    fails _ _ c.from_residual-in_err-coming.ensures
    (c.in_ok-meta.ensures.view ⨾ c.in_ok-branch.ensures.view ⨾ c.in_ok-calendar.ensures ⨾ c.in_ok-at.ensures.view ⨾ c.in_ok-end.ensures
    ⨾ c.in_err-coming.ensures)

pub returns-in_err-first-clause-view : goal.returns-in_err-first-clause-view
returns-in_err-first-clause-view g c =
    fails _ _ c.from_residual-in_err-first.ensures
    (c.in_ok-meta.ensures.view ⨾ c.in_ok-branch.ensures.view ⨾ c.in_ok-calendar.ensures ⨾ c.in_ok-at.ensures.view ⨾ c.in_ok-end.ensures
    ⨾ c.in_ok-coming.ensures ⨾ c.in_err-first.ensures)

pub returns-clause-view : goal.returns-clause-view
returns-clause-view g c =
    gives (c.in_ok-meta.ensures.view ⨾ c.in_ok-branch.ensures.view ⨾ c.in_ok-calendar.ensures ⨾ c.in_ok-at.ensures.view
    ⨾ c.in_ok-end.ensures ⨾ c.in_ok-coming.ensures ⨾ c.in_ok-first.ensures)
    (λ P all. record {
      meta = all.0;
      here = record { branch = all.1.0; calendar = (all.1.1.0 all.1.0).0 };
      at = record { copy = all.1.1.1.0.copy; loan = all.1.1.1.0.loan; transit = all.1.1.1.0.transit; hold = all.1.1.1.0.hold };
      lender =
          record { calendar = all.1.1.1.1.0.0; patron = all.1.1.1.1.0.1 };
      coming = all.1.1.1.1.1.0;
      first =
          all.1.1.1.1.1.1 (ap (λ m. m.today) all.0);
    })
