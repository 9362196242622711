use Rattle.store.proofs.ViewLemmas.{◌⨾◌, fails, gives}
use Rattle.store.proofs.viewing.place_hold_view.Goals as goal

pub returns-in_err-patron-clause-view : goal.returns-in_err-patron-clause-view
returns-in_err-patron-clause-view g c = fails _ _ c.from_residual-in_err-patron.ensures (c.in_ok-meta.ensures.view ⨾ c.in_err-patron.ensures.view)

pub returns-in_err-kind-clause-view : goal.returns-in_err-kind-clause-view
returns-in_err-kind-clause-view g c =
    fails _ _ c.from_residual-in_err-kind.ensures (c.in_ok-meta.ensures.view ⨾ c.in_ok-patron.ensures.view ⨾ c.in_err-kind.ensures)

pub returns-in_err-title-clause-view : goal.returns-in_err-title-clause-view
returns-in_err-title-clause-view g c =
    fails _ _ c.from_residual-in_err-title.ensures
    (c.in_ok-meta.ensures.view ⨾ c.in_ok-patron.ensures.view ⨾ c.in_ok-kind.ensures ⨾ c.in_err-title.ensures.view)

pub returns-in_err-branch-clause-view : goal.returns-in_err-branch-clause-view
returns-in_err-branch-clause-view g c =
    fails _ _ c.from_residual-in_err-branch.ensures
    (c.in_ok-meta.ensures.view ⨾ c.in_ok-patron.ensures.view ⨾ c.in_ok-kind.ensures ⨾ c.in_ok-title.ensures.view
    ⨾ c.in_err-branch.ensures.view)

pub returns-in_err-obstacles-clause-view : goal.returns-in_err-obstacles-clause-view
returns-in_err-obstacles-clause-view g c =
    fails _ _ c.from_residual-in_err-obstacles.ensures
    (c.in_ok-meta.ensures.view ⨾ c.in_ok-patron.ensures.view ⨾ c.in_ok-kind.ensures ⨾ c.in_ok-title.ensures.view
    ⨾ c.in_ok-branch.ensures.view ⨾ c.in_err-obstacles.ensures)

pub returns-clause-view : goal.returns-clause-view
returns-clause-view g c =
    gives (c.in_ok-meta.ensures.view ⨾ c.in_ok-patron.ensures.view ⨾ c.in_ok-kind.ensures ⨾ c.in_ok-title.ensures.view
    ⨾ c.in_ok-branch.ensures.view ⨾ c.in_ok-obstacles.ensures)
    (λ P all. record {
      meta = all.0;
      patron = all.1.0;
      kind = all.1.1.0;
      title = all.1.1.1.0;
      branch = all.1.1.1.1.0;
      own_holds
          = all.1.1.1.1.1.0;
      loan = all.1.1.1.1.1.1;
      active_holds = all.1.1.1.1.1.2;
    })
