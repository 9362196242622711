use Rattle.std.proofs.Common.{ap}
use Rattle.store.proofs.ViewLemmas.{◌⨾◌, fails, gives}
use Rattle.store.proofs.viewing.renew_view.Goals as goal

pub returns-in_err-loan-clause-view : goal.returns-in_err-loan-clause-view
returns-in_err-loan-clause-view g c = fails _ _ c.from_residual-in_err-loan.ensures (c.in_ok-meta.ensures.view ⨾ c.in_err-loan.ensures.view)

pub returns-in_err-copy-clause-view : goal.returns-in_err-copy-clause-view
returns-in_err-copy-clause-view g c =
    fails _ _ c.from_residual-in_err-copy.ensures (c.in_ok-meta.ensures.view ⨾ c.in_ok-loan.ensures.view ⨾ c.in_err-copy.ensures)

pub returns-in_err-first-clause-view : goal.returns-in_err-first-clause-view
returns-in_err-first-clause-view g c =
    fails _ _ c.from_residual-in_err-first.ensures
    (c.in_ok-meta.ensures.view ⨾ c.in_ok-loan.ensures.view ⨾ c.in_ok-copy.ensures ⨾ c.in_err-first.ensures)

pub returns-in_err-patron-clause-view : goal.returns-in_err-patron-clause-view
returns-in_err-patron-clause-view g c =
    fails _ _ c.from_residual-in_err-patron.ensures
    (c.in_ok-meta.ensures.view ⨾ c.in_ok-loan.ensures.view ⨾ c.in_ok-copy.ensures ⨾ c.in_ok-first.ensures ⨾ c.in_err-patron.ensures)

pub returns-in_err-kind-clause-view : goal.returns-in_err-kind-clause-view
returns-in_err-kind-clause-view g c =
    fails _ _ c.from_residual-in_err-kind.ensures
    (c.in_ok-meta.ensures.view ⨾ c.in_ok-loan.ensures.view ⨾ c.in_ok-copy.ensures ⨾ c.in_ok-first.ensures ⨾ c.in_ok-patron.ensures
    ⨾ c.in_err-kind.ensures)

pub returns-in_err-lender-clause-view : goal.returns-in_err-lender-clause-view
returns-in_err-lender-clause-view g c =
    fails _ _ c.from_residual-in_err-lender.ensures
    (c.in_ok-meta.ensures.view ⨾ c.in_ok-loan.ensures.view ⨾ c.in_ok-copy.ensures ⨾ c.in_ok-first.ensures ⨾ c.in_ok-patron.ensures
    ⨾ c.in_ok-kind.ensures ⨾ c.in_err-lender.ensures)

pub returns-clause-view : goal.returns-clause-view
returns-clause-view g c =
    gives (c.in_ok-meta.ensures.view ⨾ c.in_ok-loan.ensures.view ⨾ c.in_ok-copy.ensures ⨾ c.in_ok-first.ensures ⨾ c.in_ok-patron.ensures
    ⨾ c.in_ok-kind.ensures ⨾ c.in_ok-lender.ensures)
    (λ P all. record {
      meta = all.0;
      loan = all.1.0;
      copy = all.1.1.0;
      first = all.1.1.1.0 (ap (λ m. m.today) all.0);
      patron = all.1.1.1.1.0;
      kind = all.1.1.1.1.1.0;
      calendar = all.1.1.1.1.1.1;
    })
