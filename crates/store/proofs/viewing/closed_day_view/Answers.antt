use Rattle.store.proofs.ViewLemmas.{◌⨾◌, fails, gives}
use Rattle.store.proofs.viewing.closed_day_view.Goals as goal

pub returns-in_err-calendar-clause-view : goal.returns-in_err-calendar-clause-view
returns-in_err-calendar-clause-view g c = fails _ _ c.from_residual-in_err-calendar.ensures (c.in_ok-meta.ensures.view ⨾ c.in_err-calendar.ensures)

pub returns-clause-view : goal.returns-clause-view
returns-clause-view g c =
    gives (c.in_ok-meta.ensures.view ⨾ c.in_ok-calendar.ensures)
    (λ P all. record { meta = all.0; calendar = all.1.0; once = all.1.1 })
