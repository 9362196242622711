use Rattle.store.proofs.ReviewLemmas.{◌⨟◌, faults, tells}
use Rattle.store.proofs.listing.audit_tables.Goals as goal

pub returns-in_err-owned : goal.returns-in_err-owned
returns-in_err-owned g c = faults _ _ c.from_residual-in_err-owned.ensures (c.in_ok-set.ensures ⨟ c.in_err-owned.ensures).view

pub returns-in_err-done : goal.returns-in_err-done
returns-in_err-done g c = faults _ _ c.from_residual-in_err-done.ensures (c.in_ok-set.ensures ⨟ c.in_ok-owned.ensures ⨟ c.in_err-done.ensures).view

pub returns-in_err-labels : goal.returns-in_err-labels
returns-in_err-labels g c = faults _ _ c.from_residual-in_err-labels.ensures
    (c.in_ok-set.ensures ⨟ c.in_ok-owned.ensures ⨟ c.in_ok-done.ensures ⨟ c.in_err-labels.ensures).view

pub returns-in_err-kept : goal.returns-in_err-kept
returns-in_err-kept g c =
    faults _ _ c.from_residual-in_err-kept.ensures
    (c.in_ok-set.ensures ⨟ c.in_ok-owned.ensures ⨟ c.in_ok-done.ensures ⨟ c.in_ok-labels.ensures ⨟ c.in_err-kept.ensures).view

pub returns : goal.returns
returns g c =
    tells (c.in_ok-set.ensures ⨟ c.in_ok-owned.ensures ⨟ c.in_ok-done.ensures ⨟ c.in_ok-labels.ensures ⨟ c.in_ok-kept.ensures)
    (λ P all. record {
      meta = all.0.meta;
      branches = all.0.branches;
      closed_days = all.0.closed_days;
      kinds = all.0.kinds;
      rules = all.0.rules;
      patrons = all.1.0.patrons;
      titles = all.1.0.titles;
      copies = all.1.0.copies;
      loans = all.1.1.0.loans;
      holds = all.1.1.0.holds;
      transits = all.1.1.0.transits;
      lines = all.1.1.0.lines;
      kept = all.1.1.1.1;
      barcodes = all.1.1.1.0.barcodes;
      notes = all.1.1.1.0.notes;
    })
    (λ maps all. record { registers = all.0; holdings = all.1.0; dealings = all.1.1.0; labels = all.1.1.1.0; kept = all.1.1.1.1 })
