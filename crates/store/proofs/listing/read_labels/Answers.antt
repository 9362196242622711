use Rattle.store.proofs.ReviewLemmas.{◌⨟◌, faults, tells}
use Rattle.store.proofs.listing.read_labels.Goals as goal

pub returns-in_err-notes : goal.returns-in_err-notes
returns-in_err-notes g c = faults _ _ c.from_residual-in_err-notes.ensures (c.in_ok-barcodes.ensures ⨟ c.in_err-notes.ensures).view

pub returns : goal.returns
returns g c =
    tells (c.in_ok-barcodes.ensures ⨟ c.in_ok-notes.ensures)
    (λ P all. record { barcodes = all.0; notes = all.1 })
    (λ maps all. record { barcodes = all.0; notes = all.1 })
