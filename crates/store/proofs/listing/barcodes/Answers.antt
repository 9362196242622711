use Rattle.store.proofs.ListLemmas.{barcodes_seen}
use Rattle.store.proofs.ReviewLemmas.{faults, rows_taken, listed}
use Rattle.store.proofs.listing.barcodes.Goals as goal

pub returns-in_err-found : goal.returns-in_err-found
returns-in_err-found g c = faults _ _ c.from_residual.ensures (barcodes_seen c.in_err-found.ensures)

pub returns : goal.returns
returns g c =
    rows_taken _ c.in_ok-found.found.items c.new.result c.new.ensures.ok c.new.ensures.err
    (listed c.in_ok-found.ensures (barcodes_seen c.in_ok-found.ensures)) (λ P rows. (rows, rows.order)) (λ maps legal. legal)
