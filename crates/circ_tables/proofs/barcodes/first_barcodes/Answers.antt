use Rattle.sql_maps.specs.Maps.{PairBelow}
use Rattle.sql_maps.specs.Batches.{FirstRowsBy}
use Rattle.circ_tables.specs.Barcodes.{barcodes}
use Rattle.circ_tables.specs.Selections.{is_any}
use Rattle.circ_tables.specs.declared.by_number.TheConstants.{BATCH_ROWS}
use Rattle.circ_tables.proofs.BatchLemmas.{pairs_there, first_barcodes_found, first_barcodes_plain}
use Rattle.circ_tables.proofs.ReadingLemmas.{lists_of}
use Rattle.circ_tables.proofs.TableLemmas.{barcodes_within}
use Rattle.circ_tables.proofs.barcodes.first_barcodes.Goals as goal

pub returns : goal.returns
returns g c =
    lists_of barcodes _ _ first_barcodes_plain _ (λ m. FirstRowsBy PairBelow BATCH_ROWS m is_any)
    first_barcodes_found (pairs_there is_any) barcodes_within _ _ _ _
    c.rows_of.ensures
