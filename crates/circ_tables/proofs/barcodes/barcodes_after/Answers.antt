use Rattle.sql_maps.specs.Maps.{PairBelow}
use Rattle.sql_maps.specs.Batches.{FirstRowsBy}
use Rattle.circ_tables.specs.Barcodes.{barcodes}
use Rattle.circ_tables.specs.Cells.{thing_sort, thing_number}
use Rattle.circ_tables.specs.Selections.{is_second_after}
use Rattle.circ_tables.specs.declared.by_number.TheConstants.{BATCH_ROWS}
use Rattle.circ_tables.proofs.BatchLemmas.{pairs_there, barcodes_after_found, barcodes_after_plain}
use Rattle.circ_tables.proofs.ReadingLemmas.{lists_of}
use Rattle.circ_tables.proofs.TableLemmas.{barcodes_within}
use Rattle.circ_tables.proofs.barcodes.barcodes_after.Goals as goal

pub returns : goal.returns
returns g c =
    lists_of barcodes _ _ barcodes_after_plain _ (λ m. FirstRowsBy PairBelow BATCH_ROWS m (is_second_after (thing_sort c.args.thing) (thing_number c.args.thing)))
    (barcodes_after_found (thing_sort c.args.thing) (thing_number c.args.thing)) (pairs_there (is_second_after (thing_sort c.args.thing) (thing_number c.args.thing))) barcodes_within _ _ _ _
    (rw (c.params-to_sql.ensures, c.thing_numbers-sort.ensures.sort, c.params-to_sql-2.ensures, c.thing_numbers-sort.ensures.number) at c.rows_of.ensures)
