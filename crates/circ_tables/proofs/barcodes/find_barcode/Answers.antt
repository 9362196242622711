use Rattle.sql_maps.specs.Maps.{FirstOfBy, PairBelow}
use Rattle.circ_tables.specs.Barcodes.{barcodes}
use Rattle.circ_tables.specs.Shape.{barcodes_place}
use Rattle.circ_tables.proofs.LabelLemmas.{Has, find_found, find_plain, find_seen}
use Rattle.circ_tables.proofs.ReadingLemmas.{selects_of}
use Rattle.circ_tables.proofs.TableLemmas.{barcodes_within}
use Rattle.circ_tables.proofs.barcodes.find_barcode.Goals as goal

pub returns-clause-selects : goal.returns-clause-selects
returns-clause-selects g c =
    selects_of barcodes _ find_plain _ (λ maps. FirstOfBy PairBelow (maps barcodes_place) (Has c.args.barcode.now))
    (find_found c.args.barcode.now) (λ maps v found. found.0) barcodes_within _ _ _ _
    (rw (c.params-to_sql.ensures, c.as_str.ensures.value) at c.row_of.ensures)

pub returns-clause-view : goal.returns-clause-view
returns-clause-view g c = find_seen (
    selects_of barcodes _ find_plain _ (λ maps. FirstOfBy PairBelow (maps barcodes_place) (Has c.args.barcode.now))
    (find_found c.args.barcode.now) (λ maps v found. found.0) barcodes_within _ _ _ _
    (rw (c.params-to_sql.ensures, c.as_str.ensures.value) at c.row_of.ensures))
