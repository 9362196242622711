use Rattle.std.proofs.Common.{refl}
use Rattle.circ_tables.specs.Barcodes.{barcodes, barcodes_are}
use Rattle.circ_tables.specs.Cells.{number, thing_sort, thing_number}
use Rattle.circ_tables.specs.TableSchemas.{has_fourth}
use Rattle.terms.specs.declared.limits.TheConstants.{SCHEMA}
use Rattle.circ_tables.proofs.InverseLemmas.{barcode_told}
use Rattle.circ_tables.proofs.PairedLemmas.{get_plain, pair_gets}
use Rattle.circ_tables.proofs.ReadingLemmas.{gets_of}
use Rattle.circ_tables.proofs.barcodes.get_barcode.Goals as goal

pub returns : goal.returns
returns g c =
    gets_of barcodes barcode_told _ (get_plain (barcodes_are SCHEMA has_fourth)) c.args.thing _
    (pair_gets (barcodes_are SCHEMA has_fourth) (number (thing_sort c.args.thing)) (number (thing_number c.args.thing)) refl refl)
    (λ maps P is. is.barcodes.there c.args.thing tt) (λ P legal r there. (legal.barcodes c.args.thing r there).1) _ _ _ _
    (rw (
      c.params-to_sql.ensures,
      c.thing_numbers-sort.ensures.sort,
      c.params-to_sql-2.ensures,
      c.thing_numbers-sort.ensures.number,
    ) at c.row_of.ensures)
