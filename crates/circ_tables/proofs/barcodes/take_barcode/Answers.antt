use Rattle.std.proofs.Common.{refl}
use Rattle.circ_tables.specs.Barcodes.{barcodes_are}
use Rattle.circ_tables.specs.Cells.{number, thing_sort, thing_number}
use Rattle.circ_tables.proofs.PairedLemmas.{pair_takes}
use Rattle.circ_tables.proofs.PictureLemmas.{barcode_taken}
use Rattle.circ_tables.proofs.PutLemmas.{apart, puts_of}
use Rattle.circ_tables.proofs.barcodes.take_barcode.Goals as goal

pub returns : goal.returns
returns g c =
    puts_of _ _ _ _
    (λ n has. pair_takes (barcodes_are n has) (apart n) (number (thing_sort c.args.thing)) (number (thing_number c.args.thing)) refl refl)
    (λ n has a b any. barcode_taken n a b c.args.thing)
    (rw (
      c.params-to_sql.ensures,
      c.thing_numbers-sort.ensures.sort,
      c.params-to_sql-2.ensures,
      c.thing_numbers-sort.ensures.number,
    ) at c.run.ensures)
