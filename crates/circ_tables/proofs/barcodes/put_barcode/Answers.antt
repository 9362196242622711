use Rattle.std.proofs.Common.{pos, subst}
use Rattle.sqlite.specs.declared.types.Value.TheVariants.{Text}
use Rattle.terms.specs.declared.row.BarcodeRow.{BarcodeRow}
use Rattle.circ_tables.specs.Barcodes.{barcodes, barcodes_are}
use Rattle.circ_tables.specs.Cells.{number, thing_sort, thing_number}
use Rattle.circ_tables.specs.Puts.{PutsRow}
use Rattle.circ_tables.proofs.PairedLemmas.{pair_puts, barcode_fills}
use Rattle.circ_tables.proofs.PictureLemmas.{barcode_drawn}
use Rattle.circ_tables.proofs.PutLemmas.{apart, puts_of}
use Rattle.circ_tables.proofs.barcodes.put_barcode.Goals as goal

pub returns : goal.returns
returns g c =
    let thing = c.row.inside.thing in
    let barcode = c.row.inside.barcode.now in
    subst (λ (r : BarcodeRow). PutsRow barcodes r.thing r g.S.Store c.args.tx.now c.run.new.tx c.run.result) c.row.view_is
    (puts_of _ _ _ _ (λ n has. pair_puts (barcodes_are n has) (apart n) (number (thing_sort thing)) (number (thing_number thing)) _
    (barcode_fills (pos (thing_sort thing)) (pos (thing_number thing)) barcode)) (λ n has a b any. barcode_drawn n a b _)
    (rw (
      c.params-to_sql.ensures,
      c.thing_numbers-sort.ensures.sort,
      c.params-to_sql-2.ensures,
      c.thing_numbers-sort.ensures.number,
      c.params-to_sql-3.ensures,
      c.as_str.ensures.value,
    ) at c.run.ensures))
