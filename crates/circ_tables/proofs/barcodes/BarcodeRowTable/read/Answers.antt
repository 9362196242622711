use Rattle.std.proofs.Common.{refl, ◌∙◌}
use Rattle.circ_tables.proofs.ColumnLemmas.{row_of}
use Rattle.circ_tables.proofs.barcodes.BarcodeRowTable.read.Goals as goal

pub returns-clause-cells : goal.returns-clause-cells
returns-clause-cells c = row_of c.args.row.now 3 c.in_ok-has_width.ensures.ok
    ∙ rw (c.in_ok-thing_at.ensures.ok.0, c.in_ok-thing_at.ensures.ok.1, c.in_ok-barcode_at.ensures.ok.0) refl
