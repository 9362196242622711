use Rattle.circ_tables.specs.Barcodes.{barcodes}
use Rattle.store.proofs.ReadLemmas.{looked_row}
use Rattle.store.proofs.store.Store.barcode.Goals as goal

pub returns : goal.returns
returns g c =
    looked_row barcodes c.args.thing g.S.Store (λ P legal r there. (legal.barcodes c.args.thing r there).1) _ _ _
    (rw c.self.view_is at (c.committed_is_held.ensures)) (rw c.self.view_is at c.get_barcode.ensures)
