use Rattle.circ_tables.specs.Copies.{copies}
use Rattle.store.proofs.ReadLemmas.{looked_row}
use Rattle.store.proofs.store.Store.copy.Goals as goal

pub returns : goal.returns
returns g c =
    looked_row copies c.args.copy g.S.Store (λ P legal r there. (legal.copies c.args.copy r there).1) _ _ _
    (rw c.self.view_is at (c.committed_is_held.ensures)) (rw c.self.view_is at c.get_row.ensures)
