use Rattle.circ_tables.specs.Notes.{notes}
use Rattle.store.proofs.ReadLemmas.{looked_row}
use Rattle.store.proofs.store.Store.note.Goals as goal

pub returns : goal.returns
returns g c =
    looked_row notes c.args.line g.S.Store (λ P legal r there. (legal.notes c.args.line r there).1) _ _ _
    (rw c.self.view_is at (c.committed_is_held.ensures)) (rw c.self.view_is at c.get_row.ensures)
