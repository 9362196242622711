use Rattle.circ_tables.specs.Kinds.{kinds}
use Rattle.store.proofs.ReadLemmas.{looked_row}
use Rattle.store.proofs.store.Store.kind.Goals as goal

pub returns : goal.returns
returns g c =
    looked_row kinds c.args.kind g.S.Store (λ P legal r there. (legal.kinds c.args.kind r there).1) _ _ _
    (rw c.self.view_is at (c.committed_is_held.ensures)) (rw c.self.view_is at c.get_row.ensures)
