use Rattle.circ_tables.specs.Branches.{branches}
use Rattle.store.proofs.ReadLemmas.{looked_row}
use Rattle.store.proofs.store.Store.branch.Goals as goal

pub returns : goal.returns
returns g c =
    looked_row branches c.args.branch g.S.Store (λ P legal r there. (legal.branches c.args.branch r there).1) _ _ _
    (rw c.self.view_is at (c.committed_is_held.ensures)) (rw c.self.view_is at c.get_row.ensures)
