use Rattle.circ_tables.specs.Titles.{titles}
use Rattle.store.proofs.ReadLemmas.{looked_row}
use Rattle.store.proofs.store.Store.title.Goals as goal

pub returns : goal.returns
returns g c =
    looked_row titles c.args.title g.S.Store (λ P legal r there. (legal.titles c.args.title r there).1) _ _ _
    (rw c.self.view_is at (c.committed_is_held.ensures)) (rw c.self.view_is at c.get_row.ensures)
