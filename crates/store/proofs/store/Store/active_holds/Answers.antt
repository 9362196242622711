use Rattle.sql_maps.specs.Maps.{Listed}
use Rattle.circ_tables.specs.Holds.{holds}
use Rattle.circ_tables.specs.Selections.{is_active_by}
use Rattle.store.specs.Lists.{AreHoldsBy}
use Rattle.store.proofs.ListLemmas.{holds_by_are}
use Rattle.store.proofs.ReadLemmas.{looked_list}
use Rattle.store.proofs.store.Store.active_holds.Goals as goal

pub returns : goal.returns
returns g c =
    looked_list holds (λ l. l.items) (λ m. Listed m (is_active_by c.args.patron)) (λ P rows. AreHoldsBy P c.args.patron rows)
    (λ maps P is legal. holds_by_are maps P is legal c.args.patron) g.S.Store _ _ _
    (rw c.self.view_is at (c.committed_is_held.ensures)) (rw c.self.view_is at c.active_holds_by.ensures)
