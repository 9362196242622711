use Rattle.sql_maps.specs.Maps.{Listed}
use Rattle.circ_tables.specs.Holds.{holds}
use Rattle.circ_tables.specs.Selections.{is_active_for}
use Rattle.store.specs.Lists.{AreHoldsOn}
use Rattle.store.proofs.ListLemmas.{holds_on_are}
use Rattle.store.proofs.ReadLemmas.{looked_list}
use Rattle.store.proofs.store.Store.title_holds.Goals as goal

pub returns : goal.returns
returns g c =
    looked_list holds (λ l. l.items) (λ m. Listed m (is_active_for c.args.title)) (λ P rows. AreHoldsOn P c.args.title rows)
    (λ maps P is legal. holds_on_are maps P is legal c.args.title) g.S.Store _ _ _
    (rw c.self.view_is at (c.committed_is_held.ensures)) (rw c.self.view_is at c.active_holds_for.ensures)
