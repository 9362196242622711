use Rattle.sql_maps.specs.Batches.{FirstRows}
use Rattle.circ_tables.specs.Holds.{holds}
use Rattle.circ_tables.specs.Selections.{is_ready_after}
use Rattle.circ_tables.specs.declared.by_number.TheConstants.{BATCH_ROWS}
use Rattle.store.specs.Batches.{AreReadyAfter}
use Rattle.store.proofs.BatchLemmas.{ready_after_are}
use Rattle.store.proofs.ReadLemmas.{looked_list}
use Rattle.store.proofs.store.Store.ready_holds.Goals as goal

pub returns : goal.returns
returns g c =
    looked_list holds (λ l. l.items) (λ m. FirstRows BATCH_ROWS m (is_ready_after c.args.branch c.args.after))
    (λ P rows. AreReadyAfter P c.args.branch c.args.after rows)
    (λ maps P is legal. ready_after_are maps P is legal c.args.branch c.args.after) g.S.Store _ _ _
    (rw c.self.view_is at (c.committed_is_held.ensures)) (rw c.self.view_is at c.ready_holds_after.ensures)
