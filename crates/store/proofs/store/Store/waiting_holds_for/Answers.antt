use Rattle.sql_maps.specs.Batches.{FirstRows}
use Rattle.circ_tables.specs.Holds.{holds}
use Rattle.circ_tables.specs.Selections.{is_waiting_for_after}
use Rattle.circ_tables.specs.declared.by_number.TheConstants.{BATCH_ROWS}
use Rattle.store.specs.Batches.{AreWaitingForAfter}
use Rattle.store.proofs.BatchLemmas.{waiting_for_after_are}
use Rattle.store.proofs.ReadLemmas.{looked_list}
use Rattle.store.proofs.store.Store.waiting_holds_for.Goals as goal

pub returns : goal.returns
returns g c =
    looked_list holds (λ l. l.items) (λ m. FirstRows BATCH_ROWS m (is_waiting_for_after c.args.title c.args.after))
    (λ P rows. AreWaitingForAfter P c.args.title c.args.after rows)
    (λ maps P is legal. waiting_for_after_are maps P is legal c.args.title c.args.after) g.S.Store _ _ _
    (rw c.self.view_is at (c.committed_is_held.ensures)) (rw c.self.view_is at c.waiting_holds_for_after.ensures)
