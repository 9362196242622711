use Rattle.sql_maps.specs.Maps.{PairBelow}
use Rattle.sql_maps.specs.Batches.{FirstRowsBy}
use Rattle.circ_tables.specs.ClosedDays.{closed_days}
use Rattle.circ_tables.specs.Selections.{is_second_after}
use Rattle.circ_tables.specs.declared.by_number.TheConstants.{BATCH_ROWS}
use Rattle.store.specs.Batches.{AreClosedDaysAfter}
use Rattle.store.proofs.PairedBatches.{closed_days_after_are}
use Rattle.store.proofs.ReadLemmas.{looked_list}
use Rattle.store.proofs.store.Store.closed_days_after.Goals as goal

pub returns : goal.returns
returns g c =
    looked_list closed_days (λ l. l.items) (λ m. FirstRowsBy PairBelow BATCH_ROWS m (is_second_after c.args.branch c.args.after))
    (λ P rows. AreClosedDaysAfter P c.args.branch c.args.after rows)
    (λ maps P is legal. closed_days_after_are maps P is legal c.args.branch c.args.after) g.S.Store _ _ _
    (rw c.self.view_is at (c.committed_is_held.ensures)) (rw c.self.view_is at c.closed_days_after.ensures)
