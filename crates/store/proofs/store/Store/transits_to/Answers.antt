use Rattle.sql_maps.specs.Batches.{FirstRows}
use Rattle.circ_tables.specs.Transits.{transits}
use Rattle.circ_tables.specs.Selections.{is_transit_to_after}
use Rattle.circ_tables.specs.declared.by_number.TheConstants.{BATCH_ROWS}
use Rattle.store.specs.Batches.{AreTransitsAfter}
use Rattle.store.proofs.BatchLemmas.{transits_after_are}
use Rattle.store.proofs.ReadLemmas.{looked_list}
use Rattle.store.proofs.store.Store.transits_to.Goals as goal

pub returns : goal.returns
returns g c =
    looked_list transits (λ l. l.items) (λ m. FirstRows BATCH_ROWS m (is_transit_to_after c.args.branch c.args.after))
    (λ P rows. AreTransitsAfter P c.args.branch c.args.after rows)
    (λ maps P is legal. transits_after_are maps P is legal c.args.branch c.args.after) g.S.Store _ _ _
    (rw c.self.view_is at (c.committed_is_held.ensures)) (rw c.self.view_is at c.transits_to_after.ensures)
