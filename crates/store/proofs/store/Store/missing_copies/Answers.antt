use Rattle.sql_maps.specs.Batches.{FirstRows}
use Rattle.circ_tables.specs.Copies.{copies}
use Rattle.circ_tables.specs.Selections.{is_missing_after}
use Rattle.circ_tables.specs.declared.by_number.TheConstants.{BATCH_ROWS}
use Rattle.store.specs.Batches.{AreMissingAfter}
use Rattle.store.proofs.BatchLemmas.{missing_after_are}
use Rattle.store.proofs.ReadLemmas.{looked_list}
use Rattle.store.proofs.store.Store.missing_copies.Goals as goal

pub returns : goal.returns
returns g c =
    looked_list copies (λ l. l.items) (λ m. FirstRows BATCH_ROWS m (is_missing_after c.args.after))
    (λ P rows. AreMissingAfter P c.args.after rows)
    (λ maps P is legal. missing_after_are maps P is legal c.args.after) g.S.Store _ _ _
    (rw c.self.view_is at (c.committed_is_held.ensures)) (rw c.self.view_is at c.missing_copies_after.ensures)
