use Rattle.sql_maps.specs.Batches.{FirstRows}
use Rattle.circ_tables.specs.Copies.{copies}
use Rattle.circ_tables.specs.Selections.{is_copy_of_after}
use Rattle.circ_tables.specs.declared.by_number.TheConstants.{BATCH_ROWS}
use Rattle.store.specs.Batches.{AreCopiesAfter}
use Rattle.store.proofs.BatchLemmas.{copies_after_are}
use Rattle.store.proofs.ReadLemmas.{looked_list}
use Rattle.store.proofs.store.Store.copies_of_title.Goals as goal

pub returns : goal.returns
returns g c =
    looked_list copies (λ l. l.items) (λ m. FirstRows BATCH_ROWS m (is_copy_of_after c.args.title c.args.after))
    (λ P rows. AreCopiesAfter P c.args.title c.args.after rows)
    (λ maps P is legal. copies_after_are maps P is legal c.args.title c.args.after) g.S.Store _ _ _
    (rw c.self.view_is at (c.committed_is_held.ensures)) (rw c.self.view_is at c.copies_of_title_after.ensures)
