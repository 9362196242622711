use Rattle.sql_maps.specs.Batches.{FirstRows}
use Rattle.circ_tables.specs.Lines.{lines}
use Rattle.circ_tables.specs.Selections.{is_line_after}
use Rattle.circ_tables.specs.declared.by_number.TheConstants.{BATCH_ROWS}
use Rattle.store.specs.Batches.{AreLinesAfter}
use Rattle.store.proofs.BatchLemmas.{lines_after_are}
use Rattle.store.proofs.ReadLemmas.{looked_list}
use Rattle.store.proofs.store.Store.lines.Goals as goal

pub returns : goal.returns
returns g c =
    looked_list lines (λ l. l.items) (λ m. FirstRows BATCH_ROWS m (is_line_after c.args.day c.args.after))
    (λ P rows. AreLinesAfter P c.args.day c.args.after rows)
    (λ maps P is legal. lines_after_are maps P is legal c.args.day c.args.after) g.S.Store _ _ _
    (rw c.self.view_is at (c.committed_is_held.ensures)) (rw c.self.view_is at c.lines_after.ensures)
