use Rattle.sql_maps.specs.Batches.{FirstRows}
use Rattle.circ_tables.specs.Lines.{lines}
use Rattle.circ_tables.specs.Selections.{is_account_line_after}
use Rattle.circ_tables.specs.declared.by_number.TheConstants.{BATCH_ROWS}
use Rattle.store.specs.Batches.{AreAccountLinesAfter}
use Rattle.store.proofs.BatchLemmas.{account_lines_after_are}
use Rattle.store.proofs.ReadLemmas.{looked_list}
use Rattle.store.proofs.store.Store.account_lines.Goals as goal

pub returns : goal.returns
returns g c =
    looked_list lines (λ l. l.items) (λ m. FirstRows BATCH_ROWS m (is_account_line_after c.args.patron c.args.after))
    (λ P rows. AreAccountLinesAfter P c.args.patron c.args.after rows)
    (λ maps P is legal. account_lines_after_are maps P is legal c.args.patron c.args.after) g.S.Store _ _ _
    (rw c.self.view_is at (c.committed_is_held.ensures)) (rw c.self.view_is at c.account_lines_after.ensures)
