use Rattle.sql_maps.specs.Batches.{FirstRows}
use Rattle.circ_tables.specs.Loans.{loans}
use Rattle.circ_tables.specs.Selections.{is_overdue_after}
use Rattle.circ_tables.specs.declared.by_number.TheConstants.{BATCH_ROWS}
use Rattle.store.specs.Batches.{AreOverdueAfter}
use Rattle.store.proofs.BatchLemmas.{overdue_after_are}
use Rattle.store.proofs.ReadLemmas.{looked_list}
use Rattle.store.proofs.store.Store.overdue_loans.Goals as goal

pub returns : goal.returns
returns g c =
    looked_list loans (λ l. l.items) (λ m. FirstRows BATCH_ROWS m (is_overdue_after c.args.branch c.args.day c.args.after))
    (λ P rows. AreOverdueAfter P c.args.branch c.args.day c.args.after rows)
    (λ maps P is legal. overdue_after_are maps P is legal c.args.branch c.args.day c.args.after) g.S.Store _ _ _
    (rw c.self.view_is at (c.committed_is_held.ensures)) (rw c.self.view_is at c.overdue_loans_after.ensures)
