use Rattle.sql_maps.specs.Batches.{FirstRows}
use Rattle.circ_tables.specs.Loans.{loans}
use Rattle.circ_tables.specs.Selections.{is_loan_of_after}
use Rattle.circ_tables.specs.declared.by_number.TheConstants.{BATCH_ROWS}
use Rattle.store.specs.Batches.{AreLoansOfAfter}
use Rattle.store.proofs.BatchLemmas.{loans_of_after_are}
use Rattle.store.proofs.ReadLemmas.{looked_list}
use Rattle.store.proofs.store.Store.loans_of_copy.Goals as goal

pub returns : goal.returns
returns g c =
    looked_list loans (λ l. l.items) (λ m. FirstRows BATCH_ROWS m (is_loan_of_after c.args.copy c.args.after))
    (λ P rows. AreLoansOfAfter P c.args.copy c.args.after rows)
    (λ maps P is legal. loans_of_after_are maps P is legal c.args.copy c.args.after) g.S.Store _ _ _
    (rw c.self.view_is at (c.committed_is_held.ensures)) (rw c.self.view_is at c.loans_of_copy_after.ensures)
