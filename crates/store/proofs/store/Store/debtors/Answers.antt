use Rattle.sql_maps.specs.Batches.{FirstRows}
use Rattle.circ_tables.specs.Patrons.{patrons}
use Rattle.circ_tables.specs.Selections.{is_debtor_after}
use Rattle.circ_tables.specs.declared.by_number.TheConstants.{BATCH_ROWS}
use Rattle.store.specs.Batches.{AreDebtorsAfter}
use Rattle.store.proofs.BatchLemmas.{debtors_after_are}
use Rattle.store.proofs.ReadLemmas.{looked_list}
use Rattle.store.proofs.store.Store.debtors.Goals as goal

pub returns : goal.returns
returns g c =
    looked_list patrons (λ l. l.items) (λ m. FirstRows BATCH_ROWS m (is_debtor_after c.args.after))
    (λ P rows. AreDebtorsAfter P c.args.after rows)
    (λ maps P is legal. debtors_after_are maps P is legal c.args.after) g.S.Store _ _ _
    (rw c.self.view_is at (c.committed_is_held.ensures)) (rw c.self.view_is at c.debtors_after.ensures)
