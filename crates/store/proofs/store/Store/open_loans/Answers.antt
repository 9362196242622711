use Rattle.sql_maps.specs.Maps.{Listed}
use Rattle.circ_tables.specs.Loans.{loans}
use Rattle.circ_tables.specs.Selections.{is_open_by}
use Rattle.store.specs.Lists.{AreLoansBy}
use Rattle.store.proofs.ListLemmas.{loans_by_are}
use Rattle.store.proofs.ReadLemmas.{looked_list}
use Rattle.store.proofs.store.Store.open_loans.Goals as goal

pub returns : goal.returns
returns g c =
    looked_list loans (λ l. l.items) (λ m. Listed m (is_open_by c.args.patron)) (λ P rows. AreLoansBy P c.args.patron rows)
    (λ maps P is legal. loans_by_are maps P is legal c.args.patron) g.S.Store _ _ _
    (rw c.self.view_is at (c.committed_is_held.ensures)) (rw c.self.view_is at c.open_loans_by.ensures)
