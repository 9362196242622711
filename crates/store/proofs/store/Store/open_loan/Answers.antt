use Rattle.circ_core.specs.Views.{IsLoanOf}
use Rattle.circ_tables.specs.Loans.{loans_are}
use Rattle.circ_tables.proofs.ShownLemmas.{are_encoded}
use Rattle.store.proofs.ReadLemmas.{looked_sound}
use Rattle.store.proofs.ViewLemmas.{loan_seen, selects_sound}
use Rattle.store.proofs.store.Store.open_loan.Goals as goal

pub returns : goal.returns
returns g c =
    let found = rw c.self.view_is at c.open_loan_of.ensures in
    looked_sound (λ P loan. IsLoanOf P c.args.copy loan) g.S.Store _ _ _ (rw c.self.view_is at (c.committed_is_held.ensures))
    (loan_seen found) (selects_sound (are_encoded loans_are) found)
