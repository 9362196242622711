use Rattle.std.proofs.Common.{sym, subst, List, ℕ}
use Rattle.model.proofs.Invariants.{legal-Invariant}
use Rattle.model.proofs.RowRanges.{legal-rows}
use Rattle.desk.specs.Touching.{Adds, HasLoanOf}
use Rattle.desk.proofs.Looking.{looked, gives, stops, fails}
use Rattle.desk.proofs.TitleReaders.{borrower-added}
use Rattle.desk.proofs.readers.add_borrower.Goals as goal

pub returns-in_err-loan : goal.returns-in_err-loan
returns-in_err-loan g c = fails _ c.from_residual.ensures (looked c.in_err-loan.ensures legal-rows legal-rows) (λ _ _ _. tt)

pub returns-in_err-add_patron : goal.returns-in_err-add_patron
returns-in_err-add_patron g c = stops _ c.from_residual-in_err-add_patron.ensures (looked c.in_ok-loan.ensures legal-rows legal-rows)

pub returns : goal.returns
returns g c = gives (looked c.in_ok-loan.ensures legal-rows legal-rows) (λ _ _ _. tt)
    (λ H legal _ is. subst (λ (new : List ℕ). Adds (HasLoanOf H c.args.copy) c.args.readers.now new) (sym c.in_ok-add_patron.ensures)
    (borrower-added H (legal-Invariant H legal) c.args.copy c.in_ok-loan.loan c.args.readers.now is))
