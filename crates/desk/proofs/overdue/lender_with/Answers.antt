use Rattle.std.proofs.Common.{refl, ap}
use Rattle.terms.specs.declared.row.MetaRow.{MetaRow}
use Rattle.model.proofs.RowRanges.{legal-rows}
use Rattle.desk.proofs.Looking.{looked, gives, fails}
use Rattle.desk.proofs.overdue.lender_with.Goals as goal

pub returns-in_err-meta : goal.returns-in_err-meta
returns-in_err-meta g c = fails _ c.from_residual.ensures (looked c.in_err-meta.ensures legal-rows legal-rows) (λ _ _ _. tt)

pub returns : goal.returns
returns g c = gives (looked c.in_ok-meta.ensures legal-rows legal-rows) (λ _ _ _. tt) (λ H legal _ is.
    (refl, λ days. record { of_branch = days; is_today = ap (λ (row : MetaRow). row.today) is }))
