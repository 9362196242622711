use Rattle.std.proofs.Common.{◌∙◌}
use Rattle.model.proofs.References.{legal-references}
use Rattle.desk.proofs.Looking.{gives, fails}
use Rattle.desk.proofs.ListRows.{charge-text}
use Rattle.desk.proofs.lists.account_row.Goals as goal

pub returns-in_err-title-in-Some : goal.returns-in_err-title-in-Some
returns-in_err-title-in-Some g c = fails _ c.from_residual.ensures c.in_err-title-in-Some.ensures
    (λ H list given. (legal-references H list.0).line_loan c.args.row.now.line c.in-Some.loan c.args.row.now given c.in-Some.is)

pub returns-in_ok-charge_row-in-Some : goal.returns-in_ok-charge_row-in-Some
returns-in_ok-charge_row-in-Some g c = gives c.in_ok-title-in-Some.ensures
    (λ H list given. (legal-references H list.0).line_loan c.args.row.now.line c.in-Some.loan c.args.row.now given c.in-Some.is)
    (λ H legal given is. c.in_ok-charge_row-in-Some.ensures
    ∙ charge-text H c.in-Some.loan c.args.row.now c.in_ok-title-in-Some.title c.in-Some.is is)
