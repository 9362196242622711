use Rattle.std.proofs.Common.{◌∙◌}
use Rattle.desk.proofs.Looking.{gives, stops, fails}
use Rattle.desk.proofs.PageRows.{loan-line}
use Rattle.desk.proofs.Sound.{loan-copy}
use Rattle.desk.proofs.patron_page.lent_line.Goals as goal

pub returns-in_err-title : goal.returns-in_err-title
returns-in_err-title g c = fails _ c.from_residual.ensures c.in_err-title.ensures (λ H list there. loan-copy H list.0 c.args.row.now.loan c.args.row.now there)

pub returns-in_err-loan_line : goal.returns-in_err-loan_line
returns-in_err-loan_line g c = stops _ c.from_residual-in_err-loan_line.ensures c.in_ok-title.ensures

pub returns : goal.returns
returns g c = gives c.in_ok-title.ensures (λ H list there. loan-copy H list.0 c.args.row.now.loan c.args.row.now there)
    (λ H legal there found. c.in_ok-loan_line.ensures ∙ loan-line H c.args.row.now found.0 c.in_ok-title.title there found.1 found.2)
