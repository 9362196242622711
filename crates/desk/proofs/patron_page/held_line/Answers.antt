use Rattle.std.proofs.Common.{◌∙◌}
use Rattle.desk.proofs.Looking.{gives, stops, fails}
use Rattle.desk.proofs.PageRows.{hold-line}
use Rattle.desk.proofs.Sound.{hold-title}
use Rattle.desk.proofs.patron_page.held_line.Goals as goal

pub returns-in_err-title : goal.returns-in_err-title
returns-in_err-title g c = fails _ c.from_residual.ensures c.in_err-title.ensures (λ H list there. hold-title H list.0 c.args.row.now.hold c.args.row.now there)

pub returns-in_err-hold_line : goal.returns-in_err-hold_line
returns-in_err-hold_line g c = stops _ c.from_residual-in_err-hold_line.ensures c.in_ok-title.ensures

pub returns : goal.returns
returns g c = gives c.in_ok-title.ensures (λ H list there. hold-title H list.0 c.args.row.now.hold c.args.row.now there)
    (λ H legal there titled. c.in_ok-hold_line.ensures ∙ hold-line H c.args.row.now c.in_ok-title.title there titled)
