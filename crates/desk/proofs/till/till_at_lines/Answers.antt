use Rattle.std.proofs.Common.{string_bytes, ap}
use Rattle.std.specs.Fmt.{styled_decimal}
use Rattle.desk.proofs.Looking.{if-ok}
use Rattle.desk.proofs.ReportRows.{till-at-text}
use Rattle.desk.proofs.till.till_at_lines.Goals as goal

pub returns : goal.returns
returns c = if-ok _ _ c.format.result
    (λ text e. till-at-text c.args.branch c.args.day c.args.sums _ _ (string_bytes text)
    (ap (λ s. styled_decimal s c.args.sums.payments) c.laid_out.ensures)
    (ap (λ s. styled_decimal s c.args.sums.charges) c.laid_out-2.ensures) e)
    c.format.ensures.ok
