use Rattle.std.proofs.Common.{string_bytes, ap}
use Rattle.std.specs.Fmt.{styled_decimal}
use Rattle.desk.proofs.Looking.{if-ok}
use Rattle.desk.proofs.ReportRows.{charges-text}
use Rattle.desk.proofs.till.charges_line.Goals as goal

pub returns : goal.returns
returns c = if-ok _ _ c.format.result
    (λ text e. charges-text c.args.charges _ (string_bytes text) (ap (λ s. styled_decimal s c.args.charges) c.laid_out.ensures) e)
    c.format.ensures.ok
