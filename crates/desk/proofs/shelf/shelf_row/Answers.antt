use Rattle.std.proofs.Common.{string_bytes}
use Rattle.std.specs.Fmt.{styled_decimal}
use Rattle.desk.proofs.Looking.{if-ok}
use Rattle.desk.proofs.ReportRows.{shelf-text}
use Rattle.desk.proofs.shelf.shelf_row.Goals as goal

pub returns : goal.returns
returns c = if-ok _ _ c.format.result
    (λ text e. shelf-text c.args.row.now c.args.copy c.args.limit_day _ _ _ c.args.title.now.text (string_bytes text)
    (λ i. styled_decimal (c.laid_out.ensures i) (c.number-hold.ensures.value i))
    (λ i. styled_decimal (c.laid_out-2.ensures i) (c.number-copy.ensures.value i))
    (λ i. styled_decimal (c.laid_out-3.ensures i) (c.number-patron.ensures.value i)) e)
    c.format.ensures.ok
