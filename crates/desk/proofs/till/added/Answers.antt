use Rattle.std.proofs.Common.{◌<◌, length, arith}
use Rattle.desk.proofs.TillSums.{sum-more}
use Rattle.desk.proofs.till.added.Goals as goal

pub rows-preserved : goal.rows-preserved
rows-preserved c =
    let within : c.rows.row-index < length c.args.rows.now = c.rows-test.true in
    let more = sum-more c.args.sort c.args.rows.now c.rows.row-index c.row-item.result within c.row-item.is in
    omega (arith, more, c.saturating_add-total.ensures, c.rows.invariant, c.amount_of.ensures)
