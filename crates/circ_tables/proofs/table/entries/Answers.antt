use Rattle.std.proofs.Common.{rules, arith, ◌<◌, length}
use Rattle.circ_tables.proofs.ColumnLemmas.{has_item}
use Rattle.circ_tables.proofs.table.entries.Goals as goal

pub returns-in_err-entry-clause-stored : goal.returns-in_err-entry-clause-stored
returns-in_err-entry-clause-stored g c is all =
    let below : c.rows.row-index < length c.args.rows.now = omega arith in
    let row = all c.row-item.result (has_item c.args.rows.now c.rows.row-index c.row-item.result below c.row-item.is) in
    c.in_err-entry.ensures.stored (search rules) row.0 row.1 row.2
