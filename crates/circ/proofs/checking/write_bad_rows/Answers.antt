use Rattle.std.proofs.Common.{rules}
use Rattle.front.specs.declared.checking.BadRow.{BadRow}
use Rattle.circ.specs.Importing.{bad_row_line}
use Rattle.circ.proofs.CheckedRows.{failed-line}
use Rattle.circ.proofs.checking.write_bad_rows.Goals as goal

pub returns-in_err-write_bad_row : goal.returns-in_err-write_bad_row
returns-in_err-write_bad_row g c = record {
  all = search rules;
  front = failed-line (λ (row : BadRow). bad_row_line row.number) c.from_residual.result _ _ _ c.args.bad.now c.loop-row.row-index _ c.loop-row-test.true
      c.loop-row.invariant c.in_err-write_bad_row.ensures.front;
}
