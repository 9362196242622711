use Rattle.std.proofs.Common.{subst}
use Rattle.circ_tables.specs.Cells.{branch_cells}
use Rattle.circ_tables.specs.Puts.{Runs}
use Rattle.terms.specs.declared.row.BranchRow.{BranchRow}
use Rattle.circ_tables.proofs.branches.BranchPutPut.run_with.Goals as goal

pub returns : goal.returns
returns g c = subst (λ (r : BranchRow). Runs c.args.sql.now (branch_cells r) g.S.Store c.args.tx.now c.run.new.tx c.run.result) c.self.view_is
    (rw (
      c.params-to_sql.ensures,
      c.number.ensures.value,
      c.params-to_sql-2.ensures,
      c.number-2.ensures.value,
      c.params-to_sql-3.ensures,
      c.in_ok-week.ensures.text,
      c.letters-letters.ensures,
      c.params-to_sql-4.ensures,
      c.as_str.ensures.value,
    ) at c.run.ensures)
