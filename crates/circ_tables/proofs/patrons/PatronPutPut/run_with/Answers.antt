use Rattle.circ_tables.proofs.NumberLemmas.{amount_back}
use Rattle.std.proofs.Common.{subst}
use Rattle.circ_tables.specs.Cells.{patron_cells}
use Rattle.circ_tables.specs.Puts.{Runs}
use Rattle.terms.specs.declared.row.PatronRow.{PatronRow}
use Rattle.circ_tables.proofs.patrons.PatronPutPut.run_with.Goals as goal

pub returns : goal.returns
returns g c = subst (λ (r : PatronRow). Runs c.args.sql.now (patron_cells r) g.S.Store c.args.tx.now c.run.new.tx c.run.result) c.self.view_is
    (rw (
      c.params-to_sql.ensures,
      c.number.ensures.value,
      c.params-to_sql-2.ensures,
      c.number-2.ensures.value,
      c.params-to_sql-3.ensures,
      c.as_str.ensures.value,
      c.params-to_sql-4.ensures,
      c.as_str-2.ensures.value,
      c.params-to_sql-5.ensures,
      amount_back _ _ c.money-owed.ensures,
    ) at c.run.ensures)
