use Rattle.std.proofs.Common.{subst}
use Rattle.circ_tables.specs.Cells.{title_cells}
use Rattle.circ_tables.specs.Puts.{Runs}
use Rattle.terms.specs.declared.row.TitleRow.{TitleRow}
use Rattle.circ_tables.proofs.titles.TitlePutPut.run_with.Goals as goal

pub returns : goal.returns
returns g c = subst (λ (r : TitleRow). Runs c.args.sql.now (title_cells r) g.S.Store c.args.tx.now c.run.new.tx c.run.result) c.self.view_is
    (rw (c.params-to_sql.ensures, c.number.ensures.value, c.params-to_sql-2.ensures, c.as_str.ensures.value) at c.run.ensures)
