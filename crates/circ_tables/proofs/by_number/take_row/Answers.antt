use Rattle.circ_tables.proofs.NumberedLemmas.{takes_row}
use Rattle.circ_tables.proofs.by_number.take_row.Goals as goal

pub returns : goal.returns
returns g c = takes_row g.met.T.Numbered.sound (g.T.Id.RowNumber.value c.args.number) _ _ _ _
    (rw (c.texts.ensures.take, c.params-to_sql.ensures, c.row_number.ensures) at c.run.ensures)
