use Rattle.circ_tables.proofs.NumberedLemmas.{gets_row}
use Rattle.circ_tables.proofs.by_number.get_row.Goals as goal

pub returns : goal.returns
returns g c = gets_row g.met.T.Numbered.sound (g.T.Id.RowNumber.value c.args.number) _ _ _ _
    (rw (c.texts.ensures.get, c.params-to_sql.ensures, c.row_number.ensures) at c.row_of.ensures)
