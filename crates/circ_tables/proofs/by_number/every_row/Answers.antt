use Rattle.circ_tables.proofs.NumberedLemmas.{lists_all}
use Rattle.circ_tables.proofs.by_number.every_row.Goals as goal

pub returns : goal.returns
returns g c = lists_all g.met.T.Numbered.sound _ _ _ _ _ (rw (c.texts.ensures.all) at c.rows_of.ensures)
