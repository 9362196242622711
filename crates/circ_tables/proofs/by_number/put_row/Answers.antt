use Rattle.circ_tables.proofs.NumberedLemmas.{puts_row}
use Rattle.circ_tables.proofs.by_number.put_row.Goals as goal

pub returns : goal.returns
returns g c = puts_row g.met.P.Row.Numbered.sound (g.P.Put.entry c.args.row.now) _ _ _ _ (rw (c.texts.ensures.put) at c.run_with.ensures)
