use Rattle.circ_tables.proofs.NumberLemmas.{listed}
use Rattle.circ_tables.proofs.NumberedLemmas.{lists_next}
use Rattle.circ_tables.proofs.by_number.next_rows.Goals as goal

pub returns : goal.returns
returns g c = lists_next g.met.T.Numbered.sound c.args.after _ _ _ _ _
    (rw (c.next_batch-asked.ensures.text, listed _ _ c.as_slice.ensures, c.next_batch-asked.ensures.given) at c.rows_of.ensures)
