use Rattle.store.proofs.BatchLemmas.{passed_over}
use Rattle.store.proofs.OldRows.{number_found, first_fails}
use Rattle.store.proofs.older.least_number.Goals as goal

pub returns-in_err-batch : goal.returns-in_err-batch
returns-in_err-batch g c = first_fails _ _ c.from_residual.ensures (passed_over c.in_err-batch.ensures)

pub returns : goal.returns
returns g c = rw (c.first_of.ensures, c.as_slice.ensures.value) (number_found g.met.R.Numbered.sound c.in_ok-batch.ensures)
