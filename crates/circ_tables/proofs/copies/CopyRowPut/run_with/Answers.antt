use Rattle.circ_tables.proofs.NumberLemmas.{amount_back}
use Rattle.circ_tables.proofs.copies.CopyRowPut.run_with.Goals as goal

pub returns : goal.returns
returns g c = rw (
  c.params-to_sql.ensures,
  c.number.ensures.value,
  c.params-to_sql-2.ensures,
  c.number-2.ensures.value,
  c.params-to_sql-3.ensures,
  c.number-3.ensures.value,
  c.params-to_sql-4.ensures,
  c.number-4.ensures.value,
  c.params-to_sql-5.ensures,
  amount_back _ _ c.money-price.ensures,
  c.params-to_sql-6.ensures,
  c.condition_number.ensures,
) at c.run.ensures
