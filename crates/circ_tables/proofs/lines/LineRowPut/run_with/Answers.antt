use Rattle.circ_tables.proofs.NumberLemmas.{amount_back, bound_optional}
use Rattle.circ_tables.proofs.lines.LineRowPut.run_with.Goals as goal

pub returns : goal.returns
returns g c = rw (
  c.params-to_sql.ensures,
  c.number.ensures.value,
  c.params-to_sql-2.ensures,
  c.number-2.ensures.value,
  c.params-to_sql-3.ensures,
  c.number-3.ensures.value,
  c.params-to_sql-4.ensures,
  c.sort_number.ensures,
  c.params-to_sql-5.ensures,
  amount_back _ _ c.money-amount.ensures,
  c.params-to_sql-6.ensures,
  c.loan_or_null.ensures,
  bound_optional c.args.self.now.loan,
) at c.run.ensures
