use Rattle.circ_tables.proofs.NumberLemmas.{amount_back, bound_optional}
use Rattle.circ_tables.proofs.loans.LoanRowPut.run_with.Goals as goal

pub returns : goal.returns
returns g c =
    let first = rw (
      c.params-to_sql.ensures,
      c.number.ensures.value,
      c.params-to_sql-2.ensures,
      c.number-2.ensures.value,
      c.params-to_sql-3.ensures,
      c.number-3.ensures.value,
      c.params-to_sql-4.ensures,
      c.number-4.ensures.value,
      c.params-to_sql-5.ensures,
      c.number-5.ensures.value,
    ) at c.run.ensures in
    rw (
      c.params-to_sql-6.ensures,
      c.number-6.ensures.value,
      c.params-to_sql-7.ensures,
      c.number-7.ensures.value,
      c.params-to_sql-8.ensures,
      c.number-8.ensures.value,
      c.params-to_sql-9.ensures,
      amount_back _ _ c.money-rate.ensures,
      c.params-to_sql-10.ensures,
      amount_back _ _ c.money-cap.ensures,
      c.params-to_sql-11.ensures,
      c.day_or_null.ensures,
      bound_optional c.args.self.now.ended,
      c.params-to_sql-12.ensures,
      c.number-9.ensures.value,
    ) at first
