use Rattle.circ_tables.proofs.NumberLemmas.{bound_optional}
use Rattle.circ_tables.proofs.holds.HoldRowPut.run_with.Goals as goal

pub returns : goal.returns
returns g c =
    let first = rw (
      c.params-to_sql.ensures,
      c.number.ensures.value,
      c.params-to_sql-2.ensures,
      c.number-2.ensures.value,
      c.params-to_sql-3.ensures,
      c.number-3.ensures.value,
      c.params-to_sql-4.ensures,
      c.number-4.ensures.value,
    ) at c.run.ensures in
    rw (
      c.params-to_sql-5.ensures,
      c.state_number.ensures,
      c.params-to_sql-6.ensures,
      c.copy_or_null.ensures,
      bound_optional c.args.self.now.copy,
      c.params-to_sql-7.ensures,
      c.day_or_null.ensures,
      bound_optional c.args.self.now.limit_day,
      c.params-to_sql-8.ensures,
      c.day_or_null-2.ensures,
      bound_optional c.args.self.now.first_day,
    ) at first
