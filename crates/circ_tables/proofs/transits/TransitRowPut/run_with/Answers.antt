use Rattle.circ_tables.proofs.NumberLemmas.{bound_optional}
use Rattle.circ_tables.proofs.transits.TransitRowPut.run_with.Goals as goal

pub returns : goal.returns
returns g c = rw (
  c.params-to_sql.ensures,
  c.number.ensures.value,
  c.params-to_sql-2.ensures,
  c.number-2.ensures.value,
  c.params-to_sql-3.ensures,
  c.hold_or_null.ensures,
  bound_optional c.args.self.now.hold,
) at c.run.ensures
