use Rattle.model.proofs.Schemas.{tables-led, within-schema-2, within-schema-3}
use Rattle.model.proofs.old_tables_law.Goals as goal

pub returns-clause-led : goal.returns-clause-led
returns-clause-led c = tables-led

pub returns-clause-within_2 : goal.returns-clause-within_2
returns-clause-within_2 c = within-schema-2

pub returns-clause-within_3 : goal.returns-clause-within_3
returns-clause-within_3 c = within-schema-3
