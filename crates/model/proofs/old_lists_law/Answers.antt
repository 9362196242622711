use Rattle.model.proofs.Schemas.{stands-1, stands-2, stands-3, fines-without-grace}
use Rattle.model.proofs.old_lists_law.Goals as goal

pub returns-clause-schema_1 : goal.returns-clause-schema_1
returns-clause-schema_1 c = stands-1

pub returns-clause-schema_2 : goal.returns-clause-schema_2
returns-clause-schema_2 c = stands-2

pub returns-clause-schema_3 : goal.returns-clause-schema_3
returns-clause-schema_3 c = stands-3

pub returns-clause-fines : goal.returns-clause-fines
returns-clause-fines c = fines-without-grace
