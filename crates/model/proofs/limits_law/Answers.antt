use Rattle.model.proofs.Limits.{limits}
use Rattle.model.proofs.StandingLimits.{few-at-all-times}
use Rattle.model.proofs.limits_law.Goals as goal

pub returns-clause-each : goal.returns-clause-each
returns-clause-each c = limits

pub returns-clause-always : goal.returns-clause-always
returns-clause-always c = few-at-all-times
