use Rattle.model.proofs.Found.{patrons-are-found, titles-are-found}
use Rattle.model.proofs.found_law.Goals as goal

pub returns-clause-patrons : goal.returns-clause-patrons
returns-clause-patrons c = patrons-are-found

pub returns-clause-titles : goal.returns-clause-titles
returns-clause-titles c = titles-are-found
