use Rattle.model.proofs.Asking.{first-is-served, pulled-serves}
use Rattle.model.proofs.turns_law.Goals as goal

pub returns-clause-first : goal.returns-clause-first
returns-clause-first c = first-is-served

pub returns-clause-pulled : goal.returns-clause-pulled
returns-clause-pulled c = pulled-serves
