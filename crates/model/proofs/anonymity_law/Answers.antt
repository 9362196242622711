use Rattle.model.proofs.Anonymous.{anonymity, swaps-rename}
use Rattle.model.proofs.anonymity_law.Goals as goal

pub returns-clause-learns_nothing : goal.returns-clause-learns_nothing
returns-clause-learns_nothing c = anonymity

pub returns-clause-swaps : goal.returns-clause-swaps
returns-clause-swaps c = swaps-rename
