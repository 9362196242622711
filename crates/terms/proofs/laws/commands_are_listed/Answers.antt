use Rattle.terms.proofs.TableLemmas.{listed}
use Rattle.terms.proofs.laws.commands_are_listed.Goals as goal

pub returns : goal.returns
returns c = listed
