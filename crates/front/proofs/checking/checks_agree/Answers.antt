use Rattle.front.proofs.CheckFiles as lemmas
use Rattle.front.proofs.checking.checks_agree.Goals as goal

pub returns : goal.returns
returns c = lemmas.checks_agree
