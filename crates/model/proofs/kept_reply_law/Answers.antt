use Rattle.model.proofs.RepeatedLists as lemmas
use Rattle.model.proofs.kept_reply_law.Goals as goal

pub returns : goal.returns
returns c = lemmas.repeats-kept_reply
