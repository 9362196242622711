use Rattle.std.proofs.Common.{sym, ◌∙◌}
use Rattle.terms.proofs.ReadingLemmas as lemmas
use Rattle.terms.proofs.reading.read_transit.Goals as goal

pub returns-in_err-goal-clause-whole : goal.returns-in_err-goal-clause-whole
returns-in_err-goal-clause-whole c = λ n h is. let bad = c.in_err-goal.ensures.whole n h (is ∙ lemmas.transit_text n) in cc

pub returns-clause-sound : goal.returns-clause-sound
returns-clause-sound c = rw c.new.ensures (c.in_ok-goal.ensures.sound.0, c.in_ok-goal.ensures.sound.1 ∙ sym (lemmas.transit_text c.in_ok-goal.goal))
