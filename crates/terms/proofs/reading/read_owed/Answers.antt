use Rattle.std.proofs.Common.{sym, ◌∙◌}
use Rattle.terms.proofs.ReadingLemmas as lemmas
use Rattle.terms.proofs.reading.read_owed.Goals as goal

pub returns-in_err-owed-clause-whole : goal.returns-in_err-owed-clause-whole
returns-in_err-owed-clause-whole c = λ n h is. let bad = c.in_err-owed.ensures.whole n h (is ∙ lemmas.owed_text n) in cc

pub returns-clause-sound : goal.returns-clause-sound
returns-clause-sound c = rw c.new.ensures (c.in_ok-owed.ensures.sound.0, c.in_ok-owed.ensures.sound.1 ∙ sym (lemmas.owed_text c.in_ok-owed.owed))
