use Rattle.std.proofs.Common.{sym, ◌∙◌}
use Rattle.terms.proofs.ReadingLemmas as lemmas
use Rattle.terms.proofs.reading.read_held.Goals as goal

pub returns-in_err-hold-clause-whole : goal.returns-in_err-hold-clause-whole
returns-in_err-hold-clause-whole c = λ n h is. let bad = c.in_err-hold.ensures.whole n h (is ∙ lemmas.held_text n) in cc

pub returns-clause-sound : goal.returns-clause-sound
returns-clause-sound c = rw c.new.ensures (c.in_ok-hold.ensures.sound.0, c.in_ok-hold.ensures.sound.1 ∙ sym (lemmas.held_text c.in_ok-hold.hold))
