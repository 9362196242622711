use Rattle.std.proofs.Common.{sym, ◌∙◌}
use Rattle.terms.proofs.ReadingLemmas as lemmas
use Rattle.terms.proofs.reading.read_shelf.Goals as goal

pub returns-in_err-branch-clause-whole : goal.returns-in_err-branch-clause-whole
returns-in_err-branch-clause-whole c = λ n h is. let bad = c.in_err-branch.ensures.whole n h (is ∙ lemmas.shelf_text n) in cc

pub returns-clause-sound : goal.returns-clause-sound
returns-clause-sound c = rw c.new.ensures (c.in_ok-branch.ensures.sound.0, c.in_ok-branch.ensures.sound.1 ∙ sym (lemmas.shelf_text c.in_ok-branch.branch))
