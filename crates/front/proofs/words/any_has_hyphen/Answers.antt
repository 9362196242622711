use Rattle.std.proofs.Common.{◌∙◌, sym}
use Rattle.front.proofs.Tables.{hyphen-none}
use Rattle.front.proofs.words.any_has_hyphen.Goals as goal

pub returns : goal.returns
returns c = sym (hyphen-none c.args.words.now c.loop-word.word-index c.loop-word-test.false) ∙ c.loop-word.invariant
