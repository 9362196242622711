use Rattle.std.proofs.Common.{arith}
use Rattle.web.proofs.JsonLemmas.{words_listed}
use Rattle.web.proofs.written.word_values.Goals as goal

pub returns : goal.returns
returns c = words_listed c.args.words.now c.loop-word.values.items c.loop-word.word-index (omega arith) c.loop-word.invariant
