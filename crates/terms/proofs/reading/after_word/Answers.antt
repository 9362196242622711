use Rattle.std.proofs.Common.{◌∷◌, arith}
use Rattle.std.proofs.lemmas.Str.Pattern.{strip_prefix_char}
use Rattle.terms.proofs.ReadingLemmas as lemmas
use Rattle.terms.proofs.reading.after_word.Goals as goal

pub returns-clause-whole : goal.returns-clause-whole
returns-clause-whole c = λ rest is.
    let m = c.in_ok-rest.ensures.cases in
    let e = lemmas.dropped c.args.text.now c.args.word.now (32 ∷ rest) c.in_ok-rest.rest.now m.0 m.1.0 m.2 is in
    lemmas.stripped c.in_ok-rest.rest.now rest c.strip_prefix-2.result
    (strip_prefix_char 32 c.in_ok-rest.rest.now c.strip_prefix-2.result c.strip_prefix-2.ensures.cases (omega arith)) e
