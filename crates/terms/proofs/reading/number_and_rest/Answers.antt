use Rattle.std.proofs.Common.{Some, None, arith}
use Rattle.std.specs.Fmt.{decimal}
use Rattle.std.proofs.lemmas.Str.Pattern.{split_after}
use Rattle.terms.proofs.ReadingLemmas as lemmas
use Rattle.terms.proofs.reading.number_and_rest.Goals as goal

pub returns-in_err-number-clause-whole : goal.returns-in_err-number-clause-whole
returns-in_err-number-clause-whole c =
    λ n rest small is. absurd (split_after 32 c.args.text.now (decimal n) rest None c.in_err-number.ensures.cases (omega arith) is
    (lemmas.no_space_at n (omega arith)))

pub returns-in_err-number-2-clause-whole : goal.returns-in_err-number-2-clause-whole
returns-in_err-number-2-clause-whole c = λ n rest small is.
    let s = split_after 32 c.args.text.now (decimal n) rest (Some (c.in_ok-number.number, c.in_ok-number.rest)) c.in_ok-number.ensures.cases
    (omega arith) is (lemmas.no_space_at n (omega arith)) in
    absurd (c.in_err-number-2.ensures.none n small s.0)

pub returns-clause-whole : goal.returns-clause-whole
returns-clause-whole c = λ n rest small is.
    let s = split_after 32 c.args.text.now (decimal n) rest (Some (c.in_ok-number.number, c.in_ok-number.rest)) c.in_ok-number.ensures.cases
    (omega arith) is (lemmas.no_space_at n (omega arith)) in
    let q = c.in_ok-number-2.ensures.whole n small s.0 in
    ((cc), s.1)
