use Rattle.std.proofs.Common.{Some, None, arith}
use Rattle.std.specs.Fmt.{decimal}
use Rattle.std.proofs.lemmas.Str.Pattern.{split_after}
use Rattle.terms.proofs.ReadingLemmas as lemmas
use Rattle.terms.proofs.reading.amount_and_rest.Goals as goal

pub returns-in_err-amount-clause-whole : goal.returns-in_err-amount-clause-whole
returns-in_err-amount-clause-whole c =
    λ n rest small is. absurd (split_after 32 c.args.text.now (decimal n) rest None c.in_err-amount.ensures.cases (omega arith) is
    (lemmas.no_space_at n (omega arith)))

pub returns-in_err-amount-2-clause-whole : goal.returns-in_err-amount-2-clause-whole
returns-in_err-amount-2-clause-whole c = λ n rest small is.
    let s = split_after 32 c.args.text.now (decimal n) rest (Some (c.in_ok-amount.amount, c.in_ok-amount.rest)) c.in_ok-amount.ensures.cases
    (omega arith) is (lemmas.no_space_at n (omega arith)) in
    let bad = c.in_err-amount-2.ensures.whole n small s.0 in cc

pub returns-clause-whole : goal.returns-clause-whole
returns-clause-whole c = λ n rest small is.
    let s = split_after 32 c.args.text.now (decimal n) rest (Some (c.in_ok-amount.amount, c.in_ok-amount.rest)) c.in_ok-amount.ensures.cases
    (omega arith) is (lemmas.no_space_at n (omega arith)) in
    let q = c.in_ok-amount-2.ensures.whole n small s.0 in
    ((cc), s.1)
