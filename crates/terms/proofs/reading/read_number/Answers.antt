use Rattle.std.proofs.Common.{Some, ap, sym, ◌∙◌, arith}
use Rattle.std.proofs.lemmas.Fmt.{decimal_injective}
use Rattle.terms.proofs.reading.read_number.Goals as goal

pub returns-then-number-le4294967295-clause-whole : goal.returns-then-number-le4294967295-clause-whole
returns-then-number-le4294967295-clause-whole c = λ n small is.
    ap Some (decimal_injective c.in_ok-number.number n (omega arith) (omega arith) (sym c.in_ok-number.ensures.some ∙ is))

pub returns-else-number-le4294967295-clause-none : goal.returns-else-number-le4294967295-clause-none
returns-else-number-le4294967295-clause-none c = λ n small is.
    let same = decimal_injective c.in_ok-number.number n (omega arith) (omega arith) (sym c.in_ok-number.ensures.some ∙ is) in
    absurd (omega (arith, same, c.if-number-le4294967295.false))

pub returns-else-number-le4294967295-clause-whole : goal.returns-else-number-le4294967295-clause-whole
returns-else-number-le4294967295-clause-whole c = λ n small is.
    let same = decimal_injective c.in_ok-number.number n (omega arith) (omega arith) (sym c.in_ok-number.ensures.some ∙ is) in
    absurd (omega (arith, same, c.if-number-le4294967295.false))
