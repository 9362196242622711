use Rattle.std.proofs.Common.{◌≡◌, Some, ap, sym, ◌∙◌, arith}
use Rattle.std.proofs.lemmas.Fmt.{decimal_injective}
use Rattle.terms.proofs.reading.read_amount.Goals as goal

pub returns-then-number-le-LARGEST_SUM-clause-whole : goal.returns-then-number-le-LARGEST_SUM-clause-whole
returns-then-number-le-LARGEST_SUM-clause-whole c =
    λ n small is. ap Some (decimal_injective c.in_ok-number.number n (omega arith) (omega arith) (sym c.in_ok-number.ensures.some ∙ is))

pub returns-else-number-le-LARGEST_SUM-clause-whole : goal.returns-else-number-le-LARGEST_SUM-clause-whole
returns-else-number-le-LARGEST_SUM-clause-whole c = λ n small is.
    let same : c.in_ok-number.number ≡ n = decimal_injective c.in_ok-number.number n (omega arith) (omega arith) (sym c.in_ok-number.ensures.some ∙ is) in
    let large = c.if-number-le-LARGEST_SUM.false in
    absurd (omega (arith, same, small, large))
