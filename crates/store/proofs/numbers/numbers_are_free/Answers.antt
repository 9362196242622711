use Rattle.std.proofs.Common.{sym, subst}
use Rattle.terms.specs.Pictures.{Picture}
use Rattle.store.specs.Numbers.{AreFree}
use Rattle.store.proofs.GivenNumbers.{inside_none, inside_as, none_given}
use Rattle.store.proofs.numbers.numbers_are_free.Goals as goal

pub returns-in-Some : goal.returns-in-Some
returns-in-Some g c =
    let after = λ (P : Picture). rw c.in-Some.is at (c.meta_put.ensures P) in
    inside_as c.are_free.ensures (λ P _ free. subst (AreFree P) (sym (after P)) free)
    (λ P good. (good.0, subst (AreFree P) (after P) good.1))

pub returns-in-None : goal.returns-in-None
returns-in-None g c =
    let after = λ (P : Picture). rw c.in-None.is at (c.meta_put.ensures P) in
    inside_none c.args.tx.now tt (λ P. none_given P _ (after P))
