use Rattle.store.specs.Numbers.{AreFree}
use Rattle.store.proofs.GivenNumbers.{inside_then, inside_as, inside_fails, free_from, loans_free, holds_free, lines_free}
use Rattle.store.proofs.numbers.are_free.Goals as goal

pub returns-in_err-meta : goal.returns-in_err-meta
returns-in_err-meta g c = inside_as (inside_fails (λ P _. AreFree P c.args.after.now) c.from_residual.result _ c.from_residual.ensures c.in_err-meta.ensures)
    (λ P _ free. free) (λ P good. good.0)

pub returns-in_err-are_unused : goal.returns-in_err-are_unused
returns-in_err-are_unused g c =
    let loans = rw (c.number.ensures.value, c.number-2.ensures.value) at c.in_err-are_unused.ensures in
    inside_as (inside_then c.in_ok-meta.ensures
    (inside_fails (λ P _. AreFree P c.args.after.now) c.from_residual-in_err-are_unused.result _ c.from_residual-in_err-are_unused.ensures loans))
    (λ P _ all. all.1) (λ P good same. loans_free P _ _ same good.1)

pub returns-in_err-are_unused-2 : goal.returns-in_err-are_unused-2
returns-in_err-are_unused-2 g c =
    let loans = rw (c.number.ensures.value, c.number-2.ensures.value) at c.in_ok-are_unused.ensures in
    let holds = rw (c.number-3.ensures.value, c.number-4.ensures.value) at c.in_err-are_unused-2.ensures in
    inside_as (inside_then c.in_ok-meta.ensures (inside_then loans
    (inside_fails (λ P _. AreFree P c.args.after.now) c.from_residual-in_err-are_unused-2.result _ c.from_residual-in_err-are_unused-2.ensures holds)))
    (λ P _ all. all.1.1) (λ P good same _. holds_free P _ _ same good.1)

pub returns : goal.returns
returns g c =
    let loans = rw (c.number.ensures.value, c.number-2.ensures.value) at c.in_ok-are_unused.ensures in
    let holds = rw (c.number-3.ensures.value, c.number-4.ensures.value) at c.in_ok-are_unused-2.ensures in
    let lines = rw (c.number-5.ensures.value, c.number-6.ensures.value) at c.are_unused-3.ensures in
    inside_as (inside_then c.in_ok-meta.ensures (inside_then loans (inside_then holds lines)))
    (λ P _ all. free_from P _ _ all.0 all.1.0 all.1.1.0 all.1.1.1) (λ P good same _ _. lines_free P _ _ same good.1)
