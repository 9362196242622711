use Rattle.std.proofs.Common.{refl, subst, arith}
use Rattle.std.proofs.lemmas.List.{take_all}
use Rattle.terms.specs.Orders.{IsOrdered}
use Rattle.terms.proofs.OrderLemmas.{one-ordered, neighbours-before, next-ordered}
use Rattle.terms.proofs.tables.are_ordered.Goals as goal

pub loop-at-init : goal.loop-at-init
loop-at-init g c = record { from = omega arith; order = one-ordered g.T.Ordered.comes_before c.args.rows.now }

pub returns-then-not-comes_before : goal.returns-then-not-comes_before
returns-then-not-comes_before g c =
    let none = c.if-not-comes_before.true in (
      λ yes'. let never : ⊥ = cc in absurd never,
      λ order.
          let yes' = c.comes_before.ensures.1 (neighbours-before g.T.Ordered.comes_before c.args.rows.now c.loop-at.at
          c.index-rows-at.result c.index-rows-at-in-loop-at.result c.loop-at.invariant.from c.loop-at-test.true c.index-rows-at.is
          c.index-rows-at-in-loop-at.is order) in
          let never : ⊥ = cc in
          absurd never,
    )

pub loop-at-preserved : goal.loop-at-preserved
loop-at-preserved g c = record {
  from = omega arith;
  order =
      next-ordered g.T.Ordered.comes_before c.args.rows.now c.loop-at.at c.index-rows-at.result c.index-rows-at-in-loop-at.result
      c.loop-at.invariant.from c.loop-at-test.true c.index-rows-at.is c.index-rows-at-in-loop-at.is
      g.met.T.Ordered.goes_on c.loop-at.invariant.order (c.comes_before.ensures.0 c.if-not-comes_before.false);
}

pub returns : goal.returns
returns g c = (
  λ _. subst (IsOrdered g.T.Ordered.comes_before)
      (take_all c.loop-at.at c.args.rows.now (let past = c.loop-at-test.false in omega (arith, past))) c.loop-at.invariant.order,
  λ order. refl,
)
