use Rattle.std.proofs.Common.{arith}
use Rattle.store.specs.Numbers.{AreUnused}
use Rattle.store.proofs.GivenNumbers.{inside_none, inside_then, inside_as, number_free, number_taken, number_unread, none_unused, more_unused, fewer_unused}
use Rattle.store.proofs.numbers.are_unused.Goals as goal

pub numbers-init : goal.numbers-init
numbers-init g c = record {
  low = omega arith;
  seen = inside_none c.args.tx.now tt (λ P. none_unused (g.T.Table.table.rows P) c.args.first c.args.first (omega arith));
}

pub numbers-preserved : goal.numbers-preserved
numbers-preserved g c = record {
  low = let low = c.numbers.invariant.low in omega (arith, low);
  seen = inside_as (inside_then c.numbers.invariant.seen (number_free (λ P. AreUnused (g.T.Table.table.rows P) c.args.first c.args.last) (rw c.if-branch.false at c.in_ok-has_row_inside.ensures)))
      (λ P _ both. more_unused (g.T.Table.table.rows P) c.args.first c.numbers.number both.0 both.1) (λ P free _. free);
}

pub returns-in_err-has_row_inside : goal.returns-in_err-has_row_inside
returns-in_err-has_row_inside g c = inside_as
    (inside_then c.numbers.invariant.seen (number_unread (λ P _. AreUnused (g.T.Table.table.rows P) c.args.first c.args.last)
    (λ P. AreUnused (g.T.Table.table.rows P) c.args.first c.args.last) c.from_residual.result _ c.from_residual.ensures c.in_err-has_row_inside.ensures))
    (λ P _ both. both.1) (λ P free _. free)

pub returns-then-branch : goal.returns-then-branch
returns-then-branch g c = inside_as (inside_then c.numbers.invariant.seen (number_taken (λ P _. AreUnused (g.T.Table.table.rows P) c.args.first c.args.last) (rw c.if-branch.true at c.in_ok-has_row_inside.ensures)))
    (λ P _ both. both.1) (λ P free before. free c.numbers.number c.numbers.invariant.low c.numbers-test.true)

pub returns : goal.returns
returns g c = inside_as c.numbers.invariant.seen
    (λ P _ unused. fewer_unused (g.T.Table.table.rows P) c.args.first c.args.last c.numbers.number c.numbers-test.false unused) (λ P free. free)
