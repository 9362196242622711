use Rattle.std.proofs.Common.{◌≤◌, take}
use Rattle.terms.specs.Orders.{IsOrdered}
use Rattle.terms.proofs.tables.are_ordered.Given as goal

abbrev pub invariant-loop-at : goal.invariant-loop-at
invariant-loop-at g l = record {
  from : 1 ≤ l.at;
  order : IsOrdered g.T.Ordered.comes_before (take l.at l.rows);
}
