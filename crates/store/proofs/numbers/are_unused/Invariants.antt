use Rattle.std.proofs.Common.{◌≤◌, Ok}
use Rattle.store.specs.Numbers.{AreUnused, LooksInside}
use Rattle.store.proofs.numbers.are_unused.Given as goal

abbrev pub invariant-numbers : goal.invariant-numbers
invariant-numbers g l = record {
  low : l.fn.first ≤ l.number;
  seen : LooksInside {A = Unit {0}} (λ P _. AreUnused (g.T.Table.table.rows P) l.fn.first l.number)
      (λ P. AreUnused (g.T.Table.table.rows P) l.fn.first l.fn.last) g.S.Store l.initial.tx l.tx (Ok tt);
}
