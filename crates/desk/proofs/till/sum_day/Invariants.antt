use Rattle.std.proofs.Common.{◌^◌, ◌<◌}
use Rattle.std.specs.Prelude.{Ok}
use Rattle.desk.proofs.Founds.{Found}
use Rattle.desk.proofs.TillBatches.{AreSumsTo}
use Rattle.desk.proofs.till.sum_day.Given as goal

abbrev pub invariant-batches : goal.invariant-batches
invariant-batches g l = record {
  found : Found {A = Unit {0}} (λ P _. AreSumsTo P (g.L.Picked.test l.lines P) l.day l.after l.sums l._batch) g.S.Store l.fn.store l.store (Ok tt);
  low : l.after < 2 ^ 32;
}
