use Rattle.std.proofs.Common.{◌^◌, ◌<◌}
use Rattle.std.specs.Prelude.{Ok, unwrap_or}
use Rattle.store.specs.Legal.{Reviews}
use Rattle.store.proofs.BatchesOfAnyTables.{AreMetSoFar}
use Rattle.store.proofs.BatchedRows.{AreSoFar}
use Rattle.store.proofs.batches.read_batches.Given as goal

abbrev pub invariant-batches : goal.invariant-batches
invariant-batches g l = record {
  seen : Reviews {A = Unit {0}} (λ P _. AreSoFar (g.R.Table.table.rows P) g.R.Numbered.number_of
      (unwrap_or l.after 0) l._batch l.rows.items) (AreMetSoFar g.R.Table.table l.after l._batch) g.S.Store l.fn.conn l.conn (Ok tt);
  low : unwrap_or l.after 0 < 2 ^ 32;
}
