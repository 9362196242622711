use Rattle.std.proofs.Common.{◌≡◌, ◌++◌}
use Rattle.store.proofs.batches.add_batch.Given as goal

-- the rows so far, with those that are left
abbrev pub invariant-loop-row : goal.invariant-loop-row
invariant-loop-row g l = l.rows.items ++ l.row-iterator.rest.items ≡ l.fn.rows.items ++ l.fn.batch.items
