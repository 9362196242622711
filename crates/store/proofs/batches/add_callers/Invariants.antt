use Rattle.std.proofs.Common.{◌≡◌}
use Rattle.store.specs.Batches.{with_callers}
use Rattle.store.proofs.batches.add_callers.Given as goal

-- the rows so far, with those that are left
abbrev pub invariant-loop-request : goal.invariant-loop-request
invariant-loop-request l = with_callers l.rows.items l.request-iterator.rest.items ≡ with_callers l.fn.rows.items l.fn.batch.items
