use Rattle.std.specs.Prelude.{Ok}
use Rattle.store.specs.Legal.{Reviews}
use Rattle.store.specs.Batches.{IsPassedOver, with_callers}
use Rattle.store.proofs.KeptOfAnyTables.{AreKeptMet}
use Rattle.store.proofs.batches.kept_by_caller.Given as goal

-- what is taken, with the batch that is read and not yet taken
abbrev pub invariant-kept : goal.invariant-kept
invariant-kept g l = Reviews {A = Unit {0}} IsPassedOver (AreKeptMet (with_callers l.rows.items l.batch.items) l.batch.items) g.S.Store l.fn.conn l.conn (Ok tt)
