use Rattle.std.proofs.Common.{◌≡◌, ◌^◌, ◌<◌}
use Rattle.std.specs.Prelude.{IsTrue, unwrap_or}
use Rattle.sqlite.specs.Held.{state}
use Rattle.sqlite.specs.State.{HasCleanDisk, KeepsCommit, Survives}
use Rattle.terms.specs.Pictures.{Picture}
use Rattle.circ_tables.specs.Encoding.{HasPictureAt}
use Rattle.store.specs.Library.{HasTablesAt}
use Rattle.store.specs.Carrying.{IsToCarry}
use Rattle.store.proofs.MigrateLemmas.{over_to}
use Rattle.store.proofs.CarriedFromAnyTables.{AreMovedSoFar}
use Rattle.store.proofs.migrating.carry_all.Given as goal

-- The rows up to a number are carried over, and there were no more batches than that.
abbrev pub invariant-batches : goal.invariant-batches
invariant-batches g l =
    let old = state g.S.Store l.initial.tx.conn.now in
    let now = state g.S.Store l.tx.conn.now in
    let at = g.R.Next.Table.table.since in
    record {
      same_reference : l.tx.conn.ghost_name ≡ l.initial.tx.conn.ghost_name;
      survives : Survives old now (λ _. ⊥);
      there : HasCleanDisk now → IsTrue old.in_transaction → (there : HasTablesAt at old.now) → KeepsCommit old now
          × IsTrue now.in_transaction × AreMovedSoFar g.R.Table.table g.R.Next.Table.table g.R.Carried.transfer l.after l._batch there.0 now.now;
      carried : HasCleanDisk now → IsTrue old.in_transaction → (P : Picture) → HasPictureAt at old.now P → IsToCarry g.R.Next.Table.table P
          → HasPictureAt at now.now (over_to g.met.R.Carried.over (unwrap_or l.after 0) P);
      low : unwrap_or l.after 0 < 2 ^ 32;
    }
