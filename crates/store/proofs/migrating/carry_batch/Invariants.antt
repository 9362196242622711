use Rattle.std.proofs.Common.{◌≡◌, ℕ, take}
use Rattle.std.specs.Prelude.{IsTrue}
use Rattle.sqlite.specs.Held.{state}
use Rattle.sqlite.specs.State.{HasCleanDisk, KeepsCommit, Survives}
use Rattle.sql_maps.specs.Maps.{Steps}
use Rattle.circ_tables.specs.Encoding.{Draws}
use Rattle.circ_tables.specs.Shape.{schema_at, HasTable}
use Rattle.store.specs.Carrying.{move_all, move_rows}
use Rattle.store.proofs.migrating.carry_batch.Given as goal

abbrev pub invariant-rows : goal.invariant-rows
invariant-rows g l =
    let old = state g.S.Store l.initial.tx.conn.now in
    let now = state g.S.Store l.tx.conn.now in
    record {
      same_reference : l.tx.conn.ghost_name ≡ l.initial.tx.conn.ghost_name;
      survives : Survives old now (λ _. ⊥);
      kept : HasCleanDisk now → KeepsCommit old now;
      draws : HasCleanDisk now → IsTrue old.in_transaction → (n : ℕ) → HasTable g.R.Next.Table.table.since n
          → Draws n old now (move_all g.R.Table.table g.R.Next.Table.table g.R.Carried.transfer (take l.row-index l.fn.batch));
      steps : HasCleanDisk now → IsTrue old.in_transaction → (n : ℕ) → HasTable g.R.Next.Table.table.since n
          → Steps (schema_at n) old now (move_rows g.R.Table.table g.R.Next.Table.table g.R.Carried.transfer (take l.row-index l.fn.batch));
    }
