use Rattle.std.proofs.Common.{◌≡◌}
use Rattle.std.specs.Prelude.{IsTrue}
use Rattle.sqlite.specs.Held.{state}
use Rattle.sqlite.specs.State.{HasCleanDisk, KeepsCommit, Survives}
use Rattle.sql_maps.specs.Maps.{Moves}
use Rattle.circ_tables.specs.Shape.{schema_at}
use Rattle.circ_tables.proofs.schema.make_absent_indexes.Given as goal

abbrev pub invariant-texts : goal.invariant-texts
invariant-texts g l =
    let old = state g.S.Store l.initial.tx.conn.now in
    let now = state g.S.Store l.tx.conn.now in
    (l.tx.conn.ghost_name ≡ l.initial.tx.conn.ghost_name) × Survives old now (λ _. ⊥) × (HasCleanDisk now → KeepsCommit old now)
    × (HasCleanDisk now → IsTrue old.in_transaction → Moves (schema_at 3) (schema_at 3) old now)
