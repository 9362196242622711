-- The words for a library that higher crates use.
use Rattle.std.specs.Prelude.{◌≡◌, ◌⊎◌, ℕ, IsTrue}
use Rattle.sqlite.specs.Effect.{Database}
use Rattle.sqlite.specs.Tree.{Trees}
use Rattle.sql_maps.specs.Maps.{Maps, Holds}
use Rattle.circ_tables.specs.Shape.{schema_at}
use Rattle.terms.specs.declared.limits.TheConstants.{SCHEMA}
pub use Rattle.sqlite.specs.Held.{Held, held_code, state}
pub use Rattle.sqlite.specs.State.{State, HasCleanDisk}
pub use Rattle.sqlite.specs.Store.{Ghosts}
pub use Rattle.sqlite.specs.Steps.{over_memory}
pub use Rattle.circ_tables.specs.Reading.{StaysReady}

-- The tables of a schema exist, whatever rows they have.
abbrev pub HasTablesAt : ℕ → Database → Type 0
HasTablesAt n db = (maps : Maps) × Holds (schema_at n) db maps

-- Those of the newest schema.
abbrev pub HasTables : Database → Type 0
HasTables = HasTablesAt SCHEMA

-- The database holds what it held, and a stop leaves that, or what it would have left before.
pub record IsAsItWas (old new : State) : Type 0 where
  pub now : new.now ≡ old.now
  pub left : (trees : Trees) → new.may_leave trees → old.may_leave trees ⊎ (trees ≡ old.now.trees)

-- So far the disk has returned what was written to it.
abbrev pub IsClean : {S : Type 0} → Ghosts S → Held S → Type 0
IsClean g held = HasCleanDisk (state g held)

-- The database is open.
abbrev pub IsOpen : {S : Type 0} → Ghosts S → Held S → Type 0
IsOpen g held = IsTrue (state g held).is_open
