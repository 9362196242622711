-- How a library of an older schema is migrated to the newest.
use Rattle.std.specs.Prelude.{◌≡◌, ◌⊎◌, ◌<◌, ◌≤◌, ◌+◌, ◌-◌, ◌^◌, ◌==◌, ℕ, zero, suc, false}
use Rattle.std.specs.Prelude.{Err, Result, IfOk, OnOk, OnErr, IsTrue}
use Rattle.sqlite.specs.Effect.{Database}
use Rattle.sqlite.specs.Held.{Held, state}
use Rattle.sqlite.specs.State.{State, HasCleanDisk, KeepsCommit, Survives}
use Rattle.sqlite.specs.Store.{Ghosts}
use Rattle.sqlite.specs.Tree.{Trees}
use Rattle.sqlite.specs.declared.transaction.Transaction.{Transaction}
use Rattle.sql_maps.specs.Maps.{Maps, Holds}
use Rattle.terms.specs.Limits.{InLimits, IsMeta}
use Rattle.terms.specs.Pictures.{Picture}
use Rattle.terms.specs.Schemas.{IsOfSchema, led_on, led_by}
use Rattle.terms.specs.declared.fault.Fault.{Fault}
use Rattle.terms.specs.declared.fault.Fault.TheVariants.{Stored}
use Rattle.terms.specs.declared.limits.TheConstants.{SCHEMA}
use Rattle.circ_tables.specs.Cells.{meta_cells}
use Rattle.circ_tables.specs.Encoding.{HasPictureAt, AreEncoded}
use Rattle.circ_tables.specs.HoldsOfSchema1.{holds1}
use Rattle.circ_tables.specs.LoansOfSchema1.{loans1}
use Rattle.circ_tables.specs.RulesOfSchema1.{rules1}
use Rattle.circ_tables.specs.SchemaNumber.{NamesSchema}
use Rattle.circ_tables.specs.Shape.{schema_at, meta_place, rules1_place, loans1_place, holds1_place, holds_place, rules_place}
use Rattle.circ_tables.specs.Shape.{barcodes_place, notes_place}
use Rattle.circ_tables.specs.Holds.{holds}
use Rattle.circ_tables.specs.Loans.{loans}
use Rattle.circ_tables.specs.Rules.{rules}
use Rattle.store.specs.Carrying.{AreCarried, MigratesInside}
use Rattle.store.specs.Commit.{Brings, HasDone}
use Rattle.store.specs.Legal.{HasLegal}
use Rattle.store.specs.Library.{IsAsItWas, StaysReady}
use Rattle.store.specs.Older.{IsEmpty}
use Rattle.store.specs.Schemas.{IsKnown, IsOlder, next_schema}
use Rattle.store.specs.Stops.{Leaves, KeepsPicture, KeepsPictureAt}
use Rattle.store.specs.Transfers.{holds_transfer, loans_transfer, rules_transfer}

-- ---- the number of the schema

-- The only row of `meta` was within its limits; it now names the schema, and every other table is unchanged.
pub record AreNamed (n : ℕ) (maps now : Maps) : Type 0 where
  pub meta : ((m : ℕ) → NamesSchema maps m → AreEncoded meta_cells IsMeta (maps meta_place) × NamesSchema now n)
  pub others : (at : ℕ) → (at == meta_place) ≡ false → now at ≡ maps at

-- The schema is named in the transaction.
abbrev pub NamesInside : {S T : Type 0} → ℕ → Ghosts S → Transaction S → Transaction S → Result T Fault → Type 0
NamesInside n = MigratesInside n n (AreNamed n) (λ P. IsMeta P.meta) (λ P. record P { meta = record P.meta { schema = n } })

-- ---- from schema to schema

-- The tables of schema n show the picture of a library of schema n, with rows within their limits.
abbrev pub IsLibrary : ℕ → Database → Picture → Type 0
IsLibrary n db P = HasPictureAt n db P × IsOfSchema n P × InLimits P

-- In tables of an older schema, no row that the next step carries over or changes is damaged: in schema 1 the
-- holds, in schema 2 the rules and the loans, and in each that of `meta`.
abbrev pub CanBeLed : ℕ → Maps → Type 0
CanBeLed (suc zero) maps = AreEncoded meta_cells IsMeta (maps meta_place) × HasLegal holds1 maps
CanBeLed (suc (suc zero)) maps = AreEncoded meta_cells IsMeta (maps meta_place) × HasLegal rules1 maps × HasLegal loans1 maps
CanBeLed (suc (suc (suc zero))) maps = AreEncoded meta_cells IsMeta (maps meta_place)
CanBeLed _ maps = Unit {0}

-- The step neither takes rows out of the table at this place nor changes it.
abbrev pub IsLeft : ℕ → ℕ → Type 0
IsLeft (suc zero) at = (at < holds_place) × ((at == meta_place) ≡ false) × ((at == holds1_place) ≡ false)
IsLeft (suc (suc zero)) at = (at < rules_place) × ((at == meta_place) ≡ false) × ((at == rules1_place) ≡ false) × ((at == loans1_place) ≡ false)
IsLeft (suc (suc (suc zero))) at = (at < barcodes_place) × ((at == meta_place) ≡ false)
IsLeft _ at = Unit {0}

-- Each row of the tables that the step carries over is in its new table; the tables of schema 4 begin empty.
abbrev pub HaveArrived : ℕ → Maps → Maps → Type 0
HaveArrived (suc zero) maps now = AreCarried holds1 holds holds_transfer maps now
HaveArrived (suc (suc zero)) maps now = AreCarried rules1 rules rules_transfer maps now × AreCarried loans1 loans loans_transfer maps now
HaveArrived (suc (suc (suc zero))) maps now = IsEmpty (now barcodes_place) × IsEmpty (now notes_place)
HaveArrived _ maps now = Unit {0}

-- The maps of an older schema were migrated to these: no row that was carried over or changed was damaged,
-- each one carried over is in its new table, the next schema is named, and each other table is unchanged.
pub record AreLedOn (n : ℕ) (maps now : Maps) : Type 0 where
  pub legal : CanBeLed n maps
  pub arrived : HaveArrived n maps now
  pub named : NamesSchema now (next_schema n)
  pub others : (at : ℕ) → IsLeft n at → now at ≡ maps at

-- The same, if the maps name any schema.
abbrev pub AreLedIfNamed : ℕ → Maps → Maps → Type 0
AreLedIfNamed n maps now = (m : ℕ) → NamesSchema maps m → AreLedOn n maps now

-- The step migrates from the tables of schema n.
abbrev pub MigratesFrom : {S T : Type 0} → ℕ → Ghosts S → Transaction S → Transaction S → Result T Fault → Type 0
MigratesFrom n = MigratesInside n (next_schema n) (AreLedIfNamed n) (λ P. IsOfSchema n P × InLimits P) (led_on n)

-- The tables are those of schema n, whatever rows they have, and `meta` names no other older schema.
pub record AreThere (n : ℕ) (db : Database) : Type 0 where
  pub known : IsKnown n
  pub maps : Maps
  pub holds : Holds (schema_at n) db maps
  pub named : (m : ℕ) → NamesSchema maps m → IsOlder m → m ≡ n

-- A step migrated a library to the schema that it now names: tables that show one to those of the same
-- library in the next schema; those of the newest stay. Whatever they show, no damaged row is passed over; if
-- the newest is named the database is the same; if no known one is named nothing is migrated.
pub record MigratesOn (to : ℕ) (old new : Database) : Type 0 where
  pub migrates : (n : ℕ) → IsKnown n → (P : Picture) → IsLibrary n old P → (to ≡ next_schema n) × HasPictureAt (next_schema n) new (led_on n P)
  pub rows : (n : ℕ) → IsOlder n → (maps : Maps) → Holds (schema_at n) old maps → NamesSchema maps n
      → (to ≡ next_schema n) × ((now : Maps) × Holds (schema_at (next_schema n)) new now × AreLedOn n maps now)
  pub same : (n : ℕ) → IsKnown n → (maps : Maps) → Holds (schema_at n) old maps → NamesSchema maps SCHEMA → (to ≡ SCHEMA) × (new ≡ old)
  pub named : (n : ℕ) → IsKnown n → (maps : Maps) → Holds (schema_at n) old maps → (m : ℕ) × NamesSchema maps m × IsKnown m

-- A step was made in the transaction. If its tables exist nothing is committed, and no fault of a stored row
-- comes if they show a library.
pub record MigratesOnInside {S : Type 0} (g : Ghosts S) (old new : Transaction S) (result : Result ℕ Fault) : Type 0 where
  pub same_reference : new.conn.ghost_name ≡ old.conn.ghost_name
  pub survives : Survives (state g old.conn.now) (state g new.conn.now) (λ _. ⊥)
  pub kept : HasCleanDisk (state g new.conn.now) → IsTrue (state g old.conn.now).in_transaction
      → (n : ℕ) → AreThere n (state g old.conn.now).now → KeepsCommit (state g old.conn.now) (state g new.conn.now)
  pub inside : HasCleanDisk (state g new.conn.now) → IsTrue (state g old.conn.now).in_transaction
      → (n : ℕ) → AreThere n (state g old.conn.now).now → OnOk result (IsTrue (state g new.conn.now).in_transaction)
  pub migrates : HasCleanDisk (state g new.conn.now) → IsTrue (state g old.conn.now).in_transaction
      → IfOk result (λ to. MigratesOn to (state g old.conn.now).now (state g new.conn.now).now)
  pub sound : HasCleanDisk (state g new.conn.now) → IsTrue (state g old.conn.now).in_transaction → result ≡ Err Stored
      → (n : ℕ) → IsKnown n → (P : Picture) → ¬ IsLibrary n (state g old.conn.now).now P

-- A step, to any schema.
abbrev pub MakesOneStep : Database → Database → Type 0
MakesOneStep old new = (to : ℕ) × MigratesOn to old new

-- It was made in one transaction: if the tables exist, it is made and committed, or nothing is; a stop leaves
-- what was there or what the step brings.
pub record StepsOn {S : Type 0} (g : Ghosts S) (old new : Held S) (result : Result ℕ Fault) : Type 0 where
  pub idle : new.in_transaction ≡ false
  pub done : HasCleanDisk (state g new) → (n : ℕ) → AreThere n (state g old).now → IfOk result (λ to. HasDone (MigratesOn to) (state g old) (state g new))
  pub undone : HasCleanDisk (state g new) → IsTrue (state g new).is_open → (n : ℕ) → AreThere n (state g old).now → OnErr result (
      ((state g new).now ≡ (state g old).now) × ((state g new).committed ≡ (state g old).now))
  pub survives : Survives (state g old) (state g new) (Brings MakesOneStep (state g old).now)
  pub sound : HasCleanDisk (state g new) → result ≡ Err Stored → (n : ℕ) → IsKnown n → (P : Picture) → ¬ IsLibrary n (state g old).now P

-- The schema's number was asked for, and nothing is changed: it is the one that the picture names. No fault
-- of a stored row comes if that has 32 bits.
pub record TellsSchema {S : Type 0} (g : Ghosts S) (old new : Held S) (result : Result ℕ Fault) : Type 0 where
  pub clean : HasCleanDisk (state g new) → HasCleanDisk (state g old)
  pub idle : new.in_transaction ≡ false
  pub now : HasCleanDisk (state g new) → IsTrue (state g new).is_open → (state g new).now ≡ (state g old).now
  pub committed : HasCleanDisk (state g new) → IsTrue (state g new).is_open → (state g new).committed ≡ (state g old).now
  pub left : HasCleanDisk (state g new) → (trees : Trees) → (state g new).may_leave trees → (state g old).may_leave trees
  pub ready : StaysReady (state g old) (state g new)
  pub told : HasCleanDisk (state g new) → IfOk result (λ named. (n : ℕ) → IsKnown n → (P : Picture)
      → HasPictureAt n (state g old).now P → P.meta.schema ≡ named)
  pub sound : HasCleanDisk (state g new) → result ≡ Err Stored → (n : ℕ) → IsKnown n → (P : Picture)
      → HasPictureAt n (state g old).now P → P.meta.schema < 2 ^ 32 → ⊥

-- ---- all due steps

-- A library of schema n, migrated by this many steps.
abbrev pub IsLedBy : ℕ → ℕ → Picture → Database → Type 0
IsLedBy steps n P db = (n + steps ≤ SCHEMA) × HasPictureAt (n + steps) db (led_by steps n P)

-- By some number of steps.
abbrev pub IsAtSomeSchema : ℕ → Picture → Database → Type 0
IsAtSomeSchema n P db = (steps : ℕ) × IsLedBy steps n P db

-- The maps of schema n were migrated to those of the newest, schema by schema: at no step was a row damaged
-- that it carries over or changes.
abbrev pub AreLedUp : ℕ → Maps → Maps → Type 0
AreLedUp (suc zero) maps now = (second : Maps) × AreLedOn 1 maps second × ((third : Maps) × AreLedOn 2 second third × AreLedOn 3 third now)
AreLedUp (suc (suc zero)) maps now = (third : Maps) × AreLedOn 2 maps third × AreLedOn 3 third now
AreLedUp (suc (suc (suc zero))) maps now = AreLedOn 3 maps now
AreLedUp _ maps now = Unit {0}

-- Tables that name their own schema were migrated to the newest, whatever they show; if they name the newest
-- the database is the same.
pub record MigratesUp (old new : Database) : Type 0 where
  pub rows : (n : ℕ) → IsOlder n → (maps : Maps) → Holds (schema_at n) old maps → NamesSchema maps n
      → (now : Maps) × Holds (schema_at SCHEMA) new now × AreLedUp n maps now
  pub same : (n : ℕ) → IsKnown n → (maps : Maps) → Holds (schema_at n) old maps → NamesSchema maps SCHEMA → new ≡ old
  pub named : (n : ℕ) → IsKnown n → (maps : Maps) → Holds (schema_at n) old maps → (m : ℕ) × NamesSchema maps m × IsKnown m

-- In tables of an older schema, a row that the next step carries over or changes is damaged.
pub record CannotBeLed (db : Database) : Type 0 where
  pub at : ℕ
  pub older : IsOlder at
  pub there : AreThere at db
  pub damaged : ¬ CanBeLed at there.maps

-- This many steps were made, one after the other, and none led to the newest schema.
abbrev pub AreMade : ℕ → Database → Database → Type 0
AreMade zero old new = new ≡ old
AreMade (suc steps) old new = (to : ℕ) × (to < SCHEMA) × ((between : Database) × MigratesOn to old between × AreMade steps between new)

-- The tables are as some of the steps left them, committed: at least one, and not up to the newest schema.
pub record IsLedInPart (old new : State) : Type 0 where
  pub steps : ℕ
  pub led : AreMade (suc steps) old.now new.now
  pub committed : new.committed ≡ new.now

-- This many steps lead on from schema n, and from an older one not to the newest.
abbrev pub IsNotLedUp : ℕ → ℕ → Type 0
IsNotLedUp n steps = (n + steps ≤ SCHEMA) × (IsOlder n → n + steps < SCHEMA)

-- A library was migrated to the newest schema, step by step, or it was of that already and is unchanged.
-- After a fault it has the schema of the last whole step, and the step that met the fault changed nothing, if
-- the database is still open; a stop leaves what was there or what some of the steps make of it. It is
-- migrated only if no row to be carried over is damaged.
pub record Migrates {S T : Type 0} (g : Ghosts S) (old new : Held S) (result : Result T Fault) : Type 0 where
  pub clean : HasCleanDisk (state g new) → HasCleanDisk (state g old)
  pub led : HasCleanDisk (state g new) → OnOk result ((n : ℕ) → IsKnown n → (P : Picture) → IsLibrary n (state g old).now P
      → KeepsPicture (state g new) (led_by (SCHEMA - n) n P))
  pub legal : HasCleanDisk (state g new) → (n : ℕ) → AreThere n (state g old).now → OnOk result (MigratesUp (state g old).now (state g new).now)
  pub undone : HasCleanDisk (state g new) → IsTrue (state g new).is_open → OnErr result ((n : ℕ) → IsKnown n → (P : Picture)
      → IsLibrary n (state g old).now P → (steps : ℕ) × IsNotLedUp n steps × KeepsPictureAt (n + steps) (state g new) (led_by steps n P))
  pub nothing : HasCleanDisk (state g new) → IsTrue (state g new).is_open → (n : ℕ) → AreThere n (state g old).now
      → OnErr result (IsAsItWas (state g old) (state g new) ⊎ IsLedInPart (state g old) (state g new))
  pub stop : HasCleanDisk (state g new) → (n : ℕ) → IsKnown n → (P : Picture) → KeepsPictureAt n (state g old) P → IsOfSchema n P → InLimits P
      → Leaves (state g new) (IsAtSomeSchema n P)
  pub stop_damaged : HasCleanDisk (state g new) → CannotBeLed (state g old).now
      → Leaves (state g old) (λ db. db ≡ (state g old).now) → Leaves (state g new) (λ db. db ≡ (state g old).now)
  pub sound : HasCleanDisk (state g new) → result ≡ Err Stored → (n : ℕ) → IsKnown n → (P : Picture) → ¬ IsLibrary n (state g old).now P
