-- What a call that changes one row promises, inside a transaction.
use Rattle.std.specs.Prelude.{◌≡◌, ℕ, List, Some, None, Ok, Result, IfErr, OnOk, OnErr, IsTrue}
use Rattle.sqlite.specs.Held.{state}
use Rattle.sqlite.specs.Order.{Row}
use Rattle.sqlite.specs.Schema.{Schema}
use Rattle.sqlite.specs.State.{HasCleanDisk, KeepsCommit, Survives, ExecutesInside}
use Rattle.sqlite.specs.Store.{Ghosts}
use Rattle.sqlite.specs.declared.transaction.Transaction.{Transaction}
use Rattle.sql_maps.specs.Calls.{IsKeptOrUndone}
use Rattle.sql_maps.specs.Maps.{Maps, Steps, Moves, put_at, take_at}
use Rattle.terms.specs.Pictures.{Picture, put_kept}
use Rattle.terms.specs.Limits.{IsOwner}
use Rattle.terms.specs.declared.fault.Fault.{Fault}
use Rattle.terms.specs.declared.fault.Fault.TheVariants.{Database}
use Rattle.terms.specs.declared.row.MetaRow.{MetaRow}
use Rattle.terms.specs.declared.row.KeptRow.{KeptRow}
use Rattle.circ_tables.specs.Cells.{number_key, meta_cells, kept_key, kept_cells}
use Rattle.circ_tables.specs.Encoding.{Draws, HasNoLibrary}
use Rattle.circ_tables.specs.Reading.{Table}
use Rattle.circ_tables.specs.Shape.{schema_at, HasTable, meta_place, kept_place}

-- The transaction is the same, and what was committed before it stands, whatever the call's outcome and
-- whenever it is stopped.
pub record Works {S : Type 0} (g : Ghosts S) (old new : Transaction S) : Type 0 where
  pub same_reference : new.conn.ghost_name ≡ old.conn.ghost_name
  pub kept : HasCleanDisk (state g new.conn.now) → KeepsCommit (state g old.conn.now) (state g new.conn.now)
  pub survives : Survives (state g old.conn.now) (state g new.conn.now) (λ _. ⊥)

-- A text that writes was run. Only the database can refuse it.
pub record Runs {S T : Type 0} (text : List ℕ) (given : Row)
    (g : Ghosts S) (old new : Transaction S) (result : Result T Fault) : Type 0 where
  pub works : Works g old new
  pub runs : HasCleanDisk (state g new.conn.now) → IsTrue (state g old.conn.now).in_transaction
      → OnOk result ((count : ℕ) × ExecutesInside 0 text given (state g old.conn.now) (state g new.conn.now) (Ok count))
  pub leaves : HasCleanDisk (state g new.conn.now)
      → OnErr result (IsKeptOrUndone (state g old.conn.now) (state g new.conn.now))
  pub fault : IfErr result (λ fault. fault ≡ Database)

-- The maps of the tables change so, and the picture that they show, in each schema that has the tables that
-- exist since one. The change of the picture may need something of the row. The only fault is 91.
pub record ChangesRows {S T : Type 0} (since : ℕ) (change : Maps → Maps) (Needs : Type 0) (draw : Picture → Picture)
    (g : Ghosts S) (old new : Transaction S) (result : Result T Fault) : Type 0 where
  pub works : Works g old new
  pub steps : HasCleanDisk (state g new.conn.now) → IsTrue (state g old.conn.now).in_transaction
      → OnOk result ((n : ℕ) → HasTable since n → Steps (schema_at n) (state g old.conn.now) (state g new.conn.now) change)
  pub draws : HasCleanDisk (state g new.conn.now) → IsTrue (state g old.conn.now).in_transaction → Needs
      → OnOk result ((n : ℕ) → HasTable since n → Draws n (state g old.conn.now) (state g new.conn.now) draw)
  pub fault : IfErr result (λ fault. fault ≡ Database)

-- One text changes them; after a fault nothing is changed, or the transaction is undone.
pub record Puts {S T : Type 0} (since : ℕ) (change : Maps → Maps) (Needs : Type 0) (draw : Picture → Picture)
    (g : Ghosts S) (old new : Transaction S) (result : Result T Fault) : Type 0 where
  pub changes : ChangesRows since change Needs draw g old new result
  pub leaves : HasCleanDisk (state g new.conn.now)
      → OnErr result (IsKeptOrUndone (state g old.conn.now) (state g new.conn.now))

-- The row replaces any under the key.
abbrev pub PutsRow : {S K R T : Type 0} → Table K R → K → R → Ghosts S → Transaction S → Transaction S → Result T Fault → Type 0
PutsRow t key row = Puts t.since (λ maps. put_at maps t.place (t.key key) (t.cells row)) (Unit {0}) (λ P. t.set P key (Some row))

-- No row stands under the key any more.
abbrev pub TakesRow : {S K R T : Type 0} → Table K R → K → Ghosts S → Transaction S → Transaction S → Result T Fault → Type 0
TakesRow t key = Puts t.since (λ maps. take_at maps t.place (t.key key)) (Unit {0}) (λ P. t.set P key None)

-- The row is the only one of `meta`.
abbrev pub PutsMeta : {S T : Type 0} → MetaRow → Ghosts S → Transaction S → Transaction S → Result T Fault → Type 0
PutsMeta row = Puts 1 (λ maps. put_at maps meta_place (number_key 1) (meta_cells row)) (Unit {0}) (λ P. record P { meta = row })

-- The row is kept under its caller and key. In the picture this holds for the desk and each possible patron.
abbrev pub PutsKept : {S T : Type 0} → KeptRow → Ghosts S → Transaction S → Transaction S → Result T Fault → Type 0
PutsKept row = Puts 1 (λ maps. put_at maps kept_place (kept_key row.caller row.key) (kept_cells row)) (IsOwner row.caller)
    (λ P. record P { kept = put_kept P.kept row.caller row.key (Some row) })

-- The transaction made a library where there was none.
abbrev pub FindsNone : {S T : Type 0} → Ghosts S → Transaction S → Transaction S → Result T Fault → Type 0
FindsNone g old new result = HasCleanDisk (state g new.conn.now) → IsTrue (state g old.conn.now).in_transaction
    → OnOk result (HasNoLibrary (state g old.conn.now).now)

-- The schema goes from one stage to another, with the maps of the tables that exist. The only fault is 91.
pub record Makes {S T : Type 0} (from to : Schema) (g : Ghosts S) (old new : Transaction S) (result : Result T Fault) : Type 0 where
  pub works : Works g old new
  pub moves : HasCleanDisk (state g new.conn.now) → IsTrue (state g old.conn.now).in_transaction
      → OnOk result (Moves from to (state g old.conn.now) (state g new.conn.now))
  pub fault : IfErr result (λ fault. fault ≡ Database)
