-- What a read leaves, and what it says of a row.
use Rattle.std.specs.Prelude.{◌≡◌, ◌≢◌, ◌⊎◌, ◌≤◌, ◌<◌, ℕ, Bool, false, List, map, length, Option, Some, None, option_map, is_some, Err}
use Rattle.std.specs.Prelude.{Result, IfOk, IfErr, IfSome, OnOk, IsTrue, IsUtf8}
use Rattle.std.specs.List.{All}
use Rattle.std.specs.Option.{option_to_list}
use Rattle.std.specs.Result.{result_err}
use Rattle.calendar.specs.Days.{IsDayNumber}
use Rattle.calendar.specs.Openings.{has_day, has_repeat}
use Rattle.sqlite.specs.Given.{IsPlain}
use Rattle.sqlite.specs.Held.{Held, state}
use Rattle.sqlite.specs.Listing.{understood}
use Rattle.sqlite.specs.Order.{Row, column}
use Rattle.sqlite.specs.Schema.{Schema}
use Rattle.sqlite.specs.State.{State, HasCleanDisk, IsUnchanged, KeepsCommit, Survives, CommitsShowing, Shown}
use Rattle.sqlite.specs.Store.{Ghosts}
use Rattle.sqlite.specs.Tree.{Trees}
use Rattle.sqlite.specs.declared.transaction.Transaction.{Transaction}
use Rattle.sqlite_rules.specs.Lists.{Has}
use Rattle.sql_maps.specs.Calls.{FindsRow, IsKeptOrUndone}
use Rattle.sql_maps.specs.Maps.{Map, Maps, Holds, Count}
use Rattle.terms.specs.Limits.{InLimits, ClosesFewDays, IsOwner, IsMeta}
use Rattle.terms.specs.Pictures.{Picture}
use Rattle.terms.specs.declared.command.Owner.{Owner}
use Rattle.terms.specs.declared.fault.Fault.{Fault}
use Rattle.terms.specs.declared.fault.Fault.TheVariants.{Database, Stored}
use Rattle.terms.specs.declared.limits.TheConstants.{SCHEMA}
use Rattle.terms.specs.declared.row.MetaRow.{MetaRow}
use Rattle.terms.specs.declared.row.KeptRow.{KeptRow}
use Rattle.circ_tables.specs.declared.kept.KeptReply.{KeptReply}
use Rattle.circ_tables.specs.Cells.{number, number_key, kept_key, meta_cells, kept_cells}
use Rattle.circ_tables.specs.Encoding.{HasPicture, HasPictureAt, AreEncoded, reply_of, HasTexts, day_cells, IsClosedDay}
use Rattle.circ_tables.specs.Selections.{AreClosedDays}
use Rattle.sqlite.specs.Table.{Table as Shape}
use Rattle.circ_tables.specs.Shape.{schema, schema_at, HasTable, meta_place, closed_days_place, kept_place}

-- A table of typed rows: its shape and place, its first schema, the key of a row, its columns, its limits,
-- its rows in a picture, and the picture with another row, or none, under a key.
pub record Table (K R : Type 0) : Type 1 where
  pub shape : Shape
  pub place : ℕ
  pub since : ℕ
  pub key : K → Row
  pub cells : R → Row
  pub IsLegal : R → Type 0
  pub rows : Picture → K → Option R
  pub set : Picture → K → Option R → Picture

-- Every row of the map is this row of `meta`.
abbrev pub IsLone : Map → MetaRow → Type 0
IsLone m row = (k v : Row) → m k ≡ Some v → v ≡ meta_cells row

-- The columns of what is kept under a key.
abbrev pub kept_with : Owner → List ℕ → KeptReply → Row
kept_with owner key k = kept_cells (record { caller = owner; key = key; text = k.text; reply = k.reply })

-- The days are those that pass the test, each once.
abbrev pub AreSuch : List ℕ → (ℕ → Bool) → Type 0
AreSuch days test = ((d : ℕ) → has_day days d ≡ test d) × (has_repeat days ≡ false)

-- The tables are unchanged.
pub record IsSame (old new : State) : Type 0 where
  pub now : new.now ≡ old.now
  pub committed : new.committed ≡ old.committed
  pub was_open : IsTrue new.is_open → IsTrue old.is_open

-- The tables are unchanged, or as the last commit left them.
abbrev pub IsSameOrUndone : State → State → Type 0
IsSameOrUndone old new = (new.now ≡ old.now) ⊎ (IsTrue old.is_open × (new.now ≡ old.committed))

-- What a database keeps beside its tables: its limit of steps is as it was, it stays open unless the disk
-- failed or refused a call, and no such failure is forgotten.
abbrev pub StaysReady : State → State → Type 0
StaysReady old new = Survives old new (λ _. Unit {0})

-- What successive reads leave, whether they succeeded or ended in this fault, which isn't that of a stored
-- row if the tables show a picture.
pub record Reading (fault : Option Fault) (old new : State) : Type 0 where
  pub ready : StaysReady old new
  pub clean : HasCleanDisk new → HasCleanDisk old
  pub mode : old.in_transaction ≡ false → new.in_transaction ≡ false
  pub leaves : HasCleanDisk new → IsTrue new.is_open → (maps : Maps) → Holds schema old.now maps → IsSameOrUndone old new
  pub crash : HasCleanDisk new → (maps : Maps) → Holds schema old.now maps → (trees : Trees) → new.may_leave trees → old.may_leave trees
  pub same : fault ≡ None → HasCleanDisk new → (maps : Maps) → Holds schema old.now maps → IsSame old new
  pub sound : fault ≡ Some Stored → HasCleanDisk new → (P : Picture) → HasPicture old.now P → InLimits P → ClosesFewDays P → ⊥

-- What is read, in terms of the picture that the tables show, and what the reads leave.
pub record Views {S A : Type 0} (Is : Picture → A → Type 0)
    (g : Ghosts S) (old new : Held S) (result : Result A Fault) : Type 0 where
  pub read : Reading (result_err result) (state g old) (state g new)
  pub shown : HasCleanDisk (state g new)
      → IfOk result (λ x. (P : Picture) → HasPicture (state g old).now P → InLimits P → Is P x)

-- What one text that only reads leaves.
pub record Asks {S : Type 0} (text : List ℕ) (given : Row) (g : Ghosts S) (old new : Held S) : Type 0 where
  pub clean : HasCleanDisk (state g new) → HasCleanDisk (state g old)
  pub mode : old.in_transaction ≡ false → new.in_transaction ≡ false
  pub leaves : HasCleanDisk (state g new) → IsPlain (understood (state g old).now.schema text)
      → IsKeptOrUndone (state g old) (state g new)
  pub survives : Survives (state g old) (state g new) (CommitsShowing text given (state g old))

-- A text was asked for its first row. Only the database can refuse it.
pub record AsksFirst {S : Type 0} (text : List ℕ) (given : Row)
    (g : Ghosts S) (old new : Held S) (result : Result (Option Row) Fault) : Type 0 where
  pub asks : Asks text given g old new
  pub finds : HasCleanDisk (state g new)
      → IfOk result (FindsRow text given (state g old) (state g new))
  pub fault : IfErr result (λ fault. fault ≡ Database)

-- A text was asked for all its rows, which the list has in order. Only the database can refuse it.
pub record AsksAll {S L : Type 0} (items : L → List Row) (text : List ℕ) (given : Row)
    (g : Ghosts S) (old new : Held S) (result : Result L Fault) : Type 0 where
  pub asks : Asks text given g old new
  pub shown : HasCleanDisk (state g new)
      → IfOk result (λ rows. Shown text given (state g old) (state g new) (items rows))
  pub fault : IfErr result (λ fault. fault ≡ Database)

-- What a text asked inside a transaction leaves of it, and of what was committed before, whatever the call's
-- outcome and whenever it is stopped.
pub record WorksInside {S : Type 0} (g : Ghosts S) (old new : Transaction S) : Type 0 where
  pub same_reference : new.conn.ghost_name ≡ old.conn.ghost_name
  pub kept : HasCleanDisk (state g new.conn.now) → IsTrue (state g old.conn.now).in_transaction
      → KeepsCommit (state g old.conn.now) (state g new.conn.now)
  pub survives : Survives (state g old.conn.now) (state g new.conn.now) (λ _. ⊥)

-- After an answer the transaction goes on, whatever tables exist.
abbrev pub StaysInside : {S A : Type 0} → Ghosts S → Transaction S → Transaction S → Result A Fault → Type 0
StaysInside g old new result = HasCleanDisk (state g new.conn.now) → IsTrue (state g old.conn.now).in_transaction
    → OnOk result (IsTrue (state g new.conn.now).in_transaction)

-- A text was asked inside a transaction for all its rows, which the list has in order. Only the database can
-- refuse it.
pub record AsksInside {S L : Type 0} (items : L → List Row) (text : List ℕ) (given : Row)
    (g : Ghosts S) (old new : Transaction S) (result : Result L Fault) : Type 0 where
  pub works : WorksInside g old new
  pub shown : HasCleanDisk (state g new.conn.now)
      → IfOk result (λ rows. Shown text given (state g old.conn.now) (state g new.conn.now) (items rows))
  pub fault : IfErr result (λ fault. fault ≡ Database)

-- What plain texts leave of tables with the schema, if nothing is committed.
pub record Looks {S : Type 0} (g : Ghosts S) (old new : Held S) : Type 0 where
  pub clean : HasCleanDisk (state g new) → HasCleanDisk (state g old)
  pub mode : old.in_transaction ≡ false → new.in_transaction ≡ false
  pub leaves : HasCleanDisk (state g new) → (state g old).now.schema ≡ schema
      → IsKeptOrUndone (state g old) (state g new)
  pub survives : Survives (state g old) (state g new) (λ _. (state g old).now.schema ≢ schema)

-- The tables were asked in a transaction that was rolled back: if the database is still open they are what
-- was committed, whatever tables exist.
pub record RollsBack {S : Type 0} (g : Ghosts S) (old new : Held S) : Type 0 where
  pub idle : new.in_transaction ≡ false
  pub same : HasCleanDisk (state g new) → IsTrue (state g new).is_open
      → IsTrue (state g old).is_open × ((state g new).now ≡ (state g old).committed)
      × ((state g new).committed ≡ (state g old).committed)
  pub survives : Survives (state g old) (state g new) (λ _. ⊥)

-- What was found holds in the tables' maps, and nothing is changed: for tables of a given schema, and of the
-- newest.
abbrev pub OfMapsAt : {S A : Type 0} → Schema → (Maps → A → Type 0) → Ghosts S → Held S → Held S → Result A Fault → Type 0
OfMapsAt s Is g old new result = HasCleanDisk (state g new)
    → IfOk result (λ x. (maps : Maps) → Holds s (state g old).now maps
    → Is maps x × IsUnchanged (state g old) (state g new))

abbrev pub OfMaps : {S A : Type 0} → (Maps → A → Type 0) → Ghosts S → Held S → Held S → Result A Fault → Type 0
OfMaps = OfMapsAt schema

-- The same for a picture that the tables of a schema show.
abbrev pub OfPictureAt : {S A : Type 0} → ℕ → (Picture → A → Type 0) → Ghosts S → Held S → Held S → Result A Fault → Type 0
OfPictureAt n Is g old new result = HasCleanDisk (state g new)
    → IfOk result (λ x. (P : Picture) → HasPictureAt n (state g old).now P
    → Is P x × IsUnchanged (state g old) (state g new))

abbrev pub OfPicture : {S A : Type 0} → (Picture → A → Type 0) → Ghosts S → Held S → Held S → Result A Fault → Type 0
OfPicture = OfPictureAt SCHEMA

-- The fault of a stored row comes only over maps that satisfy `Bad`.
abbrev pub IsStoredAt : {S A : Type 0} → Schema → (Maps → Type 0) → Ghosts S → Held S → Held S → Result A Fault → Type 0
IsStoredAt s Bad g old new result = HasCleanDisk (state g new) → result ≡ Err Stored
    → (maps : Maps) → Holds s (state g old).now maps → Bad maps

abbrev pub IsStoredIn : {S A : Type 0} → (Maps → Type 0) → Ghosts S → Held S → Held S → Result A Fault → Type 0
IsStoredIn = IsStoredAt schema

-- It never comes over a picture that satisfies `Good`.
abbrev pub IsSoundAt : {S A : Type 0} → ℕ → (Picture → Type 0) → Ghosts S → Held S → Held S → Result A Fault → Type 0
IsSoundAt n Good g old new result = HasCleanDisk (state g new)
    → (P : Picture) → HasPictureAt n (state g old).now P → Good P → result ≢ Err Stored

abbrev pub IsSoundIn : {S A : Type 0} → (Picture → Type 0) → Ghosts S → Held S → Held S → Result A Fault → Type 0
IsSoundIn = IsSoundAt SCHEMA

-- The first row that a text shows, within its limits.
pub record FirstEntry {S R : Type 0} (cells : R → Row) (IsLegal : R → Type 0) (text : List ℕ) (given : Row)
    (g : Ghosts S) (old new : Held S) (result : Result (Option R) Fault) : Type 0 where
  pub asks : Asks text given g old new
  pub finds : HasCleanDisk (state g new)
      → IfOk result (λ row. FindsRow text given (state g old) (state g new) (option_map cells row))
  pub limits : IfOk result (λ row. IfSome row IsLegal)
  pub stored : HasCleanDisk (state g new) → result ≡ Err Stored
      → (v : Row) × FindsRow text given (state g old) (state g new) (Some v) × ((r : R) → IsLegal r → v ≢ cells r)

-- The row of a key, if any: what is read of it, in terms of the maps and of a picture, and when it is outside
-- its limits.
pub record Gets {S K R : Type 0} (t : Table K R) (key : K)
    (g : Ghosts S) (old new : Held S) (result : Result (Option R) Fault) : Type 0 where
  pub looks : Looks g old new
  pub gets : OfMaps (λ maps row. maps t.place (t.key key) ≡ option_map t.cells row) g old new result
  pub limits : IfOk result (λ row. IfSome row t.IsLegal)
  pub stored : IsStoredIn (λ maps. (r : R) → t.IsLegal r → maps t.place (t.key key) ≢ Some (t.cells r)) g old new result
  pub shows : HasCleanDisk (state g new) → IfOk result (λ row. (P : Picture) → HasPicture (state g old).now P
      → IfSome (t.rows P key) t.IsLegal → (row ≡ t.rows P key) × IsUnchanged (state g old) (state g new))
  pub sound : IsSoundIn (λ P. IfSome (t.rows P key) t.IsLegal) g old new result
  pub view : Views (λ P row. row ≡ t.rows P key) g old new result

-- Whether a row stands under the key, whatever its columns, told inside a transaction over the tables of the
-- newest schema. If it is told, nothing is changed, so the transaction goes on. Only the database can refuse it.
pub record TellsRowInside {S K R : Type 0} (t : Table K R) (key : K)
    (g : Ghosts S) (old new : Transaction S) (result : Result Bool Fault) : Type 0 where
  pub works : WorksInside g old new
  pub inside : StaysInside g old new result
  pub tells : OfMaps (λ maps there. there ≡ is_some (maps t.place (t.key key))) g old.conn.now new.conn.now result
  pub shows : OfPicture (λ P there. there ≡ is_some (t.rows P key)) g old.conn.now new.conn.now result
  pub fault : IfErr result (λ fault. fault ≡ Database)

-- The only row of `meta`. The fault of a stored row means that it is outside its limits or not the only one.
pub record GetsMeta {S : Type 0} (g : Ghosts S) (old new : Held S) (result : Result MetaRow Fault) : Type 0 where
  pub looks : Looks g old new
  pub gets : OfMaps (λ maps row. maps meta_place (number_key 1) ≡ Some (meta_cells row)) g old new result
  pub alone : HasCleanDisk (state g new) → IfOk result (λ row. (maps : Maps) → Holds schema (state g old).now maps
      → IsLone (maps meta_place) row)
  pub limits : IfOk result IsMeta
  pub stored : IsStoredIn (λ maps. (r : MetaRow) → IsMeta r → maps meta_place (number_key 1) ≡ Some (meta_cells r)
      → ¬ IsLone (maps meta_place) r) g old new result
  pub shows : OfPicture (λ P row. row ≡ P.meta) g old new result
  pub sound : IsSoundIn (λ P. IsMeta P.meta) g old new result
  pub view : Views (λ P row. row ≡ P.meta) g old new result

-- The same inside a transaction, over the tables of each schema. If the row comes, nothing is changed, so the
-- transaction goes on.
pub record GetsMetaInside {S : Type 0} (g : Ghosts S) (old new : Transaction S) (result : Result MetaRow Fault) : Type 0 where
  pub works : WorksInside g old new
  pub inside : StaysInside g old new result
  pub gets : (n : ℕ) → HasTable 1 n
      → OfMapsAt (schema_at n) (λ maps row. maps meta_place (number_key 1) ≡ Some (meta_cells row)) g old.conn.now new.conn.now result
  pub limits : IfOk result IsMeta
  pub stored : (n : ℕ) → HasTable 1 n → IsStoredAt (schema_at n) (λ maps. (r : MetaRow) → IsMeta r → maps meta_place (number_key 1) ≡ Some (meta_cells r)
      → ¬ IsLone (maps meta_place) r) g old.conn.now new.conn.now result
  pub shows : (n : ℕ) → HasTable 1 n → OfPictureAt n (λ P row. row ≡ P.meta) g old.conn.now new.conn.now result
  pub sound : (n : ℕ) → HasTable 1 n → IsSoundAt n (λ P. IsMeta P.meta) g old.conn.now new.conn.now result

-- What is kept under a caller's key, if anything.
pub record GetsKept {S : Type 0} (owner : Owner) (key : List ℕ)
    (g : Ghosts S) (old new : Held S) (result : Result (Option KeptReply) Fault) : Type 0 where
  pub looks : Looks g old new
  pub gets : OfMaps (λ maps kept. maps kept_place (kept_key owner key) ≡ option_map (kept_with owner key) kept) g old new result
  pub stored : IsStoredIn (λ maps. (r : KeptRow) → IsUtf8 r.text → IsUtf8 r.reply
      → maps kept_place (kept_key owner key) ≢ Some (kept_cells r)) g old new result
  pub shows : HasCleanDisk (state g new) → IfOk result (λ kept. (P : Picture) → HasPicture (state g old).now P
      → IsOwner owner → (kept ≡ option_map reply_of (P.kept owner key)) × IsUnchanged (state g old) (state g new))
  pub sound : HasCleanDisk (state g new) → (P : Picture) → HasPicture (state g old).now P → IsOwner owner
      → IfSome (P.kept owner key) HasTexts → result ≢ Err Stored
  pub view : Views (λ P kept. IsOwner owner → kept ≡ option_map reply_of (P.kept owner key)) g old new result

-- The row that a selection finds first, if any. If it answers, tables with the schema are unchanged.
pub record Selects {S K R : Type 0} (t : Table K R) (Found : Maps → List Row → Type 0)
    (g : Ghosts S) (old new : Held S) (result : Result (Option R) Fault) : Type 0 where
  pub looks : Looks g old new
  pub first : OfMaps (λ maps row. Found maps (map t.cells (option_to_list row))) g old new result
  pub limits : IfOk result (λ row. IfSome row t.IsLegal)
  pub stored : IsStoredIn (λ maps. ¬ AreEncoded t.cells t.IsLegal (maps t.place)) g old new result
  pub same : HasCleanDisk (state g new)
      → IfOk result (λ _. (state g old).now.schema ≡ schema → IsUnchanged (state g old) (state g new))
  pub read : Reading (result_err result) (state g old) (state g new)

-- The number that a text counts. The fault of a stored row comes if that isn't below 2^32.
pub record CountShown {S : Type 0} (text : List ℕ) (given : Row)
    (g : Ghosts S) (old new : Held S) (result : Result ℕ Fault) : Type 0 where
  pub asks : Asks text given g old new
  pub counts : HasCleanDisk (state g new) → IfOk result (λ n. (row : Row)
      × FindsRow text given (state g old) (state g new) (Some row) × (column row 0 ≡ number n) × (n ≤ 4294967295))
  pub stored : HasCleanDisk (state g new) → result ≡ Err Stored → (row : Row)
      × FindsRow text given (state g old) (state g new) (Some row)
      × (0 < length row → (n : ℕ) → n ≤ 4294967295 → column row 0 ≢ number n)

-- How many rows of a table pass a test. The fault of a stored row stands for 2^32 or more.
pub record Counts {S K R : Type 0} (t : Table K R) (passes : Row → Bool)
    (g : Ghosts S) (old new : Held S) (result : Result ℕ Fault) : Type 0 where
  pub looks : Looks g old new
  pub counts : OfMaps (λ maps n. Count (maps t.place) passes n) g old new result
  pub stored : IsStoredIn (λ maps. (n : ℕ) × Count (maps t.place) passes n × (4294967295 < n)) g old new result

-- What is read of all rows that a text shows, each within its limits.
pub record Entries {S R L : Type 0} (items : L → List R) (cells : R → Row) (IsLegal : R → Type 0)
    (text : List ℕ) (given : Row) (g : Ghosts S) (old new : Held S) (result : Result L Fault) : Type 0 where
  pub shown : HasCleanDisk (state g new)
      → IfOk result (λ l. Shown text given (state g old) (state g new) (map cells (items l)))
  pub limits : IfOk result (λ l. All IsLegal (items l))
  pub stored : HasCleanDisk (state g new) → result ≡ Err Stored
      → (rows : List Row) × Shown text given (state g old) (state g new) rows
      × ¬ ((v : Row) → Has rows v → (r : R) × IsLegal r × (v ≡ cells r))

-- The same, with what the text leaves.
pub record AllEntries {S R L : Type 0} (items : L → List R) (cells : R → Row) (IsLegal : R → Type 0)
    (text : List ℕ) (given : Row) (g : Ghosts S) (old new : Held S) (result : Result L Fault) : Type 0 where
  pub asks : Asks text given g old new
  pub entries : Entries items cells IsLegal text given g old new result

-- The same inside a transaction.
pub record EntriesInside {S R L : Type 0} (items : L → List R) (cells : R → Row) (IsLegal : R → Type 0)
    (text : List ℕ) (given : Row) (g : Ghosts S) (old new : Transaction S) (result : Result L Fault) : Type 0 where
  pub works : WorksInside g old new
  pub entries : Entries items cells IsLegal text given g old.conn.now new.conn.now result

-- The rows of a table that a list takes, in its order.
pub record Lists {S K R L : Type 0} (t : Table K R) (items : L → List R) (Found : Map → List Row → Type 0)
    (g : Ghosts S) (old new : Held S) (result : Result L Fault) : Type 0 where
  pub looks : Looks g old new
  pub lists : OfMaps (λ maps l. Found (maps t.place) (map t.cells (items l))) g old new result
  pub limits : IfOk result (λ l. All t.IsLegal (items l))
  pub stored : IsStoredIn (λ maps. ¬ AreEncoded t.cells t.IsLegal (maps t.place)) g old new result
  pub sound : IsSoundIn InLimits g old new result
  pub read : Reading (result_err result) (state g old) (state g new)

-- The same inside a transaction, over the tables of each schema that has this one. If the rows come, nothing
-- is changed, so the transaction goes on.
pub record ListsInside {S K R L : Type 0} (t : Table K R) (items : L → List R) (Found : Map → List Row → Type 0)
    (g : Ghosts S) (old new : Transaction S) (result : Result L Fault) : Type 0 where
  pub works : WorksInside g old new
  pub lists : (n : ℕ) → HasTable t.since n → OfMapsAt (schema_at n) (λ maps l. Found (maps t.place) (map t.cells (items l))) g old.conn.now new.conn.now result
  pub limits : IfOk result (λ l. All t.IsLegal (items l))
  pub stored : (n : ℕ) → HasTable t.since n
      → IsStoredAt (schema_at n) (λ maps. ¬ AreEncoded t.cells t.IsLegal (maps t.place)) g old.conn.now new.conn.now result

-- The single closed days of a branch.
pub record ListsDays {S L : Type 0} (items : L → List ℕ) (branch : ℕ)
    (g : Ghosts S) (old new : Held S) (result : Result L Fault) : Type 0 where
  pub looks : Looks g old new
  pub days : OfMaps (λ maps l. AreClosedDays (maps closed_days_place) branch (items l)) g old new result
  pub limits : IfOk result (λ l. All IsDayNumber (items l))
  pub stored : IsStoredIn (λ maps. ¬ AreEncoded day_cells IsClosedDay (maps closed_days_place)) g old new result
  pub shows : OfPicture (λ P l. AreSuch (items l) (P.closed_days branch)) g old new result
  pub view : Views (λ P l. AreSuch (items l) (P.closed_days branch)) g old new result
