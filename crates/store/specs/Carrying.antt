-- How a table's rows are carried over to the table of the next schema.
use Rattle.std.specs.Prelude.{◌≡◌, ◌==◌, ℕ, Bool, true, false, List, [], ◌∷◌, Option, Some}
use Rattle.std.specs.Prelude.{None, option_map, Err, Result, OnOk, IsTrue}
use Rattle.sqlite.specs.Held.{state}
use Rattle.sqlite.specs.State.{HasCleanDisk, KeepsCommit, Survives}
use Rattle.sqlite.specs.Store.{Ghosts}
use Rattle.sqlite.specs.declared.transaction.Transaction.{Transaction}
use Rattle.sqlite.specs.Order.{Row}
use Rattle.sql_maps.specs.Maps.{Maps, Holds, put_at, take_at, same_key}
use Rattle.terms.specs.Limits.{InLimits}
use Rattle.terms.specs.Pictures.{Picture}
use Rattle.terms.specs.declared.fault.Fault.{Fault}
use Rattle.terms.specs.declared.fault.Fault.TheVariants.{Stored}
use Rattle.circ_tables.specs.Encoding.{HasPictureAt}
use Rattle.circ_tables.specs.Puts.{ChangesRows}
use Rattle.circ_tables.specs.Reading.{Table}
use Rattle.circ_tables.specs.Shape.{HasTable, schema_at}
use Rattle.store.specs.Library.{HasTablesAt}

-- ---- rows carried over

-- From a table to that of the next schema: the key of a row in each, the test for equal keys, what a row
-- becomes, and the picture with these rows in the two tables.
pub record Transfer (K R N : Type 0) : Type 0 where
  pub key_of : R → K
  pub new_key : N → K
  pub same : K → K → Bool
  pub carried : R → N
  pub with_both : Picture → (K → Option R) → (K → Option N) → Picture

-- The map with this under the key.
abbrev pub put_by : {K A : Type 0} → (K → K → Bool) → (K → A) → K → A → K → A
put_by same t k x j = elim (same k j) [ true ↦ x | false ↦ t j ]

-- What the two tables must satisfy; they are distinct, and a library with the new one has the old one.
pub record IsTransfer {K R N : Type 0} (old : Table K R) (new : Table K N) (transfer : Transfer K R N) : Type 0 where
  pub there : HasTable new.since new.since
  pub was_there : HasTable old.since new.since
  pub apart : (old.place == new.place) ≡ false
  pub own : (k : K) → transfer.same k k ≡ true
  pub met : (j k : K) → transfer.same j k ≡ true → j ≡ k
  pub same : (P : Picture) → transfer.with_both P (old.rows P) (new.rows P) ≡ P
  pub old_rows : (P : Picture) (f : K → Option R) (g : K → Option N) → old.rows (transfer.with_both P f g) ≡ f
  pub taken : (P : Picture) (f : K → Option R) (g : K → Option N) (k : K)
      → old.set (transfer.with_both P f g) k None ≡ transfer.with_both P (put_by transfer.same f k None) g
  pub put_in : (P : Picture) (f : K → Option R) (g : K → Option N) (k : K) (n : N)
      → new.set (transfer.with_both P f g) k (Some n) ≡ transfer.with_both P f (put_by transfer.same g k (Some n))
  pub key_is : (r : R) → transfer.new_key (transfer.carried r) ≡ transfer.key_of r
  pub keys : (j k : K) → new.key j ≡ new.key k → j ≡ k
  pub own_keys : (k : K) → (same_key (old.key k) (old.key k) ≡ true) × (same_key (new.key k) (new.key k) ≡ true)
  pub legal : (r : R) → old.IsLegal r → new.IsLegal (transfer.carried r)
  pub limits : (P : Picture) (f : K → Option R) (g : K → Option N) → InLimits P → ((k : K) (r : R) → f k ≡ Some r → (transfer.key_of r ≡ k) × old.IsLegal r)
      → ((k : K) (n : N) → g k ≡ Some n → (transfer.new_key n ≡ k) × new.IsLegal n) → InLimits (transfer.with_both P f g)

-- One row is put into the new table and taken out of the old one; then each of a list. The same in the maps.
module _ {K R N : Type 0} (old : Table K R) (new : Table K N) (transfer : Transfer K R N) where
  abbrev pub move_one : R → Picture → Picture
  move_one r P = old.set (new.set P (transfer.new_key (transfer.carried r)) (Some (transfer.carried r))) (transfer.key_of r) None

  abbrev pub move_all : List R → Picture → Picture
  move_all [] P = P
  move_all (r ∷ more) P = move_all more (move_one r P)

  abbrev pub move_row : R → Maps → Maps
  move_row r maps = take_at (put_at maps new.place (new.key (transfer.new_key (transfer.carried r))) (new.cells (transfer.carried r))) old.place
      (old.key (transfer.key_of r))

  abbrev pub move_rows : List R → Maps → Maps
  move_rows [] maps = maps
  move_rows (r ∷ more) maps = move_rows more (move_row r maps)

  -- The row, or the rows of a batch, are moved, in the maps and the picture. The only fault is 91.
  abbrev pub MovesRow : {S T : Type 0} → R → Ghosts S → Transaction S → Transaction S → Result T Fault → Type 0
  MovesRow r = ChangesRows new.since (move_row r) (Unit {0}) (move_one r)

  abbrev pub MovesBatch : {S T : Type 0} → List R → Ghosts S → Transaction S → Transaction S → Result T Fault → Type 0
  MovesBatch batch = ChangesRows new.since (move_rows batch) (Unit {0}) (move_all batch)

-- A library is migrated in the transaction from the tables of one schema to those of another, or the same. If
-- the first exist nothing is committed, and after an answer the transaction goes on over the others; what an
-- answer says of their maps holds whatever they show. If they show a picture that is ready they show the
-- other afterwards, and no fault of a stored row comes.
pub record MigratesInside {S T : Type 0} (from to : ℕ) (AreLed : Maps → Maps → Type 0) (IsReady : Picture → Type 0) (change : Picture → Picture)
    (g : Ghosts S) (old new : Transaction S) (result : Result T Fault) : Type 0 where
  pub same_reference : new.conn.ghost_name ≡ old.conn.ghost_name
  pub survives : Survives (state g old.conn.now) (state g new.conn.now) (λ _. ⊥)
  pub kept : HasCleanDisk (state g new.conn.now) → IsTrue (state g old.conn.now).in_transaction
      → HasTablesAt from (state g old.conn.now).now → KeepsCommit (state g old.conn.now) (state g new.conn.now)
  pub inside : HasCleanDisk (state g new.conn.now) → IsTrue (state g old.conn.now).in_transaction
      → HasTablesAt from (state g old.conn.now).now → OnOk result (IsTrue (state g new.conn.now).in_transaction)
  pub rows : HasCleanDisk (state g new.conn.now) → IsTrue (state g old.conn.now).in_transaction
      → (maps : Maps) → Holds (schema_at from) (state g old.conn.now).now maps
      → OnOk result ((now : Maps) × Holds (schema_at to) (state g new.conn.now).now now × AreLed maps now)
  pub migrates : HasCleanDisk (state g new.conn.now) → IsTrue (state g old.conn.now).in_transaction
      → (P : Picture) → HasPictureAt from (state g old.conn.now).now P → IsReady P
      → OnOk result (HasPictureAt to (state g new.conn.now).now (change P))
  pub sound : HasCleanDisk (state g new.conn.now) → IsTrue (state g old.conn.now).in_transaction → result ≡ Err Stored
      → (P : Picture) → HasPictureAt from (state g old.conn.now).now P → IsReady P → ⊥

-- The picture's rows are within their limits, and the new table has none yet.
abbrev pub IsToCarry : {K N : Type 0} → Table K N → Picture → Type 0
IsToCarry {K} new P = InLimits P × ((k : K) → new.rows P k ≡ None)

-- The old table's entry was a row within its limits, and the new table has what it becomes.
pub record IsCarried {K R N : Type 0} (old : Table K R) (new : Table K N) (transfer : Transfer K R N) (v : Row) (now : Maps) : Type 0 where
  pub row : R
  pub legal : old.IsLegal row
  pub was : v ≡ old.cells row
  pub there : now new.place (new.key (transfer.new_key (transfer.carried row))) ≡ Some (new.cells (transfer.carried row))

-- This holds of everything that stood there.
abbrev pub AreCarried : {K R N : Type 0} → Table K R → Table K N → Transfer K R N → Maps → Maps → Type 0
AreCarried old new transfer maps now = (k v : Row) → maps old.place k ≡ Some v → IsCarried old new transfer v now

-- All tables but these two are unchanged.
pub record AreMoved {K R N : Type 0} (old : Table K R) (new : Table K N) (transfer : Transfer K R N) (maps now : Maps) : Type 0 where
  pub carried : AreCarried old new transfer maps now
  pub others : (at : ℕ) → (at == old.place) ≡ false → (at == new.place) ≡ false → now at ≡ maps at

-- All rows are in the new table, and none in the old one.
abbrev pub all_over : {K R N : Type 0} → Table K R → Transfer K R N → Picture → Picture
all_over old transfer P = transfer.with_both P (λ _. None) (λ k. option_map transfer.carried (old.rows P k))

-- A table's rows are carried over, inside the first schema that has the new one.
abbrev pub CarriesAll : {K R N S T : Type 0} → Table K R → Table K N → Transfer K R N → Ghosts S → Transaction S → Transaction S → Result T Fault → Type 0
CarriesAll old new transfer = MigratesInside new.since new.since (AreMoved old new transfer) (IsToCarry new) (all_over old transfer)
