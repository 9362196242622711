-- The numbers that a command gives to new loans, holds and lines.
use Rattle.std.specs.Prelude.{◌≡◌, ◌⊎◌, ◌≤◌, ◌<◌, ℕ, List, Option, Some, None, Err, Result, IfOk, IfErr, OnOk}
use Rattle.sqlite.specs.Held.{Held, state}
use Rattle.sqlite.specs.State.{HasCleanDisk}
use Rattle.sqlite.specs.Store.{Ghosts}
use Rattle.sqlite.specs.declared.transaction.Transaction.{Transaction}
use Rattle.sql_maps.specs.Maps.{Maps, Holds}
use Rattle.terms.specs.Limits.{IsMeta}
use Rattle.terms.specs.Pictures.{Picture}
use Rattle.terms.specs.declared.fault.Fault.{Fault}
use Rattle.terms.specs.declared.fault.Fault.TheVariants.{Database, Stored}
use Rattle.terms.specs.declared.row.MetaRow.{MetaRow}
use Rattle.circ_core.specs.Tables.{changed}
use Rattle.circ_core.specs.declared.changes.RowChange.{RowChange}
use Rattle.circ_core.specs.declared.changes.RowChange.TheVariants.{PutMeta}
use Rattle.circ_tables.specs.Encoding.{HasPicture}
use Rattle.circ_tables.specs.Reading.{WorksInside, StaysInside}
use Rattle.circ_tables.specs.Shape.{schema}

-- No number from the first to before the last has a row.
abbrev pub AreUnused : {R : Type 0} → (ℕ → Option R) → ℕ → ℕ → Type 0
AreUnused t first last = (n : ℕ) → first ≤ n → n < last → t n ≡ None

-- Of each of the three tables, no number from its next one to before the one that `meta` names afterwards has
-- a row: these are the numbers that the command gives.
pub record AreFree (P : Picture) (after : MetaRow) : Type 0 where
  pub loans : AreUnused P.loans P.meta.next_loan after.next_loan
  pub holds : AreUnused P.holds P.meta.next_hold after.next_hold
  pub lines : AreUnused P.lines P.meta.next_line after.next_line

-- The row of `meta` that a change puts, otherwise the one that was put before.
abbrev pub put_after : RowChange → Option MetaRow → Option MetaRow
put_after (PutMeta row) before = Some row
put_after _ before = before

-- The faults of the database and of a stored row.
abbrev pub IsDatabaseOrStored : Fault → Type 0
IsDatabaseOrStored fault = (fault ≡ Database) ⊎ (fault ≡ Stored)

-- Something was looked at inside the transaction: if it ends well, what was found is true of the picture that
-- the tables show, and the tables are unchanged, so the transaction goes on. The fault of a stored row never
-- comes over a picture that is good. The other fault is the database's.
pub record LooksInside {S A : Type 0} (Is : Picture → A → Type 0) (Good : Picture → Type 0)
    (g : Ghosts S) (old new : Transaction S) (result : Result A Fault) : Type 0 where
  pub works : WorksInside g old new
  pub inside : StaysInside g old new result
  pub same : HasCleanDisk (state g new.conn.now) → OnOk result ((maps : Maps)
      → Holds schema (state g old.conn.now).now maps → (state g new.conn.now).now ≡ (state g old.conn.now).now)
  pub shown : HasCleanDisk (state g new.conn.now) → IfOk result (λ x. (P : Picture)
      → HasPicture (state g old.conn.now).now P → Is P x)
  pub sound : HasCleanDisk (state g new.conn.now) → result ≡ Err Stored → (P : Picture)
      → HasPicture (state g old.conn.now).now P → ¬ Good P
  pub fault : IfErr result IsDatabaseOrStored

-- The changes gave free numbers, or a fault came. That of a stored row never comes over a picture whose row of
-- `meta` is within its limits, if the numbers are free.
pub record GivesFree {S T : Type 0} (changes : List RowChange)
    (g : Ghosts S) (old new : Held S) (result : Result T Fault) : Type 0 where
  pub free : HasCleanDisk (state g new) → OnOk result ((P : Picture)
      → HasPicture (state g old).now P → AreFree P (changed changes P).meta)
  pub sound : HasCleanDisk (state g new) → result ≡ Err Stored → (P : Picture)
      → HasPicture (state g old).now P → IsMeta P.meta → ¬ AreFree P (changed changes P).meta
