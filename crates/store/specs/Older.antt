-- The tables of older schemas, which the newest leaves empty: `rules`, `loans` and `holds`.
use Rattle.std.specs.Prelude.{◌≡◌, ◌↔◌, ◌<◌, ℕ, Option, Some, None, Result, IsSome}
use Rattle.sqlite.specs.Effect.{Database}
use Rattle.sqlite.specs.Held.{Held}
use Rattle.sqlite.specs.Order.{Row}
use Rattle.sqlite.specs.Store.{Ghosts}
use Rattle.sql_maps.specs.Maps.{Map, Maps, Holds}
use Rattle.circ_tables.specs.Reading.{Views}
use Rattle.circ_tables.specs.Shape.{schema, rules1_place, loans1_place, holds1_place}
use Rattle.terms.specs.Orders.{IsPairBefore}
use Rattle.terms.specs.Pictures.{Picture}
use Rattle.terms.specs.declared.fault.Fault.{Fault}
use Rattle.store.specs.Legal.{OverMaps}
use Rattle.store.specs.declared.older.OldRow.{OldRow}
use Rattle.store.specs.declared.older.OldRow.TheVariants.{Rule, Loan, Hold}

-- The lowest number that has a row, or none if no number has one.
abbrev pub IsLeastNumber : {R : Type 0} → (ℕ → Option R) → Option ℕ → Type 0
IsLeastNumber t None = (n : ℕ) → t n ≡ None
IsLeastNumber t (Some n) = IsSome (t n) × ((m : ℕ) → m < n → t m ≡ None)

-- The second number of the lowest pair that has a row, or none if no pair has one.
abbrev pub IsLeastPair : {R : Type 0} → (ℕ → ℕ → Option R) → Option ℕ → Type 0
IsLeastPair t None = (k c : ℕ) → t k c ≡ None
IsLeastPair t (Some c) = (k : ℕ) × IsSome (t k c) × ((j b : ℕ) → IsPairBefore (j, b) (k, c) → t j b ≡ None)

-- The least row of the first of these tables that has one, or none if none has one.
abbrev pub IsFirstOldRow : Picture → Option OldRow → Type 0
IsFirstOldRow P None = IsLeastPair P.rules1 None × IsLeastNumber P.loans1 None × IsLeastNumber P.holds1 None
IsFirstOldRow P (Some (Rule kind)) = IsLeastPair P.rules1 (Some kind)
IsFirstOldRow P (Some (Loan loan)) = IsLeastPair P.rules1 None × IsLeastNumber P.loans1 (Some loan)
IsFirstOldRow P (Some (Hold hold)) = IsLeastPair P.rules1 None × IsLeastNumber P.loans1 None × IsLeastNumber P.holds1 (Some hold)

-- ---- whatever rows the tables have

-- The table has no row, damaged or not.
abbrev pub IsEmpty : Map → Type 0
IsEmpty m = (k : Row) → m k ≡ None

-- None of the three has a row.
pub record HaveNoOldRows (maps : Maps) : Type 0 where
  pub rules : IsEmpty (maps rules1_place)
  pub loans : IsEmpty (maps loans1_place)
  pub holds : IsEmpty (maps holds1_place)

-- The tables of older schemas are empty.
abbrev pub HasNoOldRows : Database → Type 0
HasNoOldRows db = (maps : Maps) → Holds schema db maps → HaveNoOldRows maps

-- One of them isn't.
abbrev pub HasOldRows : Database → Type 0
HasOldRows db = (maps : Maps) → Holds schema db maps → ¬ HaveNoOldRows maps

-- A row is found exactly if there is one, whether the tables show a picture or not.
abbrev pub TellsOldRows : {S : Type 0} → Ghosts S → Held S → Held S → Result (Option OldRow) Fault → Type 0
TellsOldRows = OverMaps (λ found maps. (found ≡ None) ↔ HaveNoOldRows maps)

-- The first row of these tables, in terms of the picture that the tables show, and whether there is one, whatever they
-- show.
pub record FindsOldRow {S : Type 0} (g : Ghosts S) (old new : Held S) (result : Result (Option OldRow) Fault) : Type 0 where
  pub view : Views IsFirstOldRow g old new result
  pub tells : TellsOldRows g old new result

-- The same for the first row of one table.
pub record FindsFirst {S A : Type 0} (Is : Picture → Option A → Type 0) (place : ℕ)
    (g : Ghosts S) (old new : Held S) (result : Result (Option A) Fault) : Type 0 where
  pub view : Views Is g old new result
  pub tells : OverMaps (λ found maps. (found ≡ None) ↔ IsEmpty (maps place)) g old new result
