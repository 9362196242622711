-- Rows within their limits, whether the tables show a picture or not.
use Rattle.std.specs.Prelude.{◌≡◌, ◌⊎◌, ◌<◌, ◌≤◌, List, length, map, Some, Result, IfOk, OnOk}
use Rattle.std.specs.List.{All, Contains}
use Rattle.sqlite.specs.Effect.{Database}
use Rattle.sqlite.specs.Held.{Held, state}
use Rattle.sqlite.specs.Order.{Row}
use Rattle.sqlite.specs.State.{HasCleanDisk}
use Rattle.sqlite.specs.Store.{Ghosts}
use Rattle.sqlite_rules.specs.Lists.{Has}
use Rattle.sqlite_trees.specs.Tree.{IsAscending}
use Rattle.sql_maps.specs.Maps.{Maps, Holds, PairBelow}
use Rattle.circ_tables.specs.Barcodes.{barcodes}
use Rattle.circ_tables.specs.Branches.{branches}
use Rattle.circ_tables.specs.Cells.{owner_number, meta_cells, kept_cells}
use Rattle.circ_tables.specs.ClosedDays.{closed_days}
use Rattle.circ_tables.specs.Copies.{copies}
use Rattle.circ_tables.specs.Encoding.{AreEncoded}
use Rattle.circ_tables.specs.Holds.{holds}
use Rattle.circ_tables.specs.Kept.{kept}
use Rattle.circ_tables.specs.Kinds.{kinds}
use Rattle.circ_tables.specs.Lines.{lines}
use Rattle.circ_tables.specs.Loans.{loans}
use Rattle.circ_tables.specs.Notes.{notes}
use Rattle.circ_tables.specs.Patrons.{patrons}
use Rattle.circ_tables.specs.Reading.{Table, Views}
use Rattle.circ_tables.specs.Rules.{rules}
use Rattle.circ_tables.specs.Shape.{schema, meta_place}
use Rattle.circ_tables.specs.Titles.{titles}
use Rattle.circ_tables.specs.Transits.{transits}
use Rattle.terms.specs.Limits.{IsMeta}
use Rattle.terms.specs.Pictures.{Picture}
use Rattle.terms.specs.declared.fault.Fault.{Fault}
use Rattle.terms.specs.declared.row.KeptRow.{KeptRow}

-- Every row of the table is the encoding of a row within its limits.
abbrev pub HasLegal : {K R : Type 0} → Table K R → Maps → Type 0
HasLegal t maps = AreEncoded t.cells t.IsLegal (maps t.place)

-- The same for the tables that the desk sets.
pub record HasLegalRegisters (maps : Maps) : Type 0 where
  pub meta : AreEncoded meta_cells IsMeta (maps meta_place)
  pub branches : HasLegal branches maps
  pub closed_days : HasLegal closed_days maps
  pub kinds : HasLegal kinds maps
  pub rules : HasLegal rules maps

-- For patrons, titles and copies.
pub record HasLegalHoldings (maps : Maps) : Type 0 where
  pub patrons : HasLegal patrons maps
  pub titles : HasLegal titles maps
  pub copies : HasLegal copies maps

-- For what was done with them.
pub record HasLegalDealings (maps : Maps) : Type 0 where
  pub loans : HasLegal loans maps
  pub holds : HasLegal holds maps
  pub transits : HasLegal transits maps
  pub lines : HasLegal lines maps

-- For barcodes and notes.
pub record HasLegalLabels (maps : Maps) : Type 0 where
  pub barcodes : HasLegal barcodes maps
  pub notes : HasLegal notes maps

-- For all tables but those of older schemas, which the newest leaves empty.
pub record HasLegalTables (maps : Maps) : Type 0 where
  pub registers : HasLegalRegisters maps
  pub holdings : HasLegalHoldings maps
  pub dealings : HasLegalDealings maps
  pub labels : HasLegalLabels maps
  pub kept : HasLegal kept maps

-- Every row of these fifteen tables is within its limits: none is damaged.
abbrev pub HasLegalRows : Database → Type 0
HasLegalRows db = (maps : Maps) → Holds schema db maps → HasLegalTables maps

-- This holds of what was read and of the tables' maps, whether these show a picture or not.
abbrev pub OverMaps : {S A : Type 0} → (A → Maps → Type 0) → Ghosts S → Held S → Held S → Result A Fault → Type 0
OverMaps Is g old new result = HasCleanDisk (state g new)
    → IfOk result (λ x. (maps : Maps) → Holds schema (state g old).now maps → Is x maps)

-- What is read, in terms of the picture that the tables show, and what holds of the tables' rows, whether
-- they show one or not.
pub record Reviews {S A : Type 0} (Is : Picture → A → Type 0) (Met : Maps → Type 0)
    (g : Ghosts S) (old new : Held S) (result : Result A Fault) : Type 0 where
  pub view : Views Is g old new result
  pub met : OverMaps (λ x maps. Met maps) g old new result

-- The next batch of the kept rows after this one, in order: each row to come is in it, or comes after all its
-- rows, of which there is at least one. None is of an earlier caller.
pub record IsKeptBatch (last : KeptRow) (batch : List KeptRow) (maps : Maps) : Type 0 where
  pub limits : All kept.IsLegal batch
  pub sound : (v : Row) → Has (map kept_cells batch) v → (k : Row) × (maps kept.place k ≡ Some v)
  pub rises : IsAscending PairBelow (map kept_cells batch)
  pub later : (r : KeptRow) → Contains batch r → owner_number last.caller ≤ owner_number r.caller
  pub whole : (k v : Row) → maps kept.place k ≡ Some v → PairBelow (kept_cells last) v
      → Has (map kept_cells batch) v ⊎ ((0 < length batch) × ((w : Row) → Has (map kept_cells batch) w → PairBelow w v))

-- An answer comes only if no row is damaged.
abbrev pub AnswersLegal : {S A : Type 0} → Ghosts S → Held S → Held S → Result A Fault → Type 0
AnswersLegal g old new result = HasCleanDisk (state g new) → OnOk result (HasLegalRows (state g old).now)
