-- The rows of the eighteen tables, as maps from their keys.
use Rattle.std.specs.Prelude.{ℕ, ◌==◌, Bool, true, false, ◌&&◌, List, Option, bytes_eq}
use Rattle.terms.specs.declared.command.Owner.{Owner}
use Rattle.terms.specs.declared.command.Owner.TheVariants.{Desk, Patron as Reader}
use Rattle.terms.specs.declared.row.MetaRow.{MetaRow}
use Rattle.terms.specs.declared.row.BranchRow.{BranchRow}
use Rattle.terms.specs.declared.row.KindRow.{KindRow}
use Rattle.terms.specs.declared.row.RuleRow.{RuleRow}
use Rattle.terms.specs.declared.row.RuleRow1.{RuleRow1}
use Rattle.terms.specs.declared.row.PatronRow.{PatronRow}
use Rattle.terms.specs.declared.row.TitleRow.{TitleRow}
use Rattle.terms.specs.declared.row.CopyRow.{CopyRow}
use Rattle.terms.specs.declared.row.LoanRow.{LoanRow}
use Rattle.terms.specs.declared.row.LoanRow1.{LoanRow1}
use Rattle.terms.specs.declared.row.HoldRow.{HoldRow}
use Rattle.terms.specs.declared.row.HoldRow1.{HoldRow1}
use Rattle.terms.specs.declared.row.TransitRow.{TransitRow}
use Rattle.terms.specs.declared.row.LineRow.{LineRow}
use Rattle.terms.specs.declared.row.KeptRow.{KeptRow}
use Rattle.terms.specs.declared.row.Thing.{Thing}
use Rattle.terms.specs.declared.row.Thing.TheVariants as thing
use Rattle.terms.specs.declared.row.BarcodeRow.{BarcodeRow}
use Rattle.terms.specs.declared.row.NoteRow.{NoteRow}

-- The tables: for each key, the row or none. A single closed day exists or not. `holds` is the table of
-- schema 2, `holds1` that of schema 1, empty from then on; `rules` and `loans` are the tables of schema 3,
-- `rules1` and `loans1` those of schemas 1 and 2; `barcodes` and `notes` are tables of schema 4.
pub record Picture : Type 0 where
  pub meta : MetaRow
  pub branches : ℕ → Option BranchRow
  pub closed_days : ℕ → ℕ → Bool
  pub kinds : ℕ → Option KindRow
  pub rules : ℕ → ℕ → Option RuleRow
  pub rules1 : ℕ → ℕ → Option RuleRow1
  pub patrons : ℕ → Option PatronRow
  pub titles : ℕ → Option TitleRow
  pub copies : ℕ → Option CopyRow
  pub loans : ℕ → Option LoanRow
  pub loans1 : ℕ → Option LoanRow1
  pub holds : ℕ → Option HoldRow
  pub holds1 : ℕ → Option HoldRow1
  pub transits : ℕ → Option TransitRow
  pub lines : ℕ → Option LineRow
  pub kept : Owner → List ℕ → Option KeptRow
  pub barcodes : Thing → Option BarcodeRow
  pub notes : ℕ → Option NoteRow

-- ---- one entry set

-- The map with the key's entry set or removed.
abbrev pub put : {A : Type 0} → (ℕ → A) → ℕ → A → ℕ → A
put t k x n = elim (k == n) [ true ↦ x | false ↦ t n ]

-- The same for a key of two numbers.
abbrev pub put_pair : {A : Type 0} → (ℕ → ℕ → A) → ℕ → ℕ → A → ℕ → ℕ → A
put_pair t j k x m n = elim ((j == m) && (k == n)) [ true ↦ x | false ↦ t m n ]

-- The two owners are the same.
abbrev pub same_owner : Owner → Owner → Bool
same_owner Desk Desk = true
same_owner (Reader p) (Reader q) = p == q
same_owner _ _ = false

-- The same for the key of a kept request: its owner and its text.
abbrev pub put_kept : {A : Type 0} → (Owner → List ℕ → A) → Owner → List ℕ → A → Owner → List ℕ → A
put_kept t o k x p l = elim (same_owner o p && bytes_eq k l) [ true ↦ x | false ↦ t p l ]

-- The two things are the same.
abbrev pub same_thing : Thing → Thing → Bool
same_thing (thing.Patron p) (thing.Patron q) = p == q
same_thing (thing.Copy c) (thing.Copy d) = c == d
same_thing _ _ = false

-- The same for a thing that a barcode is of.
abbrev pub put_thing : {A : Type 0} → (Thing → A) → Thing → A → Thing → A
put_thing t o x p = elim (same_thing o p) [ true ↦ x | false ↦ t p ]
