-- Every row that another row names exists.
use Rattle.std.specs.Prelude.{◌≡◌, ℕ, true, List, Some, is_some}
use Rattle.terms.specs.declared.command.Owner.{Owner}
use Rattle.terms.specs.declared.command.Owner.TheVariants.{Patron as Reader}
use Rattle.terms.specs.declared.row.RuleRow.{RuleRow}
use Rattle.terms.specs.declared.row.PatronRow.{PatronRow}
use Rattle.terms.specs.declared.row.CopyRow.{CopyRow}
use Rattle.terms.specs.declared.row.LoanRow.{LoanRow}
use Rattle.terms.specs.declared.row.HoldRow.{HoldRow}
use Rattle.terms.specs.declared.row.TransitRow.{TransitRow}
use Rattle.terms.specs.declared.row.LineRow.{LineRow}
use Rattle.terms.specs.declared.row.KeptRow.{KeptRow}
use Rattle.terms.specs.declared.row.Thing.{Thing}
use Rattle.terms.specs.declared.row.Thing.TheVariants as thing
use Rattle.terms.specs.declared.row.BarcodeRow.{BarcodeRow}
use Rattle.terms.specs.declared.row.NoteRow.{NoteRow}
use Rattle.model.specs.History.{History}
use Rattle.model.specs.Picture.{Picture, picture}
use Rattle.model.specs.Requests.{IsLegal}

-- The patron or the copy has a row.
abbrev pub HasThing : Picture → Thing → Type 0
HasThing T (thing.Patron p) = is_some (T.patrons p) ≡ true
HasThing T (thing.Copy c) = is_some (T.copies c) ≡ true

-- Each column that names a row of another table names an existing one.
pub record HasReferences (T : Picture) : Type 0 where
  -- The branch of a single closed day exists.
  pub closed_day_branch : (b d : ℕ) → T.closed_days b d ≡ true → is_some (T.branches b) ≡ true
  -- The patron kind of a rule exists.
  pub rule_kind : (k c : ℕ) (r : RuleRow) → T.rules k c ≡ Some r → is_some (T.kinds r.kind) ≡ true
  -- The kind of a patron exists.
  pub patron_kind : (p : ℕ) (r : PatronRow) → T.patrons p ≡ Some r → is_some (T.kinds r.kind) ≡ true
  -- The title of a copy exists.
  pub copy_title : (c : ℕ) (r : CopyRow) → T.copies c ≡ Some r → is_some (T.titles r.title) ≡ true
  -- The home branch of a copy exists.
  pub copy_home : (c : ℕ) (r : CopyRow) → T.copies c ≡ Some r → is_some (T.branches r.home) ≡ true
  -- The copy of a loan exists.
  pub loan_copy : (l : ℕ) (r : LoanRow) → T.loans l ≡ Some r → is_some (T.copies r.copy) ≡ true
  -- The patron of a loan exists.
  pub loan_patron : (l : ℕ) (r : LoanRow) → T.loans l ≡ Some r → is_some (T.patrons r.patron) ≡ true
  -- The lending branch of a loan exists.
  pub loan_branch : (l : ℕ) (r : LoanRow) → T.loans l ≡ Some r
      → is_some (T.branches r.branch) ≡ true
  -- The patron of a hold exists.
  pub hold_patron : (h : ℕ) (r : HoldRow) → T.holds h ≡ Some r → is_some (T.patrons r.patron) ≡ true
  -- The title of a hold exists.
  pub hold_title : (h : ℕ) (r : HoldRow) → T.holds h ≡ Some r → is_some (T.titles r.title) ≡ true
  -- The pick-up branch of a hold exists.
  pub hold_branch : (h : ℕ) (r : HoldRow) → T.holds h ≡ Some r
      → is_some (T.branches r.branch) ≡ true
  -- The copy that a hold's row names, if any, exists.
  pub hold_copy : (h c : ℕ) (r : HoldRow) → T.holds h ≡ Some r → r.copy ≡ Some c
      → is_some (T.copies c) ≡ true
  -- The copy of a transit exists.
  pub transit_copy : (c : ℕ) (r : TransitRow) → T.transits c ≡ Some r
      → is_some (T.copies r.copy) ≡ true
  -- The goal branch of a transit exists.
  pub transit_goal : (c : ℕ) (r : TransitRow) → T.transits c ≡ Some r
      → is_some (T.branches r.goal) ≡ true
  -- The hold of a transit, if it is for one, exists.
  pub transit_hold : (c h : ℕ) (r : TransitRow) → T.transits c ≡ Some r → r.hold ≡ Some h
      → is_some (T.holds h) ≡ true
  -- The patron of a line exists.
  pub line_patron : (n : ℕ) (r : LineRow) → T.lines n ≡ Some r → is_some (T.patrons r.patron) ≡ true
  -- The loan of a line, if it is for one, exists.
  pub line_loan : (n l : ℕ) (r : LineRow) → T.lines n ≡ Some r → r.loan ≡ Some l
      → is_some (T.loans l) ≡ true
  -- The patron who sent a kept request, unless the desk did, exists.
  pub kept_caller : (o : Owner) (key : List ℕ) (p : ℕ) (r : KeptRow) → T.kept o key ≡ Some r
      → r.caller ≡ Reader p → is_some (T.patrons p) ≡ true
  -- What a barcode is of exists.
  pub barcode_thing : (t : Thing) (r : BarcodeRow) → T.barcodes t ≡ Some r → HasThing T r.thing
  -- The line of a note exists.
  pub note_line : (n : ℕ) (r : NoteRow) → T.notes n ≡ Some r → is_some (T.lines r.line) ≡ true
  -- The branch of a note exists.
  pub note_branch : (n : ℕ) (r : NoteRow) → T.notes n ≡ Some r → is_some (T.branches r.branch) ≡ true

-- Every row that a legal history leaves names existing rows.
abbrev pub References : Type 0
References = (H : History) → IsLegal H → HasReferences (picture H)
