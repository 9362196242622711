-- Which rows the rows of a table name, and whether these exist.
use Rattle.std.specs.Prelude.{◌≡◌, ◌==◌, ◌&&◌, ℕ, Bool, true, List, All, find, is_some, Option, Some, None}
use Rattle.terms.specs.declared.command.Owner.{Owner}
use Rattle.terms.specs.declared.command.Owner.TheVariants as owner
use Rattle.terms.specs.declared.row.BarcodeRow.{BarcodeRow}
use Rattle.terms.specs.declared.row.ClosedDayRow.{ClosedDayRow}
use Rattle.terms.specs.declared.row.CopyRow.{CopyRow}
use Rattle.terms.specs.declared.row.HoldRow.{HoldRow}
use Rattle.terms.specs.declared.row.KeptRow.{KeptRow}
use Rattle.terms.specs.declared.row.LineRow.{LineRow}
use Rattle.terms.specs.declared.row.LoanRow.{LoanRow}
use Rattle.terms.specs.declared.row.NoteRow.{NoteRow}
use Rattle.terms.specs.declared.row.PatronRow.{PatronRow}
use Rattle.terms.specs.declared.row.RuleRow.{RuleRow}
use Rattle.terms.specs.declared.row.Thing.{Thing}
use Rattle.terms.specs.declared.row.Thing.TheVariants as thing
use Rattle.terms.specs.declared.row.TransitRow.{TransitRow}
use Rattle.terms.specs.declared.tables.Tables.{Tables}
use Rattle.terms.specs.Callers.{owner_number}
use Rattle.terms.specs.Things.{thing_number}
use Rattle.circ_audit.specs.declared.references.Table.{Table}
use Rattle.circ_audit.specs.declared.references.Table.TheVariants.{ClosedDays, Rules, Patrons, Copies, Loans, Holds, Transits, Lines, Kept, Barcodes, Notes}

-- A row has the number.
abbrev pub has : {R : Type 0} → (R → ℕ) → List R → ℕ → Bool
has number_of rows n = is_some (find (λ r. number_of r == n) rows)

-- The same if a number is named.
abbrev pub has_named : {R : Type 0} → (R → ℕ) → List R → Option ℕ → Bool
has_named number_of rows (Some n) = has number_of rows n
has_named number_of rows None = true

-- ---- what is there

abbrev pub has_branch : Tables → ℕ → Bool
has_branch t = has (λ r. r.branch) t.branches

abbrev pub has_kind : Tables → ℕ → Bool
has_kind t = has (λ r. r.kind) t.kinds

abbrev pub has_patron : Tables → ℕ → Bool
has_patron t = has (λ r. r.patron) t.patrons

abbrev pub has_title : Tables → ℕ → Bool
has_title t = has (λ r. r.title) t.titles

abbrev pub has_copy : Tables → ℕ → Bool
has_copy t = has (λ r. r.copy) t.copies

-- The patron or the copy has a row.
abbrev pub has_thing : Tables → Thing → Bool
has_thing t (thing.Patron patron) = has_patron t patron
has_thing t (thing.Copy copy) = has_copy t copy

-- The caller is the desk, or a patron with a row.
abbrev pub has_caller : Tables → Owner → Bool
has_caller t owner.Desk = true
has_caller t (owner.Patron patron) = has_patron t patron

-- ---- what a row names exists

abbrev pub closed_day_refers : Tables → ClosedDayRow → Bool
closed_day_refers t r = has_branch t r.branch

abbrev pub rule_refers : Tables → RuleRow → Bool
rule_refers t r = has_kind t r.kind

abbrev pub patron_refers : Tables → PatronRow → Bool
patron_refers t r = has_kind t r.kind

abbrev pub copy_refers : Tables → CopyRow → Bool
copy_refers t r = has_title t r.title && has_branch t r.home

abbrev pub loan_refers : Tables → LoanRow → Bool
loan_refers t r = has_copy t r.copy && (has_patron t r.patron && has_branch t r.branch)

abbrev pub hold_refers : Tables → HoldRow → Bool
hold_refers t r =
    has_patron t r.patron && (has_title t r.title && (has_branch t r.branch && has_named (λ q. q.copy) t.copies r.copy))

abbrev pub transit_refers : Tables → TransitRow → Bool
transit_refers t r = has_copy t r.copy && (has_branch t r.goal && has_named (λ q. q.hold) t.holds r.hold)

abbrev pub line_refers : Tables → LineRow → Bool
line_refers t r = has_patron t r.patron && has_named (λ q. q.loan) t.loans r.loan

abbrev pub kept_refers : Tables → KeptRow → Bool
kept_refers t r = has_caller t r.caller

abbrev pub barcode_refers : Tables → BarcodeRow → Bool
barcode_refers t r = has_thing t r.thing

abbrev pub note_refers : Tables → NoteRow → Bool
note_refers t r = has (λ q. q.line) t.lines r.line && has_branch t r.branch

-- ---- the law

-- Each row with this last number of its key passes.
abbrev pub ArePassed : {R : Type 0} → (R → ℕ) → (R → Bool) → List R → ℕ → Type 0
ArePassed last_of passes rows n = All (λ r. last_of r ≡ n → passes r ≡ true) rows

-- Each row of the table whose key has this last number names existing rows alone.
abbrev pub IsReferred : Tables → Table → ℕ → Type 0
IsReferred t ClosedDays = ArePassed (λ r. r.day) (closed_day_refers t) t.closed_days
IsReferred t Rules = ArePassed (λ r. r.copy_kind) (rule_refers t) t.rules
IsReferred t Patrons = ArePassed (λ r. r.patron) (patron_refers t) t.patrons
IsReferred t Copies = ArePassed (λ r. r.copy) (copy_refers t) t.copies
IsReferred t Loans = ArePassed (λ r. r.loan) (loan_refers t) t.loans
IsReferred t Holds = ArePassed (λ r. r.hold) (hold_refers t) t.holds
IsReferred t Transits = ArePassed (λ r. r.copy) (transit_refers t) t.transits
IsReferred t Lines = ArePassed (λ r. r.line) (line_refers t) t.lines
IsReferred t Kept = ArePassed (λ r. owner_number r.caller) (kept_refers t) t.kept
IsReferred t Barcodes = ArePassed (λ r. thing_number r.thing) (barcode_refers t) t.barcodes
IsReferred t Notes = ArePassed (λ r. r.line) (note_refers t) t.notes

-- The place of a table in the order of the audit.
abbrev pub place_of_table : Table → ℕ
place_of_table ClosedDays = 0
place_of_table Rules = 1
place_of_table Patrons = 2
place_of_table Copies = 3
place_of_table Loans = 4
place_of_table Holds = 5
place_of_table Transits = 6
place_of_table Lines = 7
place_of_table Kept = 8
place_of_table Barcodes = 9
place_of_table Notes = 10
