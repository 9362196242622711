-- What an audit of a library writes, and how the program ends.
use Rattle.std.specs.Prelude.{◌≡◌, ◌⊎◌, ◌+◌, ◌-◌, ◌<◌, ℕ, Bool, true, false, List, length, nat_lt, if◌then◌else◌, Option, Some, None, MatchOption, Result, IfOk, MatchResult, OnErr}
use Rattle.std.specs.Io.KnownBytes.{Appends}
use Rattle.store.specs.Library.{Ghosts, Held, state, IsClean, IsOpen, HasTables, IsAsItWas}
use Rattle.circ_tables.specs.Encoding.{HasPicture}
use Rattle.store.specs.Lists.{AreTables, AreAuditTables}
use Rattle.store.specs.Legal.{HasLegalRows}
use Rattle.store.specs.Older.{HasNoOldRows, HasOldRows, IsFirstOldRow}
use Rattle.store.specs.declared.older.OldRow.{OldRow}
use Rattle.store.specs.Reads.{IsReadable}
use Rattle.store.specs.Stops.{KeepsPicture, LeavesPicture}
use Rattle.terms.specs.Limits.{InLimits}
use Rattle.terms.specs.Pictures.{Picture}
use Rattle.terms.specs.Writing.{AppendsFront}
use Rattle.terms.specs.Texts.{fault_number}
use Rattle.terms.specs.declared.fault.Fault.{Fault}
use Rattle.terms.specs.declared.fault.Fault.TheVariants.{Stored}
use Rattle.terms.specs.declared.tables.Tables.{Tables}
use Rattle.model.specs.History.{History}
use Rattle.model.specs.Picture.{picture}
use Rattle.model.specs.Forms.{HasForms}
use Rattle.model.specs.Requests.{IsLegal}
use Rattle.desk.specs.Answering.{Shows}
use Rattle.circ_audit.specs.Barcodes.{AreDistinct, IsFirstDoubled, AreDoubled}
use Rattle.circ_audit.specs.Findings.{AreFindings}
use Rattle.circ_audit.specs.Sound.{IsSound, IsFirstBroken}
use Rattle.circ_audit.specs.declared.auditing.Finding.{Finding}
use Rattle.circ_audit.specs.declared.auditing.Finding.TheVariants.{Reference}
use Rattle.circ_audit.specs.declared.auditing.TheConstants.{MOST_FINDINGS}
use Rattle.circ_audit.specs.declared.references.Table.TheVariants.{Barcodes}
use Rattle.circ.specs.declared.auditing.Findings.{Findings}
use Rattle.circ.specs.declared.lines.Exit.{Exit}
use Rattle.circ.specs.declared.lines.Exit.TheVariants.{Done, Refused, Faulted}
use Rattle.circ.specs.Lines.{sound_line, finding_line, old_row_line, fault_line, is_nothing, all_lines, all_exit}

-- The rows keep the five laws, and no two things have the same barcode.
pub record AreSound (rows : Tables) : Type 0 where
  pub laws : IsSound rows
  pub barcodes : AreDistinct rows.barcodes

-- The rows keep the five laws, and this is the number of the first thing with a barcode of one before it.
pub record IsDoubled (number : ℕ) (rows : Tables) : Type 0 where
  pub laws : IsSound rows
  pub doubled : IsFirstDoubled rows.barcodes number

-- A legal history leaves tables whose rows satisfy the laws that concern them.
abbrev pub LegalTablesAreSound : Type 0
LegalTablesAreSound = (H : History) (tables : Tables) → IsLegal H → HasForms H
    → AreAuditTables (picture H) tables → AreSound tables

-- The rows that the laws concern were read and satisfy `Is`, and so do all rows, of each picture within the
-- limits that the tables show.
abbrev pub Reads : {S : Type 0} → Ghosts S → Held S → Held S → (Tables → Type 0) → Tables
    → Type 0
Reads g old new Is tables =
    IsClean g new → (P : Picture) → InLimits P → HasPicture (state g old).now P
    → AreAuditTables P tables × Is tables × ((all : Tables) → AreTables P all → Is all)

-- The line says that the tables are sound: their rows keep the laws. Whatever they show, no row of the
-- thirteen tables is damaged, the tables of older schemas are empty, and nothing is changed.
pub record SaysSound {S : Type 0} (g : Ghosts S) (old new : Held S) (line : List ℕ)
    (exit : Exit) : Type 0 where
  pub tables : Tables
  pub line_is : line ≡ sound_line
  pub exit_is : exit ≡ Done
  pub legal : IsClean g new → HasLegalRows (state g old).now
  pub read : Reads g old new AreSound tables
  pub emptied : IsClean g new → HasNoOldRows (state g old).now
  pub nothing : IsClean g new → HasTables (state g old).now → IsAsItWas (state g old) (state g new)

-- The line is a finding: the first law that their rows break. No row of the thirteen tables is damaged, and
-- nothing is changed. This never happens if the tables showed a list of accepted requests.
pub record SaysUnsound {S : Type 0} (g : Ghosts S) (old new : Held S) (line : List ℕ)
    (exit : Exit) : Type 0 where
  pub tables : Tables
  pub finding : Finding
  pub line_is : line ≡ finding_line finding
  pub exit_is : exit ≡ Refused
  pub legal : IsClean g new → HasLegalRows (state g old).now
  pub read : Reads g old new (λ rows. IsFirstBroken rows finding) tables
  pub nothing : IsClean g new → HasTables (state g old).now → IsAsItWas (state g old) (state g new)
  pub never : IsClean g new → (H : History) → Shows (state g old) H → ⊥

-- The line is a thing with the barcode of another one, though the rows keep the five laws. No row of the
-- tables is damaged, and nothing is changed. This never happens if the tables showed a list of accepted
-- requests.
pub record SaysDoubled {S : Type 0} (g : Ghosts S) (old new : Held S) (line : List ℕ)
    (exit : Exit) : Type 0 where
  pub tables : Tables
  pub number : ℕ
  pub line_is : line ≡ finding_line (Reference Barcodes number)
  pub exit_is : exit ≡ Refused
  pub legal : IsClean g new → HasLegalRows (state g old).now
  pub read : Reads g old new (IsDoubled number) tables
  pub nothing : IsClean g new → HasTables (state g old).now → IsAsItWas (state g old) (state g new)
  pub never : IsClean g new → (H : History) → Shows (state g old) H → ⊥

-- The line is a row in a table of older schemas, though the rows keep the laws: the least row of the
-- first such table, of each picture within the limits that the tables show. Whatever they show, one of these
-- tables has a row, no row of the thirteen tables is damaged, and nothing is changed. This never happens if
-- the tables showed a list of accepted requests.
pub record SaysOldRow {S : Type 0} (g : Ghosts S) (old new : Held S) (line : List ℕ)
    (exit : Exit) : Type 0 where
  pub tables : Tables
  pub row : OldRow
  pub line_is : line ≡ old_row_line row
  pub exit_is : exit ≡ Refused
  pub legal : IsClean g new → HasLegalRows (state g old).now
  pub read : Reads g old new AreSound tables
  pub stands : IsClean g new → HasOldRows (state g old).now
  pub first : IsClean g new → (P : Picture) → InLimits P → HasPicture (state g old).now P → IsFirstOldRow P (Some row)
  pub nothing : IsClean g new → HasTables (state g old).now → IsAsItWas (state g old) (state g new)
  pub never : IsClean g new → (H : History) → Shows (state g old) H → ⊥

-- The line is a fault. It isn't 93 if the rows of the tables were within their limits, and so not if the
-- tables showed a list of accepted requests. Nothing is changed, whatever rows they have, if the database is
-- still open.
pub record SaysFaulted {S : Type 0} (g : Ghosts S) (old new : Held S) (line : List ℕ)
    (exit : Exit) : Type 0 where
  pub fault : Fault
  pub line_is : line ≡ fault_line (fault_number fault)
  pub exit_is : exit ≡ Faulted
  pub limits : IsClean g new → fault ≡ Stored → (P : Picture) → HasPicture (state g old).now P
      → IsReadable P → ⊥
  pub sound : IsClean g new → fault ≡ Stored → (H : History) → Shows (state g old) H → ⊥
  pub nothing : IsClean g new → IsOpen g new → HasTables (state g old).now
      → IsAsItWas (state g old) (state g new)

-- The line says that the tables are sound, or is a finding, a doubled barcode, a row in a table of older
-- schemas, or a fault.
abbrev pub SaysOf : {S : Type 0} → Ghosts S → Held S → Held S → List ℕ → Exit → Type 0
SaysOf g old new line exit =
    SaysSound g old new line exit
    ⊎ (SaysUnsound g old new line exit ⊎ (SaysDoubled g old new line exit
    ⊎ (SaysOldRow g old new line exit ⊎ SaysFaulted g old new line exit)))

-- A library was audited, and a line was written.
pub record SaysAudit {S E : Type 0} (g : Ghosts S) (old new : Held S)
    (before after : Option (List ℕ)) (result : Result Exit E) : Type 0 where
  pub clean : IsClean g new → IsClean g old
  -- the line went out
  pub written : IfOk result
      (λ exit. (line : List ℕ) × SaysOf g old new line exit × Appends before after line)
  -- a stop leaves what was there
  pub left : IsClean g new → (P : Picture) → KeepsPicture (state g old) P
      → LeavesPicture (state g new) P
  -- if a write failed, a beginning of the line went out
  pub cut : OnErr result
      ((line : List ℕ) × (exit : Exit) × SaysOf g old new line exit
      × AppendsFront before after line)

-- ---- an audit that goes on to its end

-- All numbers for which the rows break a law, and all things with the barcode of one before them: of both the first
-- ones, as many as may be told.
pub record AreAllFindings (broken : List Finding) (doubled : List ℕ) (rows : Tables) : Type 0 where
  pub laws : AreFindings rows broken
  pub barcodes : AreDoubled rows.barcodes (MOST_FINDINGS - length broken) doubled

-- There is room for one line more.
abbrev pub HasRoom : Findings → Type 0
HasRoom found = length found.broken.items + length found.doubled.items < MOST_FINDINGS

-- A row in a table of older schemas is told, if there is room for it.
abbrev pub told_row : ℕ → Option OldRow → Option OldRow
told_row lines old = if nat_lt lines MOST_FINDINGS then old else None

-- This was found: all findings of the rows that the laws concern, and the first row in a table of older schemas. No row
-- of the thirteen tables is damaged, and nothing is changed. Nothing is found if the tables showed a list of accepted
-- requests.
pub record FindsAll {S : Type 0} (g : Ghosts S) (old new : Held S) (found : Findings) : Type 0 where
  pub tables : Tables
  pub legal : IsClean g new → HasLegalRows (state g old).now
  pub read : Reads g old new (AreAllFindings found.broken.items found.doubled.items) tables
  -- whether there is such a row, whatever the tables show, and which, if they show a picture
  pub stands : HasRoom found → IsClean g new
      → MatchOption found.old (HasNoOldRows (state g old).now) (λ row. HasOldRows (state g old).now)
  pub first : HasRoom found → IsClean g new → (P : Picture) → InLimits P → HasPicture (state g old).now P
      → IsFirstOldRow P found.old
  pub nothing : IsClean g new → HasTables (state g old).now → IsAsItWas (state g old) (state g new)
  pub never : IsClean g new → (H : History) → Shows (state g old) H
      → is_nothing found.broken.items found.doubled.items found.old ≡ true

-- All was found, or a fault came.
pub record Searches {S : Type 0} (g : Ghosts S) (old new : Held S) (result : Result Findings Fault) : Type 0 where
  pub clean : IsClean g new → IsClean g old
  pub finds : MatchResult result (FindsAll g old new)
      (λ fault. SaysFaulted g old new (fault_line (fault_number fault)) Faulted)
  pub left : IsClean g new → (P : Picture) → KeepsPicture (state g old) P
      → LeavesPicture (state g new) P

-- The lines are all that was found, which is something.
pub record SaysAllUnsound {S : Type 0} (g : Ghosts S) (old new : Held S) (found : Findings)
    (lines : List ℕ) (exit : Exit) : Type 0 where
  pub finds : FindsAll g old new found
  pub some : is_nothing found.broken.items found.doubled.items found.old ≡ false
  pub lines_are : lines ≡ all_lines found.broken.items found.doubled.items found.old
  pub exit_is : exit ≡ Refused
  pub never : IsClean g new → (H : History) → Shows (state g old) H → ⊥

-- Where all was found, the line says that the tables are sound, as that of an audit that ends at the first finding, or
-- the lines are all findings. Else the line is a fault.
abbrev pub SaysAllOf : {S : Type 0} → Ghosts S → Held S → Held S → Option Findings → List ℕ → Exit → Type 0
SaysAllOf g old new (Some found) lines exit =
    SaysSound g old new lines exit ⊎ SaysAllUnsound g old new found lines exit
SaysAllOf g old new None lines exit = SaysFaulted g old new lines exit

-- A library was audited to the end, this was found, and its lines were written.
pub record SaysAuditAll {S E : Type 0} (g : Ghosts S) (old new : Held S) (found : Option Findings)
    (before after : Option (List ℕ)) (result : Result Exit E) : Type 0 where
  pub clean : IsClean g new → IsClean g old
  -- the lines went out
  pub written : IfOk result
      (λ exit. (lines : List ℕ) × SaysAllOf g old new found lines exit × Appends before after lines)
  -- a stop leaves what was there
  pub left : IsClean g new → (P : Picture) → KeepsPicture (state g old) P
      → LeavesPicture (state g new) P
  -- if a write failed, a beginning of the lines went out
  pub cut : OnErr result
      ((lines : List ℕ) × (exit : Exit) × SaysAllOf g old new found lines exit
      × AppendsFront before after lines)
