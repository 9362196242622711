-- Copies files: their rows, and how they end.
use Rattle.front.specs.declared.copies.TheConstants.{MOST_ROWS}
use Rattle.std.specs.Prelude.{◌≡◌, ◌≢◌, ◌⊎◌, ◌+◌, ◌<◌, ◌≤◌, ℕ, List, [], ◌∷◌, Option, Some, None, codes}
use Rattle.std.specs.Fmt.{decimal}
use Rattle.csv.specs.Reading.{default_config, records, strip_bom}
use Rattle.terms.specs.declared.command.Command.{Command}
use Rattle.terms.specs.declared.command.Command.TheVariants.{Acquire}
use Rattle.terms.specs.Commands.{IsSayable}
use Rattle.front.specs.declared.copies.FileRow.{FileRow}
use Rattle.front.specs.declared.copies.CopyEnd.{CopyEnd}
use Rattle.front.specs.declared.copies.CopyEnd.TheVariants.{Whole, Bad, Read, Memory}

-- The fields of a record.
abbrev pub Fields : Type 0
Fields = List (List ℕ)

-- The records of a file: comma-separated, with double quotes, of any length, after a byte order mark if any.
abbrev pub records_in : List ℕ → List Fields
records_in bytes = records default_config (strip_bom bytes)

-- The fields of the first record.
abbrev pub header_fields : Fields
header_fields =
    codes "copy" ∷ codes "title" ∷ codes "text" ∷ codes "kind" ∷ codes "home" ∷ codes "price" ∷ codes "end" ∷ []

-- The fields of a row: its numbers in decimal, its text, and the closing word.
abbrev pub row_fields : FileRow → Fields
row_fields row =
    decimal row.copy ∷ decimal row.title ∷ row.text ∷ decimal row.kind ∷ decimal row.home ∷ decimal row.price ∷ codes "end" ∷ []

-- The command of a row.
abbrev pub command_of : FileRow → Command
command_of row = Acquire row.copy row.title row.kind row.home row.price row.text

-- The fields are this row's, each in its form.
abbrev pub IsRow : Fields → FileRow → Type 0
IsRow fields row = IsSayable (command_of row) × (fields ≡ row_fields row)

-- The fields are those of no row.
pub record IsNoRow (fields : Fields) : Type 0 where
  pub none : (row : FileRow) → IsRow fields row → ⊥

-- The records after the header and `before` rows have these rows, and then end so: with the last record, or
-- with the first that is no row or is one too many, identified by its number.
abbrev pub HaveRows : ℕ → List Fields → List FileRow → CopyEnd → Type 0
HaveRows before [] [] end = end ≡ Whole
HaveRows before [] (row ∷ rows) end = ⊥
HaveRows before (fields ∷ others) [] end = (IsNoRow fields ⊎ (MOST_ROWS ≤ before)) × (end ≡ Bad (before + 1))
HaveRows before (fields ∷ others) (row ∷ rows) end = IsRow fields row × (before < MOST_ROWS) × HaveRows (before + 1) others rows end

-- The records of a file have these rows and this end, which is `Bad 0` if the first isn't the header.
abbrev pub IsFileOf : List Fields → List FileRow → CopyEnd → Type 0
IsFileOf [] rows end = (rows ≡ []) × (end ≡ Bad 0)
IsFileOf (header ∷ others) rows end =
    ((header ≢ header_fields) × (rows ≡ []) × (end ≡ Bad 0)) ⊎ ((header ≡ header_fields) × HaveRows 0 others rows end)

-- The first records after the header are these rows.
abbrev pub BeginWith : List Fields → List FileRow → Type 0
BeginWith others [] = Unit {0}
BeginWith [] (row ∷ rows) = ⊥
BeginWith (fields ∷ others) (row ∷ rows) = IsRow fields row × BeginWith others rows

-- The records of a file begin with these rows, after a header if there are any.
abbrev pub FileBeginsWith : List Fields → List FileRow → Type 0
FileBeginsWith all [] = Unit {0}
FileBeginsWith [] (row ∷ rows) = ⊥
FileBeginsWith (header ∷ others) (row ∷ rows) = (header ≡ header_fields) × BeginWith others (row ∷ rows)

-- What a reading says of a file's records: its rows and its end, or, if it broke off, its first rows.
abbrev pub Tells : List Fields → List FileRow → CopyEnd → Type 0
Tells all rows Whole = IsFileOf all rows Whole
Tells all rows (Bad number) = IsFileOf all rows (Bad number)
Tells all rows Read = FileBeginsWith all rows
Tells all rows Memory = FileBeginsWith all rows

-- The same for a reader's bytes, if known.
abbrev pub IsReading : Option (List ℕ) → List FileRow → CopyEnd → Type 0
IsReading None rows end = Unit {0}
IsReading (Some bytes) rows end = Tells (records_in bytes) rows end

-- A file has only one list of rows and one end.
abbrev pub FilesReadOnce : Type 0
FilesReadOnce =
    (all : List Fields) (rows rows_too : List FileRow) (end end_too : CopyEnd) → IsFileOf all rows end → IsFileOf all rows_too end_too
    → (rows ≡ rows_too) × (end ≡ end_too)
