-- How the reader of a copies file goes from record to record.
use Rattle.front.specs.declared.copies.TheConstants.{MOST_ROWS}
use Rattle.std.specs.Prelude.{◌≡◌, ◌⊎◌, ◌+◌, ◌<◌, ◌≤◌, ◌^◌, ◌++◌, ℕ, List, [], ◌∷◌, Option, Some, None, length}
use Rattle.std.specs.Fmt.{decimal}
use Rattle.csv.specs.Machine.{next_record}
use Rattle.csv.specs.Reading.{Reached, Ready, default_config}
use Rattle.csv.specs.Records.{field_at}
use Rattle.csv.specs.declared.parser.State.{State}
use Rattle.csv.specs.declared.reader.Reader.{Reader}
use Rattle.csv.specs.declared.reader.Trim.TheVariants as trim
use Rattle.front.specs.Copies.{Fields, IsRow, IsNoRow, HaveRows, BeginWith}
use Rattle.front.specs.declared.copies.FileRow.{FileRow}
use Rattle.front.specs.declared.copies.CopyEnd.{CopyEnd}
use Rattle.front.specs.declared.copies.CopyEnd.TheVariants.{Whole, Bad, Read, Memory}

-- The field at this place is this number.
abbrev pub HasNumber : Fields → ℕ → ℕ → Type 0
HasNumber fields place n = (n < 2 ^ 32) × (field_at fields place ≡ Some (decimal n))

-- The numbers of the row are in their places.
pub record HasNumbers (fields : Fields) (row : FileRow) : Type 0 where
  pub copy : HasNumber fields 0 row.copy
  pub title : HasNumber fields 1 row.title
  pub kind : HasNumber fields 3 row.kind
  pub home : HasNumber fields 4 row.home
  pub price : HasNumber fields 5 row.price

-- What a record makes of the rows before it: one more row, or the same rows and an end, as it is no row or
-- one too many, or memory ran out.
abbrev pub Takes : Fields → List FileRow → List FileRow → Option CopyEnd → Type 0
Takes fields old new None = (row : FileRow) × IsRow fields row × (new ≡ old ++ row ∷ []) × (length old < MOST_ROWS)
Takes fields old new (Some Whole) = ⊥
Takes fields old new (Some (Bad number)) = (new ≡ old) × (IsNoRow fields ⊎ (MOST_ROWS ≤ length old)) × (number ≡ length old + 1)
Takes fields old new (Some Read) = ⊥
Takes fields old new (Some Memory) = new ≡ old

-- The reader gives the records unchanged, and the next one next.
pub record IsPlain {R : Type 0} (file : Reader R) : Type 0 where
  pub untrimmed : file.trim ≡ trim.None
  pub ready : Ready file
  pub config : file.config ≡ default_config

-- The records between two states of a reader, if its bytes are known, are exactly these rows.
abbrev pub HasRead : State → Option (List ℕ) → State → Option (List ℕ) → List FileRow → Type 0
HasRead state None after left rows = Unit {0}
HasRead state (Some bytes) after left rows =
    (unread : List ℕ) × (left ≡ Some unread) × (others : List Fields) × Reached default_config state bytes others after unread
    × HaveRows 0 others rows Whole

-- What a reading says of the records after the header.
abbrev pub TellsRows : List Fields → List FileRow → CopyEnd → Type 0
TellsRows others rows Whole = HaveRows 0 others rows Whole
TellsRows others rows (Bad number) = HaveRows 0 others rows (Bad number)
TellsRows others rows Read = BeginWith others rows
TellsRows others rows Memory = BeginWith others rows

-- The records read from a state of the reader and its bytes, all of them for a whole file, give the rows and
-- the end.
abbrev pub IsRestReading : State → Option (List ℕ) → List FileRow → CopyEnd → Type 0
IsRestReading state None rows end = Unit {0}
IsRestReading state (Some bytes) rows end =
    (others : List Fields) × (after : State) × (left : List ℕ) × Reached default_config state bytes others after left
    × (end ≡ Whole → next_record default_config after [] [] left ≡ None) × TellsRows others rows end
