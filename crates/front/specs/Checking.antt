-- The check of a copies file: its bad rows, and what is wrong with each.
use Rattle.front.specs.declared.copies.TheConstants.{MOST_ROWS}
use Rattle.std.specs.Prelude.{◌≡◌, ◌≢◌, ◌⊎◌, ◌+◌, ◌<◌, ◌≤◌, ◌++◌, ℕ, false, List, [], ◌∷◌, Option, Some, None, length, codes, IsUtf8}
use Rattle.csv.specs.Machine.{next_record}
use Rattle.csv.specs.Reading.{Reached, default_config}
use Rattle.csv.specs.Records.{field_at}
use Rattle.csv.specs.declared.parser.State.{State}
use Rattle.terms.specs.Forms.{is_name}
use Rattle.front.specs.Copies.{Fields, IsRow, IsNoRow, IsFileOf, header_fields, records_in}
use Rattle.front.specs.CopyReading.{HasNumber}
use Rattle.front.specs.declared.copies.FileRow.{FileRow}
use Rattle.front.specs.declared.copies.CopyEnd.{CopyEnd}
use Rattle.front.specs.declared.copies.CopyEnd.TheVariants as copies
use Rattle.front.specs.declared.copies.CopyEnd.TheVariants.{Bad}
use Rattle.front.specs.declared.checking.RowFlaw.{RowFlaw}
use Rattle.front.specs.declared.checking.RowFlaw.TheVariants.{Header, TooMany, Separator, Count, Unclosed, Closing, NotUtf8, NotNumber, Text}
use Rattle.front.specs.declared.checking.BadRow.{BadRow}
use Rattle.front.specs.declared.checking.CheckEnd.{CheckEnd}
use Rattle.front.specs.declared.checking.CheckEnd.TheVariants.{Whole, Read, Memory}
use Rattle.front.specs.declared.checking.CopyCheck.{CopyCheck}

-- There is a number in each place of a number.
pub record HaveNumbers (fields : Fields) : Type 0 where
  pub copy : (n : ℕ) × HasNumber fields 0 n
  pub title : (n : ℕ) × HasNumber fields 1 n
  pub kind : (n : ℕ) × HasNumber fields 3 n
  pub home : (n : ℕ) × HasNumber fields 4 n
  pub price : (n : ℕ) × HasNumber fields 5 n

-- The fields have this flaw: they are one or not seven; the last isn't `end`; one is no text in UTF-8, or no
-- number; or the text, of so many bytes, is that of no title.
abbrev pub IsFlawIn : Fields → RowFlaw → Type 0
IsFlawIn fields Header = ⊥
IsFlawIn fields TooMany = ⊥
IsFlawIn fields Separator = length fields ≡ 1
IsFlawIn fields (Count n) = (length fields ≡ n) × (n ≢ 7)
IsFlawIn fields (Unclosed n) = (length fields ≡ n) × (n ≢ 7)
IsFlawIn fields Closing = field_at fields 6 ≢ Some (codes "end")
IsFlawIn fields (NotUtf8 place) = (text : List ℕ) → IsUtf8 text → field_at fields place ≢ Some text
IsFlawIn fields (NotNumber place) = (n : ℕ) → HasNumber fields place n → ⊥
IsFlawIn fields (Text n) = (text : List ℕ) × (field_at fields 2 ≡ Some text) × (length text ≡ n) × (is_name text ≡ false)

-- The record after `before` others has this flaw.
abbrev pub IsFlaw : ℕ → Fields → RowFlaw → Type 0
IsFlaw before fields flaw = IsFlawIn fields flaw ⊎ ((flaw ≡ TooMany) × (MOST_ROWS ≤ before))

-- The record after the header and `before` others is a row.
abbrev pub IsGood : ℕ → Fields → Type 0
IsGood before fields = ((row : FileRow) × IsRow fields row) × (before < MOST_ROWS)

-- It is no row, or one too many.
abbrev pub IsBad : ℕ → Fields → Type 0
IsBad before fields = IsNoRow fields ⊎ (MOST_ROWS ≤ before)

-- It is this bad row.
pub record IsBadRow (before : ℕ) (fields : Fields) (row : BadRow) : Type 0 where
  pub bad : IsBad before fields
  pub number : row.number ≡ before + 1
  pub flaw : IsFlaw before fields row.flaw

-- The bad ones among the records after the header and `before` others are these, in order; all others are rows.
abbrev pub HaveBadRows : ℕ → List Fields → List BadRow → Type 0
HaveBadRows before [] [] = Unit {0}
HaveBadRows before [] (row ∷ bad) = ⊥
HaveBadRows before (fields ∷ others) [] = IsGood before fields × HaveBadRows (before + 1) others []
HaveBadRows before (fields ∷ others) (row ∷ bad) =
    (IsGood before fields × HaveBadRows (before + 1) others (row ∷ bad))
    ⊎ (IsBadRow before fields row × HaveBadRows (before + 1) others bad)

-- These are the bad ones among the records after the header, and so many are good.
pub record AreChecked (others : List Fields) (bad : List BadRow) (good : ℕ) : Type 0 where
  pub rows : HaveBadRows 0 others bad
  pub many : good + length bad ≡ length others

-- The first record is the header, or has a flaw.
abbrev pub HasHeader : Fields → Option RowFlaw → Type 0
HasHeader first None = first ≡ header_fields
HasHeader first (Some flaw) = first ≢ header_fields

-- The check says this of the records of a file.
abbrev pub IsCheckOf : List Fields → CopyCheck → Type 0
IsCheckOf [] check = (check.header ≡ Some Header) × (check.bad.items ≡ []) × (check.good ≡ 0)
IsCheckOf (first ∷ others) check = HasHeader first check.header × AreChecked others check.bad.items check.good

-- The check broke off before the first record, or after some, of which it says this.
abbrev pub IsCheckOfSome : List Fields → CopyCheck → Type 0
IsCheckOfSome all check =
    ((check.header ≡ None) × (check.bad.items ≡ []) × (check.good ≡ 0))
    ⊎ ((first : Fields) × (others : List Fields) × (more : List Fields)
    × (all ≡ first ∷ (others ++ more)) × IsCheckOf (first ∷ others) check)

-- What the check says of a file's records: of all, or, if it broke off, of the first ones.
abbrev pub TellsBad : List Fields → CopyCheck → CheckEnd → Type 0
TellsBad all check Whole = IsCheckOf all check
TellsBad all check Read = IsCheckOfSome all check
TellsBad all check Memory = IsCheckOfSome all check

-- The same for a reader's bytes, if known.
abbrev pub IsChecking : Option (List ℕ) → CopyCheck → Type 0
IsChecking None check = Unit {0}
IsChecking (Some bytes) check = TellsBad (records_in bytes) check check.end

-- How a reading ends after which the check says this: at the first bad row.
abbrev pub end_after : Option RowFlaw → List BadRow → CopyEnd
end_after (Some flaw) bad = Bad 0
end_after None [] = copies.Whole
end_after None (row ∷ bad) = Bad row.number

-- A reading and a check of the same records agree.
abbrev pub ChecksAgree : Type 0
ChecksAgree =
    (all : List Fields) (rows : List FileRow) (end : CopyEnd) (check : CopyCheck) → IsFileOf all rows end → IsCheckOf all check
    → end ≡ end_after check.header check.bad.items

-- ---- how the check goes from record to record

-- A record after the header and those that are counted was counted too, and listed if it is bad.
abbrev pub Counts : Fields → ℕ → List BadRow → ℕ → List BadRow → Type 0
Counts fields good bad now new =
    ((now ≡ good + 1) × (new ≡ bad) × IsGood (good + length bad) fields)
    ⊎ ((row : BadRow) × (now ≡ good) × (new ≡ bad ++ row ∷ []) × IsBadRow (good + length bad) fields row)

-- The records between two states of a reader, if its bytes are known, have exactly these bad ones.
abbrev pub HasChecked : State → Option (List ℕ) → State → Option (List ℕ) → List BadRow → ℕ → Type 0
HasChecked state None after left bad good = Unit {0}
HasChecked state (Some bytes) after left bad good =
    (unread : List ℕ) × (left ≡ Some unread) × (others : List Fields) × Reached default_config state bytes others after unread
    × AreChecked others bad good

-- The records read from a state of the reader and its bytes, all of them for a whole file, have these bad ones.
abbrev pub IsRestChecking : State → Option (List ℕ) → List BadRow → ℕ → CheckEnd → Type 0
IsRestChecking state None bad good end = Unit {0}
IsRestChecking state (Some bytes) bad good end =
    (others : List Fields) × (after : State) × (left : List ℕ) × Reached default_config state bytes others after left
    × (end ≡ Whole → next_record default_config after [] [] left ≡ None) × AreChecked others bad good
