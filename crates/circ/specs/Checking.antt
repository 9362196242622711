-- What checking a copies file writes: a line for each bad row, how the check ended, and how many rows are good and
-- bad.
use Rattle.std.specs.Prelude.{◌≡◌, ◌+◌, ◌==◌, ℕ, if◌then◌else◌, List, [], ◌∷◌, ◌++◌, length, flat_map, Option, Some, None, Result, codes, decimal}
use Rattle.front.specs.Checking.{IsChecking}
use Rattle.front.specs.declared.checking.BadRow.{BadRow}
use Rattle.front.specs.declared.checking.CheckEnd.{CheckEnd}
use Rattle.front.specs.declared.checking.CheckEnd.TheVariants as check
use Rattle.front.specs.declared.checking.CopyCheck.{CopyCheck}
use Rattle.front.specs.declared.checking.RowFlaw.{RowFlaw}
use Rattle.front.specs.declared.copies.CopyEnd.{CopyEnd}
use Rattle.front.specs.declared.copies.CopyEnd.TheVariants.{Whole, Read, Memory}
use Rattle.circ.specs.declared.lines.Exit.{Exit}
use Rattle.circ.specs.declared.lines.Exit.TheVariants.{Done, Faulted, NotUnderstood}
use Rattle.circ.specs.Importing.{bad_row_line, end_line}
use Rattle.circ.specs.Lines.{EndsWith}

-- The line of the header, if it is bad.
abbrev pub header_line : Option RowFlaw → List ℕ
header_line None = []
header_line (Some flaw) = bad_row_line 0

-- The lines of the bad rows.
abbrev pub bad_row_lines : List BadRow → List ℕ
bad_row_lines bad = flat_map (λ row. bad_row_line row.number) bad

-- A check ends like a reading.
abbrev pub reading_end : CheckEnd → CopyEnd
reading_end check.Whole = Whole
reading_end check.Read = Read
reading_end check.Memory = Memory

-- The number of bad rows, and the header is one of them.
abbrev pub bad_count : Option RowFlaw → List BadRow → ℕ
bad_count None bad = length bad
bad_count (Some flaw) bad = length bad + 1

-- The last line: the numbers of good and bad rows.
abbrev pub checked_line : ℕ → ℕ → List ℕ
checked_line good bad = codes "good " ++ decimal good ++ codes " bad " ++ decimal bad ++ 10 ∷ []

-- All lines of a check.
abbrev pub check_lines : Option RowFlaw → List BadRow → ℕ → CheckEnd → List ℕ
check_lines header bad good end =
    (header_line header ++ bad_row_lines bad) ++ (end_line (reading_end end) ++ checked_line good (bad_count header bad))

-- How the program ends after a check, given how many rows are bad.
abbrev pub check_exit : CheckEnd → ℕ → Exit
check_exit check.Whole bad = if bad == 0 then Done else NotUnderstood
check_exit check.Read bad = Faulted
check_exit check.Memory bad = Faulted

-- The lines of what was found went out, or a beginning of them.
abbrev pub TellsCheck : {E : Type 0} → CopyCheck → Option (List ℕ) → Option (List ℕ) → Result Exit E → Type 0
TellsCheck found before after result =
    EndsWith (check_exit found.end (bad_count found.header found.bad.items))
    (check_lines found.header found.bad.items found.good found.end) before after result

-- A copies file was checked: this was found in it, and told.
pub record Checks {E : Type 0} (bytes : Option (List ℕ)) (found : CopyCheck)
    (before after : Option (List ℕ)) (result : Result Exit E) : Type 0 where
  pub checking : IsChecking bytes found
  pub tells : TellsCheck found before after result
