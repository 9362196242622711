-- Lists, told row by row.
use Rattle.std.specs.Prelude.{◌≡◌, ◌==◌, ◌⊎◌, ◌<◌, ◌≤◌, ◌+◌, ◌^◌, ℕ, nat_lt, true, false, List, [], ◌∷◌, ◌++◌, map, take, length, codes, decimal}
use Rattle.std.specs.Prelude.{slice_get, ◌-◌, Option, Some, None, option_map, String, string_bytes, Result, IfOk, IfErr}
use Rattle.std.specs.List.{list_any, Contains}
use Rattle.terms.specs.Orders.{Rise}
use Rattle.circ_tables.specs.declared.by_number.TheConstants.{BATCH_ROWS}
use Rattle.model.specs.Asking.{Listing, above, last_of}
use Rattle.model.specs.AskingLaws.{AreRising, has_number}
use Rattle.model.specs.Pages.{spaced}
use Rattle.model.specs.Reports.{report_lines}
use Rattle.desk.specs.declared.listing.Told.{Told}
use Rattle.desk.specs.declared.report_fault.ReportFault.{ReportFault}
use Rattle.desk.specs.Parts.{IsFront}
use Rattle.desk.specs.declared.report_fault.ReportFault.TheVariants.{NotWritten}
use Rattle.std.specs.Io.KnownBytes.{Appends}
use Rattle.terms.specs.Writing.{AppendsFront}

-- ---- what is read of a list

-- A batch of rows above a number, including all of the list's there, or, if the batch is full, its first
-- ones. It may include other rows.
pub record HasBatch {R : Type 0} (number_of : R → ℕ) (Is : R → Type 0) (x : Listing) (at : ℕ) (rows : List R) : Type 0 where
  pub sound : (r : R) → Contains rows r → Is r × (at < number_of r)
  pub whole : (n : ℕ) → has_number x.numbers n → at < n
      → has_number (map number_of rows) n ⊎ ((length rows ≡ BATCH_ROWS) × ((r : R) → Contains rows r → number_of r < n))
  pub rise : Rise number_of rows
  pub few : length rows ≤ BATCH_ROWS
  -- the numbers of the list rise
  pub rising : AreRising x.numbers

-- The text for a row with this number: the list's row, or none if the list has no such row.
abbrev pub IsRowText : {Z : Type 0} → Listing → ℕ → Option (String Z) → Type 0
IsRowText x n (Some text) = has_number x.numbers n × (string_bytes text ≡ x.row n)
IsRowText x n None = list_any (λ m. m == n) x.numbers ≡ false

-- ---- what was told

-- One more row was told, or if as many as wanted were, that there are more. `sent` is what was added.
pub record IsAdded (most n : ℕ) (row : List ℕ) (old new : Told) (sent : List ℕ) : Type 0 where
  pub lines : sent ≡ elim (nat_lt old.rows most) [ true ↦ row ++ 10 ∷ [] | false ↦ [] ]
  pub rows : new.rows ≡ elim (nat_lt old.rows most) [ true ↦ old.rows + 1 | false ↦ old.rows ]
  pub last : new.last ≡ elim (nat_lt old.rows most) [ true ↦ n | false ↦ old.last ]
  pub more : new.more ≡ elim (nat_lt old.rows most) [ true ↦ old.more | false ↦ true ]

-- A row was told, or a beginning of its line.
pub record PutsRow (most n : ℕ) (row : List ℕ) (old : Told) (before after : Option (List ℕ)) (result : Result Told ReportFault) : Type 0 where
  pub added : IfOk result (λ new. (sent : List ℕ) × Appends before after sent × IsAdded most n row old new sent)
  pub cut : IfErr result (λ why. (old.rows < most) × (why ≡ NotWritten) × AppendsFront before after (row ++ 10 ∷ []))

-- The row with this number was told, or the list has none.
abbrev pub IsTold : Listing → ℕ → ℕ → Told → Told → List ℕ → Type 0
IsTold x most n old new sent = (has_number x.numbers n × IsAdded most n (x.row n) old new sent)
    ⊎ ((list_any (λ m. m == n) x.numbers ≡ false) × (new ≡ old) × (sent ≡ []))

-- Nothing was told of it, or a beginning of the list's row.
abbrev pub IsRowCut : Listing → ℕ → ℕ → Told → List ℕ → Type 0
IsRowCut x most n old sent = (sent ≡ []) ⊎ (has_number x.numbers n × (old.rows < most) × IsFront sent (x.row n ++ 10 ∷ []))

-- These numbers were told: as many as wanted by their rows, the rest by saying that there are more.
pub record HasTold (x : Listing) (most : ℕ) (numbers : List ℕ) (told : Told) (sent : List ℕ) : Type 0 where
  pub lines : sent ≡ report_lines (map x.row (take most numbers))
  pub rows : told.rows ≡ length (take most numbers)
  pub last : told.last ≡ last_of 0 (take most numbers)
  pub more : told.more ≡ nat_lt most (length numbers)

-- Of the numbers above `after`, those up to `at` were told.
pub record IsSoFar (x : Listing) (most after at : ℕ) (told : Told) (sent : List ℕ) : Type 0 where
  pub front : List ℕ
  pub split : above after x.numbers ≡ front ++ above at x.numbers
  pub is : HasTold x most front told sent

-- Whatever was told before, these rows were told after it.
abbrev pub GoesOn : Listing → ℕ → ℕ → ℕ → Told → Told → List ℕ → Type 0
GoesOn x most at to old new sent = (before : List ℕ) (after : ℕ) → IsSoFar x most after at old before → IsSoFar x most after to new (before ++ sent)

-- The lines that are wanted of a list above a number.
abbrev pub lines_of : Listing → ℕ → ℕ → List ℕ
lines_of x most after = report_lines (map x.row (take most (above after x.numbers)))

-- Whatever was told before, with these bytes it is a beginning of what is wanted.
abbrev pub IsCut : Listing → ℕ → ℕ → Told → List ℕ → Type 0
IsCut x most at old sent = (before : List ℕ) (after : ℕ) → IsSoFar x most after at old before → IsFront (before ++ sent) (lines_of x most after)

-- The end of an answer.
abbrev pub end_words : Told → List ℕ
end_words told = elim told.more [ true ↦ spaced (codes "after" ∷ decimal told.last ∷ []) | false ↦ codes "end" ]

-- The number after which to read on; none once a batch isn't full, or there are more rows than are wanted.
abbrev pub IsNext : {R : Type 0} → (R → ℕ) → List R → Told → Option ℕ → Type 0
IsNext number_of rows told None = (length rows < BATCH_ROWS) ⊎ (told.more ≡ true)
IsNext number_of rows told (Some last) = option_map number_of (slice_get rows (length rows - 1)) ≡ Some last

-- The numbers of the list begin at 1, and a report can count its rows.
abbrev pub IsCounted : Listing → Type 0
IsCounted x = (above 0 x.numbers ≡ x.numbers) × (length x.numbers ≤ 2 ^ 32 - 1)

-- The report of a list: its head, all its rows, and their number.
abbrev pub report_of : Listing → (ℕ → List ℕ) → List ℕ
report_of x count_words = report_lines (x.head ++ map x.row x.numbers ++ count_words (length x.numbers) ∷ [])
