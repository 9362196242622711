-- Searches, reported row by row.
use Rattle.std.specs.Prelude.{◌≡◌, ◌⊎◌, ◌<◌, ◌≤◌, ◌+◌, ◌-◌, ◌||◌, ℕ, nat_le, Bool, true, false, List, [], ◌∷◌, ◌++◌, map, filter, length, codes, decimal}
use Rattle.std.specs.Prelude.{if◌then◌else◌, slice_get, Option, Some, None, option_map, string_bytes}
use Rattle.terms.specs.declared.limits.TheConstants.{MOST_ROWS, MOST_LOOKED_AT}
use Rattle.circ_tables.specs.declared.by_number.TheConstants.{BATCH_ROWS}
use Rattle.finding.specs.Finding.{finds}
use Rattle.model.specs.Asking.{Listing, Search, above, last_of}
use Rattle.model.specs.AskingLaws.{has_number}
use Rattle.model.specs.Pages.{spaced}
use Rattle.model.specs.Reports.{report_lines}
use Rattle.std.specs.List.{Contains}
use Rattle.desk.specs.Listing.{HasBatch}
use Rattle.desk.specs.declared.searching.Findings.{Findings}

-- The search stops: a hundred rows are shown, or 5,000 were looked at.
abbrev pub is_full : Findings → Bool
is_full seen = nat_le MOST_ROWS seen.rows || nat_le MOST_LOOKED_AT seen.looked_at

-- A batch of rows that are all of the list.
pub record HasListed {R : Type 0} (number_of : R → ℕ) (Is : R → Type 0) (x : Listing) (at : ℕ) (rows : List R) : Type 0 where
  pub batch : HasBatch number_of Is x at rows
  pub listed : (r : R) → Contains rows r → has_number x.numbers (number_of r)

-- ---- a row

-- The row with this number has this text: a query finds the row if it finds the text.
abbrev pub IsFoundBy : (List ℕ → Search) → ℕ → List ℕ → Type 0
IsFoundBy search n text = (query : List ℕ) → (search query).finds n ≡ finds query text

-- The row with this number has this line.
abbrev pub IsShownAs : (List ℕ → Search) → ℕ → List ℕ → Type 0
IsShownAs search n line = (query : List ℕ) → line ≡ (search query).all.row n

-- The row with this number was added to a text if it is found.
pub record IsShownIf (x : Search) (n : ℕ) (found : Bool) (old new : List ℕ) : Type 0 where
  pub is : found ≡ x.finds n
  pub text : new ≡ elim found [ true ↦ old ++ (x.all.row n ++ 10 ∷ []) | false ↦ old ]

-- A row was looked at, and shown if it is found.
pub record IsLookedAt (n : ℕ) (row : List ℕ) (found : Bool) (old new : Findings) : Type 0 where
  pub text : string_bytes new.text ≡ elim found [ true ↦ string_bytes old.text ++ (row ++ 10 ∷ []) | false ↦ string_bytes old.text ]
  pub rows : new.rows ≡ old.rows + (if found then 1 else 0)
  pub looked_at : new.looked_at ≡ old.looked_at + 1
  pub last : new.last ≡ n
  pub more : new.more ≡ old.more

-- It was only noted that there are more.
pub record IsNoted (old new : Findings) : Type 0 where
  pub text : string_bytes new.text ≡ string_bytes old.text
  pub rows : new.rows ≡ old.rows
  pub looked_at : new.looked_at ≡ old.looked_at
  pub last : new.last ≡ old.last
  pub more : new.more ≡ true

-- The row with this number was taken, as the search goes on or stops.
abbrev pub IsTaken : Search → ℕ → Findings → Findings → Type 0
IsTaken x n old new = ((is_full old ≡ true) × IsNoted old new)
    ⊎ ((is_full old ≡ false) × IsLookedAt n (x.all.row n) (x.finds n) old new)

-- ---- what was looked at

-- These rows were looked at, and those found are shown. The hundredth shown is the last one looked at.
pub record HasSeen (x : Search) (start : List ℕ) (after : ℕ) (numbers : List ℕ) (seen : Findings) : Type 0 where
  pub text : string_bytes seen.text ≡ start ++ report_lines (map x.all.row (filter x.finds numbers))
  pub rows : seen.rows ≡ length (filter x.finds numbers)
  pub looked_at : seen.looked_at ≡ length numbers
  pub last : seen.last ≡ last_of after numbers
  pub few_shown : length (filter x.finds numbers) ≤ MOST_ROWS
  pub few_seen : length numbers ≤ MOST_LOOKED_AT
  pub end : length (filter x.finds numbers) ≡ MOST_ROWS → last_of after (filter x.finds numbers) ≡ last_of after numbers

-- All of these rows were looked at.
pub record HasSeenAll (x : Search) (start : List ℕ) (after : ℕ) (numbers : List ℕ) (seen : Findings) : Type 0 where
  pub is : HasSeen x start after numbers seen
  pub more : seen.more ≡ false

-- The first of these rows were looked at until the search stopped, and it was noted that there are more.
pub record HasStopped (x : Search) (start : List ℕ) (after : ℕ) (numbers : List ℕ) (seen : Findings) : Type 0 where
  pub front : List ℕ
  pub next : ℕ
  pub rest : List ℕ
  pub split : numbers ≡ front ++ (next ∷ rest)
  pub is : HasSeen x start after front seen
  pub full : is_full seen ≡ true
  pub more : seen.more ≡ true

abbrev pub HasSearched : Search → List ℕ → ℕ → List ℕ → Findings → Type 0
HasSearched x start after numbers seen = HasSeenAll x start after numbers seen ⊎ HasStopped x start after numbers seen

-- Of the numbers above `after`, those up to `at` were searched.
pub record IsSearchedTo (x : Search) (after at : ℕ) (start : List ℕ) (seen : Findings) : Type 0 where
  pub front : List ℕ
  pub split : above after x.all.numbers ≡ front ++ above at x.all.numbers
  pub told : HasSearched x start after front seen

-- Whatever was searched before, these rows were searched after it.
abbrev pub SearchGoesOn : Search → ℕ → ℕ → Findings → Findings → Type 0
SearchGoesOn x at to old new = (start : List ℕ) (after : ℕ) → IsSearchedTo x after at start old → IsSearchedTo x after to start new

-- The end of an answer.
abbrev pub stop_words : Findings → List ℕ
stop_words seen = elim seen.more [ true ↦ spaced (codes "after" ∷ decimal seen.last ∷ []) | false ↦ codes "end" ]

-- The number after which to read on; none once a batch isn't full, or the search has stopped.
abbrev pub IsNextBatch : {R : Type 0} → (R → ℕ) → List R → Findings → Option ℕ → Type 0
IsNextBatch number_of rows seen None = (length rows < BATCH_ROWS) ⊎ (seen.more ≡ true)
IsNextBatch number_of rows seen (Some last) = option_map number_of (slice_get rows (length rows - 1)) ≡ Some last
