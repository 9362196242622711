-- Barcodes that stand on two things.
use Rattle.std.specs.Prelude.{◌≡◌, ◌<◌, ℕ, Bool, true, false, List, [], ◌∷◌, ◌++◌, length, get_or, take, slice_get, bytes_eq, Some, MatchOption, if◌then◌else◌}
use Rattle.std.specs.List.{list_any}
use Rattle.terms.specs.declared.row.BarcodeRow.{BarcodeRow}
use Rattle.terms.specs.Things.{thing_number}

-- One of the rows has the barcode.
abbrev pub has_barcode : List BarcodeRow → List ℕ → Bool
has_barcode rows barcode = list_any (λ r. bytes_eq r.barcode barcode) rows

-- None of the first rows, so many of them, has the barcode of a row before it.
abbrev pub AreNewBefore : List BarcodeRow → ℕ → Type 0
AreNewBefore rows count =
    (k : ℕ) (d : BarcodeRow) → k < count → has_barcode (take k rows) (get_or rows k d).barcode ≡ false

-- No two rows have the same barcode.
abbrev pub AreDistinct : List BarcodeRow → Type 0
AreDistinct rows = AreNewBefore rows (length rows)

-- The number is that of the first row with the barcode of a row before it.
pub record IsFirstDoubled (rows : List BarcodeRow) (n : ℕ) : Type 0 where
  pub place : ℕ
  pub row : BarcodeRow
  pub there : slice_get rows place ≡ Some row
  pub before : AreNewBefore rows place
  pub doubled : has_barcode (take place rows) row.barcode ≡ true
  pub number_is : thing_number row.thing ≡ n

-- The number, if it is doubled, and then the others.
abbrev pub with_doubled : Bool → ℕ → List ℕ → List ℕ
with_doubled doubled n others = if doubled then n ∷ others else others

-- The numbers of the rows with the barcode of a row before them, where some come before all.
abbrev pub doubled_after : List BarcodeRow → List BarcodeRow → List ℕ
doubled_after before [] = []
doubled_after before (r ∷ rows) =
    with_doubled (has_barcode before r.barcode) (thing_number r.thing) (doubled_after (before ++ r ∷ []) rows)

-- The numbers of all rows with the barcode of a row before them, in order.
abbrev pub doubled_numbers : List BarcodeRow → List ℕ
doubled_numbers rows = doubled_after [] rows

-- These are the first numbers, at most so many, of rows with the barcode of a row before them.
pub record AreDoubled (rows : List BarcodeRow) (most : ℕ) (found : List ℕ) : Type 0 where
  pub numbers : found ≡ take most (doubled_numbers rows)
  pub first : 0 < most → MatchOption (slice_get found 0) (AreDistinct rows) (IsFirstDoubled rows)
