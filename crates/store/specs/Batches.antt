-- Batches of the rows of a table.
use Rattle.std.specs.Prelude.{◌≡◌, ◌⊎◌, ◌<◌, ◌≤◌, ◌==◌, ◌-◌, ℕ, Bool, false, if◌then◌else◌, List, [], ◌∷◌, ◌++◌, length, slice_get}
use Rattle.std.specs.Prelude.{Option, Some, None}
use Rattle.std.specs.List.{Contains}
use Rattle.circ_tables.specs.declared.by_number.TheConstants.{BATCH_ROWS}
use Rattle.circ_tables.specs.ClosedDays.{closed_days}
use Rattle.circ_core.specs.Views.{IsLoanOf, IsHoldOf}
use Rattle.terms.specs.Callers.{owner_number}
use Rattle.terms.specs.declared.command.Owner.{Owner}
use Rattle.terms.specs.declared.row.ClosedDayRow.{ClosedDayRow}
use Rattle.terms.specs.declared.row.KeptRow.{KeptRow}
use Rattle.terms.specs.declared.row.CopyRow.{CopyRow}
use Rattle.terms.specs.declared.row.Condition.TheVariants.{Present, Missing}
use Rattle.terms.specs.declared.row.LoanRow.{LoanRow}
use Rattle.terms.specs.declared.row.HoldRow.{HoldRow}
use Rattle.terms.specs.declared.row.HoldState.TheVariants.{Waiting, Ready}
use Rattle.terms.specs.declared.row.LineRow.{LineRow}
use Rattle.terms.specs.declared.row.PatronRow.{PatronRow}
use Rattle.terms.specs.declared.row.TransitRow.{TransitRow}
use Rattle.terms.specs.Pictures.{Picture}
use Rattle.terms.specs.Orders.{Rise}

-- The first rows of the table that pass, each once, lowest number first: either all of them, or a full batch
-- with all others after it.
pub record AreFirstRows {R : Type 0} (t : ℕ → Option R) (number_of : R → ℕ) (Passes : R → Type 0) (rows : List R) : Type 0 where
  pub sound : (r : R) → Contains rows r → (t (number_of r) ≡ Some r) × Passes r
  pub whole : (n : ℕ) (r : R) → t n ≡ Some r → Passes r
      → Contains rows r ⊎ ((length rows ≡ BATCH_ROWS) × ((s : R) → Contains rows s → number_of s < n))
  pub rise : Rise number_of rows
  pub few : length rows ≤ BATCH_ROWS

-- A batch of the ready holds with this pick-up branch, above a number.
abbrev pub AreReadyAfter : Picture → ℕ → ℕ → List HoldRow → Type 0
AreReadyAfter P branch after = AreFirstRows P.holds (λ r. r.hold) (λ r. (r.branch ≡ branch) × (r.state ≡ Ready) × (after < r.hold))

-- A batch of the branch's open loans that were due before the day, above a number.
abbrev pub AreOverdueAfter : Picture → ℕ → ℕ → ℕ → List LoanRow → Type 0
AreOverdueAfter P branch day after =
    AreFirstRows P.loans (λ r. r.loan) (λ r. (r.branch ≡ branch) × (r.ended ≡ None) × (r.due < day) × (after < r.loan))

-- A batch of the day's lines, above a number.
abbrev pub AreLinesAfter : Picture → ℕ → ℕ → List LineRow → Type 0
AreLinesAfter P day after = AreFirstRows P.lines (λ r. r.line) (λ r. (r.day ≡ day) × (after < r.line))

-- A batch of the lines of the patron's account, above a number.
abbrev pub AreAccountLinesAfter : Picture → ℕ → ℕ → List LineRow → Type 0
AreAccountLinesAfter P patron after = AreFirstRows P.lines (λ r. r.line) (λ r. (r.patron ≡ patron) × (after < r.line))

-- A batch of the title's copies, above a number.
abbrev pub AreCopiesAfter : Picture → ℕ → ℕ → List CopyRow → Type 0
AreCopiesAfter P title after = AreFirstRows P.copies (λ r. r.copy) (λ r. (r.title ≡ title) × (after < r.copy))

-- A batch of the missing copies, above a number.
abbrev pub AreMissingAfter : Picture → ℕ → List CopyRow → Type 0
AreMissingAfter P after = AreFirstRows P.copies (λ r. r.copy) (λ r. (r.condition ≡ Missing) × (after < r.copy))

-- A batch of the loans ever made of the copy, above a number.
abbrev pub AreLoansOfAfter : Picture → ℕ → ℕ → List LoanRow → Type 0
AreLoansOfAfter P copy after = AreFirstRows P.loans (λ r. r.loan) (λ r. (r.copy ≡ copy) × (after < r.loan))

-- A batch of the waiting holds, of all titles or of one, above a number.
abbrev pub AreWaitingAfter : Picture → ℕ → List HoldRow → Type 0
AreWaitingAfter P after = AreFirstRows P.holds (λ r. r.hold) (λ r. (r.state ≡ Waiting) × (after < r.hold))

abbrev pub AreWaitingForAfter : Picture → ℕ → ℕ → List HoldRow → Type 0
AreWaitingForAfter P title after = AreFirstRows P.holds (λ r. r.hold) (λ r. (r.title ≡ title) × (r.state ≡ Waiting) × (after < r.hold))

-- A batch of the patrons who owe something, above a number.
abbrev pub AreDebtorsAfter : Picture → ℕ → List PatronRow → Type 0
AreDebtorsAfter P after = AreFirstRows P.patrons (λ r. r.patron) (λ r. (0 < r.owed) × (after < r.patron))

-- A batch of the transits to the branch, above a copy's number.
abbrev pub AreTransitsAfter : Picture → ℕ → ℕ → List TransitRow → Type 0
AreTransitsAfter P branch after = AreFirstRows P.transits (λ r. r.copy) (λ r. (r.goal ≡ branch) × (after < r.copy))

-- The copy of the title stands on the shelf of the branch, its home: it is present, and nothing else claims
-- it.
pub record IsShelved (P : Picture) (title branch copy : ℕ) (row : CopyRow) : Type 0 where
  pub there : P.copies copy ≡ Some row
  pub of_title : row.title ≡ title
  pub at_home : row.home ≡ branch
  pub present : row.condition ≡ Present
  pub still : P.transits copy ≡ None
  pub unlent : IsLoanOf P copy None
  pub unnamed : IsHoldOf P copy None

-- The lowest-numbered copy of the title on the shelf of the branch, or none if there is none.
abbrev pub IsLeastShelved : Picture → ℕ → ℕ → Option CopyRow → Type 0
IsLeastShelved P title branch (Some row) = IsShelved P title branch row.copy row × ((c : ℕ) (r : CopyRow) → IsShelved P title branch c r → row.copy ≤ c)
IsLeastShelved P title branch None = (c : ℕ) (r : CopyRow) → IsShelved P title branch c r → ⊥

-- A batch of all rows of a table, above a number.
abbrev pub AreRowsAfter : {R : Type 0} → (ℕ → Option R) → (R → ℕ) → ℕ → List R → Type 0
AreRowsAfter t number_of after = AreFirstRows t number_of (λ r. after < number_of r)

-- A batch of the branch's single closed days, after a day.
abbrev pub AreClosedDaysAfter : Picture → ℕ → ℕ → List ClosedDayRow → Type 0
AreClosedDaysAfter P branch after = AreRowsAfter (λ day. closed_days.rows P (branch, day)) (λ r. r.day) after

-- Each row of a table stands under its own number; numbers begin at 1.
abbrev pub AreNumbered : {R : Type 0} → (ℕ → Option R) → (R → ℕ) → Type 0
AreNumbered {R} t number_of = (n : ℕ) (r : R) → t n ≡ Some r → (number_of r ≡ n) × (1 ≤ n)

-- The row is of this caller.
abbrev pub is_of_caller : Owner → Option KeptRow → Bool
is_of_caller o (Some r) = owner_number r.caller == owner_number o
is_of_caller o None = false

-- The last row is of this caller.
abbrev pub ends_with_caller : List KeptRow → Owner → Bool
ends_with_caller rows o = is_of_caller o (slice_get rows (length rows - 1))

-- The rows with one more, unless the last one is of its caller.
abbrev pub with_caller : List KeptRow → KeptRow → List KeptRow
with_caller rows r = if ends_with_caller rows r.caller then rows else rows ++ r ∷ []

-- The same for one row after another.
abbrev pub with_callers : List KeptRow → List KeptRow → List KeptRow
with_callers rows [] = rows
with_callers rows (r ∷ more) = with_callers (with_caller rows r) more

-- What was read can be anything.
abbrev pub IsPassedOver : {A : Type 0} → Picture → A → Type 0
IsPassedOver P x = Unit {0}
