-- The numbers of loans, holds and lines: those given so far, without a gap.
use Rattle.std.specs.Prelude.{◌≡◌, ◌==◌, ◌&&◌, ◌+◌, ◌<◌, ◌≤◌, ℕ, nat_lt, Bool, false, List, [], ◌∷◌, length, get_or, Option, Some, None}
use Rattle.terms.specs.declared.tables.Tables.{Tables}
use Rattle.circ_audit.specs.declared.numbers.Series.{Series}
use Rattle.circ_audit.specs.declared.numbers.Series.TheVariants.{Loans, Holds, Lines}
use Rattle.circ_audit.specs.References.{has}

-- The number was given: it is from 1 on, and below the next one.
abbrev pub is_given : ℕ → ℕ → Bool
is_given next n = nat_lt 0 n && nat_lt n next

-- The number has a row exactly if it was given.
abbrev pub IsGiven : {R : Type 0} → (R → ℕ) → ℕ → List R → ℕ → Type 0
IsGiven number_of next rows n = has number_of rows n ≡ is_given next n

-- The first row has number 0.
abbrev pub begins_with_zero : {R : Type 0} → (R → ℕ) → List R → Bool
begins_with_zero number_of (r ∷ rows) = number_of r == 0
begins_with_zero number_of [] = false

-- The lowest number from 1 on after the other, which may be missing.
abbrev pub next_of : Option ℕ → ℕ
next_of (Some n) = n + 1
next_of None = 1

-- The rows from this place on are those with numbers from this one on.
pub record IsPlaceOf {R : Type 0} (number_of : R → ℕ) (rows : List R) (from place : ℕ) : Type 0 where
  pub within : place ≤ length rows
  pub before : (i : ℕ) (d : R) → i < place → number_of (get_or rows i d) < from
  pub after : (i : ℕ) (d : R) → place ≤ i → i < length rows → from ≤ number_of (get_or rows i d)

-- The first `count` rows are numbered from this one on without a gap, and the row after them isn't.
pub record IsBeforeGap {R : Type 0} (number_of : R → ℕ) (from : ℕ) (rows : List R) (count : ℕ) : Type 0 where
  pub within : count ≤ length rows
  pub before : (i : ℕ) (d : R) → i < count → number_of (get_or rows i d) ≡ from + i
  pub after : (d : R) → count < length rows → number_of (get_or rows count d) ≡ from + count → ⊥

-- The same for the rows of a table.
abbrev pub IsNumbered : Tables → Series → ℕ → Type 0
IsNumbered t Loans = IsGiven (λ r. r.loan) t.meta.next_loan t.loans
IsNumbered t Holds = IsGiven (λ r. r.hold) t.meta.next_hold t.holds
IsNumbered t Lines = IsGiven (λ r. r.line) t.meta.next_line t.lines

-- The place of a series in the order of the audit.
abbrev pub place_of_series : Series → ℕ
place_of_series Loans = 0
place_of_series Holds = 1
place_of_series Lines = 2
