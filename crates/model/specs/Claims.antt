-- The claims that tables make on a copy. They make none on a copy on the shelf.
use Rattle.std.specs.Prelude.{◌≡◌, ℕ, Some, None}
use Rattle.terms.specs.declared.row.LoanRow.{LoanRow}
use Rattle.terms.specs.declared.row.HoldRow.{HoldRow}
use Rattle.terms.specs.declared.row.HoldState.TheVariants.{Ready}
use Rattle.terms.specs.declared.row.CopyRow.{CopyRow}
use Rattle.terms.specs.declared.row.Condition.TheVariants.{Missing, Withdrawn}
use Rattle.model.specs.Picture.{Picture}
use Rattle.model.specs.Places.{Place, Nowhere, Shelf, HoldShelf, Transit, Loan, MissingCopy, WithdrawnCopy}

-- A claim is named by the copy's place: an open loan row, a ready hold row, a transit row, a condition.
abbrev pub Claims : Picture → ℕ → Place → Type 0
Claims t c (Loan l) = (r : LoanRow) × (t.loans l ≡ Some r) × (r.copy ≡ c) × (r.ended ≡ None)
Claims t c (HoldShelf h) = (r : HoldRow) × (t.holds h ≡ Some r) × (r.copy ≡ Some c) × (r.state ≡ Ready)
Claims t c (Transit g h) = t.transits c ≡ Some (record { copy = c; goal = g; hold = h })
Claims t c MissingCopy = (r : CopyRow) × (t.copies c ≡ Some r) × (r.condition ≡ Missing)
Claims t c WithdrawnCopy = (r : CopyRow) × (t.copies c ≡ Some r) × (r.condition ≡ Withdrawn)
Claims t c Nowhere = ⊥
Claims t c (Shelf b) = ⊥

-- At most one claim is made on the copy.
abbrev pub AtMostOne : Picture → ℕ → Type 0
AtMostOne t c = (p q : Place) → Claims t c p → Claims t c q → p ≡ q

-- The copy is somewhere other than on a shelf.
abbrev pub IsAway : Place → Type 0
IsAway Nowhere = ⊥
IsAway (Shelf b) = ⊥
IsAway _ = Unit {0}

-- The tables make at most one claim on the copy, that of this place; none if it is on the shelf.
pub record IsInOnePlace (t : Picture) (c : ℕ) (at : Place) : Type 0 where
  pub one : AtMostOne t c
  pub named : (other : Place) → Claims t c other → other ≡ at
  pub shown : IsAway at → Claims t c at
