-- Laws of notes: which lines have one, and that the tills of all branches add up to the till of the day.
use Rattle.std.specs.Prelude.{◌≡◌, ℕ, ◌+◌, ◌==◌, ◌&&◌, List, filter, sum_by, Option, Some, None, is_none}
use Rattle.terms.specs.declared.row.LineRow.{LineRow}
use Rattle.terms.specs.declared.row.NoteRow.{NoteRow}
use Rattle.terms.specs.declared.row.Sort.{Sort}
use Rattle.terms.specs.declared.row.Sort.TheVariants.{Payment, Charge}
use Rattle.model.specs.History.{History, branches}
use Rattle.model.specs.Accounts.{lines}
use Rattle.model.specs.Asking.{rising}
use Rattle.model.specs.Reports.{is_sort, till_sum, till_sum_at}
use Rattle.model.specs.Picture.{Picture, picture}
use Rattle.model.specs.Requests.{IsLegal}

-- ---- which lines have a note

-- A charge has a note with a text, and a payment one without.
abbrev pub IsNoteFor : Sort → Option (List ℕ) → Type 0
IsNoteFor Charge (Some text) = Unit {0}
IsNoteFor Payment None = Unit {0}
IsNoteFor _ _ = ⊥

-- Each charge has a note, and each note is that of a charge or of a payment: a charge alone has a text.
pub record HasFairNotes (T : Picture) : Type 0 where
  pub charges : (n : ℕ) (r : LineRow) → T.lines n ≡ Some r → r.sort ≡ Charge → (x : NoteRow) × (T.notes n ≡ Some x)
  pub fits : (n : ℕ) (x : NoteRow) → T.notes n ≡ Some x → (r : LineRow) × (T.lines n ≡ Some r) × IsNoteFor r.sort x.text

-- After every legal history it is so.
abbrev pub Notes : Type 0
Notes = (H : History) → IsLegal H → HasFairNotes (picture H)

-- ---- the tills of all branches

module _ (H : History) (d : ℕ) (s : Sort) where
  -- The sums of one sort in the tills of all branches, together.
  abbrev pub sum_of_branches : ℕ
  sum_of_branches = sum_by (λ b. till_sum_at H b d s) (rising (branches H))

  -- The sum of the day's lines of one sort without a note.
  abbrev pub sum_without_note : ℕ
  sum_without_note = sum_by (λ x. x.amount) (filter (λ x. (x.day == d) && (is_sort x.sort s && is_none x.note)) (lines H))

-- The payments at all branches and those without a note are the payments of the day; the charges at all branches
-- are its charges.
pub record AddsUp (H : History) (d : ℕ) : Type 0 where
  pub payments : sum_of_branches H d Payment + sum_without_note H d Payment ≡ till_sum H d Payment
  pub charges : sum_of_branches H d Charge ≡ till_sum H d Charge

-- After every legal history it is so, on every day.
abbrev pub Counters : Type 0
Counters = (H : History) (d : ℕ) → IsLegal H → AddsUp H d
