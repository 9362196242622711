-- Lines without notes make no rows of notes.
use Rattle.std.proofs.Common.{◌≡◌, ℕ, zero, suc, List, [], ◌∷◌, ◌++◌, refl, ap}
use Rattle.std.specs.Prelude.{Option, Some, None, option_map, option_and_then}
use Rattle.std.specs.List.{AllByRecursion}
use Rattle.terms.specs.declared.row.NoteRow.{NoteRow}
use Rattle.terms.specs.declared.row.Sort.{Sort}
use Rattle.terms.specs.declared.row.Sort.TheVariants.{Fine, Price}
use Rattle.model.specs.History.{History}
use Rattle.model.specs.Places.{Place, Loan}
use Rattle.model.specs.Loans.{grace_of}
use Rattle.model.specs.Accounts.{Line, nth_line, line_of, fine_line, price_line, fine_now, price_of, borrower}
use Rattle.model.specs.Picture.{note_columns}

-- No line has a note.
abbrev pub AreUnnoted : List Line → Type 0
AreUnnoted = AllByRecursion (λ x. x.note ≡ None)

pub unnoted-append : (xs ys : List Line) → AreUnnoted xs → AreUnnoted ys → AreUnnoted (xs ++ ys)
unnoted-append [] ys a b = b
unnoted-append (x ∷ xs) ys a b = (a.0, unnoted-append xs ys a.1 b)

pub unnoted-line : (H : History) (p : ℕ) (s : Sort) (loan : Option ℕ) (n : ℕ) → AreUnnoted (line_of H p s loan n)
unnoted-line H p s loan zero = tt
unnoted-line H p s loan (suc n) = (refl, tt)

pub unnoted-fine : (H : History) (p : Place) → AreUnnoted (fine_line H (grace_of H) p)
unnoted-fine H (Loan l) = unnoted-line H (borrower H l) Fine (Some l) (fine_now H (grace_of H) l)
unnoted-fine H _ = tt

pub unnoted-price : (H : History) (c : ℕ) (p : Place) → AreUnnoted (price_line H c p)
unnoted-price H c (Loan l) = unnoted-line H (borrower H l) Price (Some l) (price_of H c)
unnoted-price H c _ = tt

-- The row of the note of a line of these, if it has one.
abbrev pub note_in : History → List Line → ℕ → ℕ → Option NoteRow
note_in H xs n m = option_and_then (λ x. option_map (note_columns H m) x.note) (nth_line xs n)

pub no-note-in : (H : History) (xs : List Line) (n m : ℕ) → AreUnnoted xs → note_in H xs n m ≡ None
no-note-in H [] n m old = refl
no-note-in H (x ∷ xs) zero m old = refl
no-note-in H (x ∷ xs) (suc zero) m old = ap (option_map (note_columns H m)) old.0
no-note-in H (x ∷ xs) (suc (suc n)) m old = no-note-in H xs (suc n) m old.1

-- Lines without notes that are added leave the rows of notes as they are.
pub notes-stay : (H : History) (xs ys : List Line) (n m : ℕ) → AreUnnoted ys → note_in H (xs ++ ys) n m ≡ note_in H xs n m
notes-stay H [] ys n m old = no-note-in H ys n m old
notes-stay H (x ∷ xs) ys zero m old = refl
notes-stay H (x ∷ xs) ys (suc zero) m old = refl
notes-stay H (x ∷ xs) ys (suc (suc n)) m old = notes-stay H xs ys (suc n) m old
