-- Account lines and their rows.
use Rattle.std.proofs.Common.{◌≡◌, ℕ, zero, List, [], ◌∷◌, refl}
use Rattle.std.specs.Prelude.{Option, None}
use Rattle.terms.specs.declared.row.LineRow.{LineRow}
use Rattle.model.specs.Accounts.{Line, Note}
use Rattle.model.specs.Picture.{nth_line}

-- The line that a row is of, with the note of its number.
abbrev pub line_in : (ℕ → Option Note) → LineRow → Line
line_in notes r = record { patron = r.patron; day = r.day; sort = r.sort; amount = r.amount; loan = r.loan; note = notes r.line }

-- The row of a line.
abbrev pub row_at : ℕ → Line → LineRow
row_at n x = record { line = n; patron = x.patron; day = x.day; sort = x.sort; amount = x.amount; loan = x.loan }

pub nth-zero : (xs : List Line) → nth_line xs zero ≡ None
nth-zero [] = refl
nth-zero (x ∷ xs) = refl
