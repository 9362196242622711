-- The rule of an append-only list, and what its steps tell.
use Rattle.std.specs.Prelude.{ℕ, ◌≡◌, ◌==◌, true, List, [], ◌∷◌, ◌++◌, length, IsTrue}
use Rattle.logbook.specs.Pages.{Cell, Step, View, Book, Named}

-- The first word is the list's length. A book has two words; this list leaves the second at 0.
abbrev pub IsCounted : {E : Type 0} → List Cell → List E → Type 0
IsCounted cells log = cells ≡ (length log, true) ∷ (0, true) ∷ []

-- The first word of a book.
abbrev pub head_of : Book → Named
head_of b = record { tracked = true; key = 0; book = b }

-- The item was added to everything seen, if that was the whole list.
abbrev pub Adds : {E : Type 0} → Step E → View E (Unit {0}) → ℕ → View E (Unit {0}) → Type 0
Adds s v found w = IsTrue (found == s.old) → w.0 ≡ v.0 ++ s.ask ∷ []

-- What is known of a list: its book, and a beginning of its items.
pub record Known (E : Type 0) : Type 0 where
  pub book : Book
  pub items : List E

abbrev pub known : {E : Type 0} → Book → List E → Known E
known book items = record { book = book; items = items }
