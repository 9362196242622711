-- Barcodes and notes, from the tables' rows.
use Rattle.std.specs.Prelude.{List, [], ◌∷◌, ℕ, Option, Some, None, codes, decimal, option_and_then}
use Rattle.terms.specs.declared.row.NoteRow.{NoteRow}
use Rattle.terms.specs.declared.row.Thing.{Thing}
use Rattle.model.specs.Accounts.{Note, lines, nth_line}
use Rattle.model.specs.Asking.{text_words, thing_words}
use Rattle.model.specs.History.{History}
use Rattle.model.specs.Pages.{spaced}

-- The line of a barcode.
abbrev pub barcode_words : List ℕ → List ℕ
barcode_words barcode = spaced (codes "barcode" ∷ barcode ∷ [])

-- What comes after the lines of a thing: the line of its barcode, if it has one.
abbrev pub barcode_tail : Option (List ℕ) → List ℕ
barcode_tail None = []
barcode_tail (Some barcode) = 10 ∷ barcode_words barcode

-- What a barcode is of.
abbrev pub words_of_thing : Thing → List ℕ
words_of_thing thing = spaced (thing_words (Some thing))

-- The words of a line's note, if it has one.
abbrev pub words_of_note : Option NoteRow → List (List ℕ)
words_of_note None = []
words_of_note (Some r) = codes "at" ∷ decimal r.branch ∷ text_words r.text

-- The note of the line with this number, if it has one.
abbrev pub note_at : History → ℕ → Option Note
note_at H n = option_and_then (λ x. x.note) (nth_line (lines H) n)
