-- Barcodes and notes, by their rows.
use Rattle.std.proofs.Common.{◌≡◌, ◌∙◌, ℕ, List, [], ◌∷◌, ◌++◌, Option, Some, None, refl, ap, append-nil, append_assoc}
use Rattle.std.specs.Prelude.{option_map, option_and_then}
use Rattle.std.specs.List.{join_with_byte}
use Rattle.circ_core.specs.Views.{IsThingOf}
use Rattle.terms.specs.declared.row.BarcodeRow.{BarcodeRow}
use Rattle.terms.specs.declared.row.NoteRow.{NoteRow}
use Rattle.terms.specs.declared.row.Thing.{Thing}
use Rattle.model.specs.Accounts.{Line, Note, lines, nth_line}
use Rattle.model.specs.Asking.{barcode_lines, note_words}
use Rattle.model.specs.History.{History, barcode_of, thing_of}
use Rattle.model.specs.Picture.{picture, note_columns}
use Rattle.model.specs.Requests.{IsLegal}
use Rattle.model.proofs.Labels.{labels}
use Rattle.desk.specs.Labelling.{barcode_tail, barcode_words, note_at, words_of_note}

-- What is no row is none.
pub no-row : {A : Type 0} (o : Option A) → ((x : A) → o ≡ Some x → ⊥) → o ≡ None
no-row None never = refl
no-row (Some x) never = absurd (never x refl)

-- The row of a thing has its barcode.
pub barcode-is : (H : History) (t : Thing) (row : Option BarcodeRow) → row ≡ (picture H).barcodes t → option_map (λ r. r.barcode) row ≡ barcode_of H t
barcode-is H t row is = ap (option_map (λ (r : BarcodeRow). r.barcode)) is ∙ same (barcode_of H t)
  where
    same : (o : Option (List ℕ)) → option_map (λ (r : BarcodeRow). r.barcode) (option_map (λ x. record { thing = t; barcode = x }) o) ≡ o
    same None = refl
    same (Some x) = refl

-- What a row of barcodes names is what the barcode is of.
pub thing-is : (H : History) → IsLegal H → (x : List ℕ) (found : Option Thing) → IsThingOf (picture H) x found → thing_of H x ≡ found
thing-is H legal x (Some t) is = ((labels H legal).found t x).1 is
thing-is H legal x None is = go (thing_of H x) refl
  where
    go : (o : Option Thing) → thing_of H x ≡ o → thing_of H x ≡ None
    go None e = e
    go (Some t) e = absurd (is t (record { thing = t; barcode = x }) (((labels H legal).found t x).0 e) refl)

-- The words of a line's note are those of its row.
pub note-words-is : (H : History) (n : ℕ) (row : Option NoteRow) → row ≡ (picture H).notes n → words_of_note row ≡ note_words (note_at H n)
note-words-is H n row is = ap words_of_note is ∙ go (nth_line (lines H) n)
  where
    noted : (k : Option Note) → words_of_note (option_map (note_columns H n) k) ≡ note_words k
    noted None = refl
    noted (Some k) = refl

    go : (o : Option Line) → words_of_note (option_and_then (λ x. option_map (note_columns H n) x.note) o) ≡ note_words (option_and_then (λ x. x.note) o)
    go None = refl
    go (Some x) = noted x.note

-- Lines, and that of a barcode after them.
pub two-then : (a b : List ℕ) (o : Option (List ℕ)) → join_with_byte 10 (a ∷ b ∷ []) ++ barcode_tail o ≡ join_with_byte 10 (a ∷ b ∷ barcode_lines o)
two-then a b None = append-nil _
two-then a b (Some x) = append_assoc a (10 ∷ b) (10 ∷ barcode_words x)
