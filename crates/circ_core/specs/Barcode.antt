-- The checks and row changes of `copy-barcode`, `patron-barcode` and `drop-barcode`, on the rows of a view.
use Rattle.std.specs.Prelude.{ℕ, Bool, false, not, List, [], ◌∷◌, Option, Some, None, is_none}
use Rattle.terms.specs.Pictures.{same_thing}
use Rattle.terms.specs.declared.refusal.Refusal.TheVariants.{UnknownCopy, UnknownPatron, UnknownBarcode, BarcodeTaken}
use Rattle.terms.specs.declared.row.Thing.{Thing}
use Rattle.terms.specs.declared.row.Thing.TheVariants.{Patron, Copy}
use Rattle.circ_core.specs.declared.changes.RowChange.{RowChange}
use Rattle.circ_core.specs.declared.changes.RowChange.TheVariants.{PutBarcode, TakeBarcode}
use Rattle.circ_core.specs.declared.views.View.{View}
use Rattle.model.specs.Checks.{Check}

-- The barcode is that of another copy or patron.
abbrev pub is_others : Thing → Option Thing → Bool
is_others t (Some u) = not (same_thing u t)
is_others t None = false

abbrev pub copy_barcode_checks : View → ℕ → List Check
copy_barcode_checks view copy = (UnknownCopy, is_none view.copy) ∷ (BarcodeTaken, is_others (Copy copy) view.labelled) ∷ []

abbrev pub patron_barcode_checks : View → ℕ → List Check
patron_barcode_checks view patron = (UnknownPatron, is_none view.patron) ∷ (BarcodeTaken, is_others (Patron patron) view.labelled) ∷ []

abbrev pub drop_barcode_checks : View → List Check
drop_barcode_checks view = (UnknownBarcode, is_none view.labelled) ∷ []

-- The barcode of the copy or the patron is this one now.
abbrev pub barcode_rows : Thing → List ℕ → List RowChange
barcode_rows t barcode = PutBarcode (record { thing = t; barcode = barcode }) ∷ []

-- The copy or the patron that has the barcode has none now.
abbrev pub drop_barcode_rows : Option Thing → List RowChange
drop_barcode_rows (Some t) = TakeBarcode t ∷ []
drop_barcode_rows None = []
