-- The checks and row changes of `card-key` and `amend-patron`, on the rows of a view.
use Rattle.std.specs.Prelude.{ℕ, not, List, [], ◌∷◌, Option, Some, None, is_none}
use Rattle.terms.specs.declared.refusal.Refusal.TheVariants.{UnknownPatron, UnknownKind, OutOfLimits}
use Rattle.terms.specs.declared.row.PatronRow.{PatronRow}
use Rattle.circ_core.specs.declared.changes.RowChange.{RowChange}
use Rattle.circ_core.specs.declared.changes.RowChange.TheVariants.{PutPatron}
use Rattle.circ_core.specs.declared.views.View.{View}
use Rattle.model.specs.Checks.{Check, is_small_number}

abbrev pub card_key_checks : Option PatronRow → List Check
card_key_checks row = (UnknownPatron, is_none row) ∷ []

-- The patron has this card key, and is otherwise unchanged.
abbrev pub card_key_rows : Option PatronRow → List ℕ → List RowChange
card_key_rows (Some row) card_key = PutPatron (record row { card_key = card_key }) ∷ []
card_key_rows None card_key = []

abbrev pub amend_patron_checks : View → ℕ → List Check
amend_patron_checks view kind =
    (OutOfLimits, not (is_small_number kind)) ∷ (UnknownPatron, is_none view.patron) ∷ (UnknownKind, is_none view.kind) ∷ []

-- The patron has this kind and name, and is otherwise unchanged.
abbrev pub amend_patron_rows : Option PatronRow → ℕ → List ℕ → List RowChange
amend_patron_rows (Some row) kind name = PutPatron (record row { kind = kind; name = name }) ∷ []
amend_patron_rows None kind name = []
