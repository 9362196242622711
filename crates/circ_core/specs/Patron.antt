-- The checks and row changes of `patron`, on the rows of a view.
use Rattle.std.specs.Prelude.{ℕ, ◌==◌, ◌&&◌, not, Bool, List, [], ◌∷◌, Option, Some, None, is_none, false, bytes_eq}
use Rattle.terms.specs.declared.refusal.Refusal.TheVariants.{UnknownKind, OtherContent, OutOfLimits}
use Rattle.terms.specs.declared.row.PatronRow.{PatronRow}
use Rattle.terms.specs.declared.command.Command.TheVariants.{Patron}
use Rattle.circ_core.specs.declared.changes.RowChange.{RowChange}
use Rattle.circ_core.specs.declared.changes.RowChange.TheVariants.{PutPatron}
use Rattle.circ_core.specs.declared.views.View.{View}
use Rattle.model.specs.Checks.{Check, is_within_limits}
use Rattle.circ_core.specs.Tables.{rows_unless}

-- The patron exists with another kind, card key or name.
abbrev pub patron_differs : Option PatronRow → ℕ → List ℕ → List ℕ → Bool
patron_differs (Some row) kind card_key name = not ((row.kind == kind) && (bytes_eq row.card_key card_key && bytes_eq row.name name))
patron_differs None kind card_key name = false

abbrev pub patron_checks : View → ℕ → ℕ → List ℕ → List ℕ → List Check
patron_checks view patron kind card_key name =
    (OutOfLimits, not (is_within_limits (Patron patron kind card_key name))) ∷ (UnknownKind, is_none view.kind)
    ∷ (OtherContent, patron_differs view.patron kind card_key name) ∷ []

-- A new patron owes nothing.
abbrev pub patron_rows : View → ℕ → ℕ → List ℕ → List ℕ → List RowChange
patron_rows view patron kind card_key name =
    rows_unless view.patron (PutPatron (record { patron = patron; kind = kind; card_key = card_key; name = name; owed = 0 }) ∷ [])
