-- The checks and row changes of `pay` and `waive`, on the rows of a view.
use Rattle.terms.specs.declared.limits.TheConstants.{LAST_NUMBER}
use Rattle.std.specs.Prelude.{ℕ, ◌+◌, ◌-◌, ◌==◌, nat_lt, ◌||◌, List, [], ◌∷◌, Option, Some, None, is_none}
use Rattle.terms.specs.declared.refusal.Refusal.TheVariants.{UnknownPatron, BadAmount, NumbersUsedUp}
use Rattle.terms.specs.declared.row.MetaRow.{MetaRow}
use Rattle.terms.specs.declared.row.PatronRow.{PatronRow}
use Rattle.terms.specs.declared.row.LineRow.{LineRow}
use Rattle.terms.specs.declared.row.Sort.{Sort}
use Rattle.model.specs.Checks.{Check}
use Rattle.circ_core.specs.declared.changes.RowChange.{RowChange}
use Rattle.circ_core.specs.declared.changes.RowChange.TheVariants.{PutMeta, PutPatron, PutLine}
use Rattle.circ_core.specs.declared.views.View.{View}
use Rattle.circ_core.specs.Debt.{owed_by}

-- The amount is zero or above the debt; no line number is left.
abbrev pub amount_checks : MetaRow → ℕ → ℕ → List Check
amount_checks meta owed amount = (BadAmount, (amount == 0) || nat_lt owed amount) ∷ (NumbersUsedUp, nat_lt LAST_NUMBER meta.next_line) ∷ []

abbrev pub settle_checks : View → ℕ → List Check
settle_checks view amount = (UnknownPatron, is_none view.patron) ∷ amount_checks view.meta (owed_by view.patron) amount

-- The new line.
abbrev pub new_line : MetaRow → ℕ → Sort → ℕ → LineRow
new_line meta patron sort amount = record { line = meta.next_line; patron = patron; day = meta.today; sort = sort; amount = amount; loan = None }

-- The next number is given, the patron owes this amount now, and the line is made.
abbrev pub posted : MetaRow → PatronRow → ℕ → Sort → ℕ → ℕ → List RowChange
posted meta row patron sort owed amount =
    PutMeta (record meta { next_line = meta.next_line + 1 }) ∷ PutPatron (record row { owed = owed }) ∷ PutLine (new_line meta patron sort amount) ∷ []

-- The patron owes that much less.
abbrev pub settled : MetaRow → Option PatronRow → ℕ → Sort → ℕ → List RowChange
settled meta (Some row) patron sort amount = posted meta row patron sort (row.owed - amount) amount
settled meta None patron sort amount = []

abbrev pub settle_rows : View → ℕ → Sort → ℕ → List RowChange
settle_rows view patron sort amount = settled view.meta view.patron patron sort amount
