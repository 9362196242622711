-- The checks and row changes of `charge` and `pay-at`, on the rows of a view.
use Rattle.terms.specs.declared.limits.TheConstants.{LAST_NUMBER, LARGEST_SUM}
use Rattle.std.specs.Prelude.{ℕ, ◌+◌, ◌==◌, nat_lt, not, min, List, [], ◌∷◌, ◌++◌, Option, Some, None, is_none}
use Rattle.terms.specs.declared.command.Command.TheVariants.{Charge}
use Rattle.terms.specs.declared.refusal.Refusal.TheVariants.{OutOfLimits, UnknownPatron, UnknownBranch, BadAmount, NumbersUsedUp}
use Rattle.terms.specs.declared.row.MetaRow.{MetaRow}
use Rattle.terms.specs.declared.row.NoteRow.{NoteRow}
use Rattle.terms.specs.declared.row.PatronRow.{PatronRow}
use Rattle.terms.specs.declared.row.Sort.TheVariants.{Payment, Charge as ChargeSort}
use Rattle.model.specs.Checks.{Check, is_within_limits}
use Rattle.circ_core.specs.declared.changes.RowChange.{RowChange}
use Rattle.circ_core.specs.declared.changes.RowChange.TheVariants.{PutNote}
use Rattle.circ_core.specs.declared.views.View.{View}
use Rattle.circ_core.specs.Debt.{owed_by}
use Rattle.circ_core.specs.PayAndWaive.{amount_checks, posted, settle_rows}

abbrev pub pay_at_checks : View → ℕ → List Check
pay_at_checks view amount =
    (UnknownPatron, is_none view.patron) ∷ (UnknownBranch, is_none view.branch) ∷ amount_checks view.meta (owed_by view.patron) amount

abbrev pub charge_checks : View → ℕ → ℕ → ℕ → List ℕ → List Check
charge_checks view patron amount branch text =
    (OutOfLimits, not (is_within_limits (Charge patron amount branch text))) ∷ (UnknownPatron, is_none view.patron)
    ∷ (UnknownBranch, is_none view.branch) ∷ (BadAmount, amount == 0) ∷ (NumbersUsedUp, nat_lt LAST_NUMBER view.meta.next_line) ∷ []

-- Where the next line is made, and what for if it is a charge.
abbrev pub new_note : MetaRow → ℕ → Option (List ℕ) → NoteRow
new_note meta branch text = record { line = meta.next_line; branch = branch; text = text }

-- A payment at a counter is a payment, with its note.
abbrev pub pay_at_rows : View → ℕ → ℕ → ℕ → List RowChange
pay_at_rows view patron amount branch = settle_rows view patron Payment amount ++ PutNote (new_note view.meta branch None) ∷ []

-- What the patron owes after a charge: that much more, up to the largest possible amount.
abbrev pub owed_after : Option PatronRow → ℕ → ℕ
owed_after patron amount = min (owed_by patron + amount) LARGEST_SUM

-- The patron owes that much more, and the line has its note.
abbrev pub charge_rows_on : MetaRow → Option PatronRow → ℕ → ℕ → ℕ → List ℕ → List RowChange
charge_rows_on meta (Some row) patron amount branch text =
    posted meta row patron ChargeSort (owed_after (Some row) amount) amount ++ PutNote (new_note meta branch (Some text)) ∷ []
charge_rows_on meta None patron amount branch text = []

abbrev pub charge_rows : View → ℕ → ℕ → ℕ → List ℕ → List RowChange
charge_rows view patron amount branch text = charge_rows_on view.meta view.patron patron amount branch text
