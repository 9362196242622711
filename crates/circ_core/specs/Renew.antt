-- The checks and row changes of `renew`, on the rows of a view.
use Rattle.std.specs.Prelude.{ℕ, ◌+◌, ◌-◌, ◌==◌, nat_lt, Bool, true, false, List, [], ◌∷◌, Option, Some, None, is_none, is_some, unwrap_or}
use Rattle.calendar.specs.Openings.{Closings}
use Rattle.terms.specs.declared.refusal.Refusal.TheVariants as refusal
use Rattle.terms.specs.declared.row.LoanRow.{LoanRow}
use Rattle.model.specs.Checks.{Check}
use Rattle.circ_core.specs.declared.changes.RowChange.{RowChange}
use Rattle.circ_core.specs.declared.changes.RowChange.TheVariants.{PutLoan}
use Rattle.circ_core.specs.declared.views.View.{View}
use Rattle.circ_core.specs.DueDay.{due_from}
use Rattle.circ_core.specs.Debt.{debt_allowed, owed_by}

-- The loan has ended.
abbrev pub is_over : Option LoanRow → Bool
is_over (Some loan) = is_some loan.ended
is_over None = false

-- The loan was due before today.
abbrev pub is_late : Option LoanRow → ℕ → Bool
is_late (Some loan) today = nat_lt loan.due today
is_late None today = false

-- The loan has no renewals left.
abbrev pub is_renewed_out : Option LoanRow → Bool
is_renewed_out (Some loan) = loan.renewals_left == 0
is_renewed_out None = true

-- The new due day, if the calendar has one: the least open day from one period after the old due day.
abbrev pub next_due : Option LoanRow → Option Closings → Option ℕ
next_due (Some loan) lender = due_from lender (loan.due + loan.period)
next_due None lender = None

abbrev pub renewed_due_day : View → Option ℕ
renewed_due_day view = next_due view.loan view.lender

-- Today is used if there is none.
abbrev pub renewed_due_in : View → ℕ
renewed_due_in view = unwrap_or (renewed_due_day view) view.meta.today

abbrev pub renew_checks : View → List Check
renew_checks view =
    (refusal.UnknownLoan, is_none view.loan)
    ∷ (refusal.LoanEnded, is_over view.loan)
    ∷ (refusal.Overdue, is_late view.loan view.meta.today)
    ∷ (refusal.HoldWaits, is_some view.first)
    ∷ (refusal.NoRenewalsLeft, is_renewed_out view.loan)
    ∷ (refusal.OwesTooMuch, nat_lt (debt_allowed view.kind) (owed_by view.patron))
    ∷ (refusal.PastCalendar, is_none (renewed_due_day view))
    ∷ []

-- The loan gets the new due day and has one renewal less.
abbrev pub renewed_rows : Option LoanRow → ℕ → List RowChange
renewed_rows (Some loan) due = PutLoan (record loan { due = due; renewals_left = loan.renewals_left - 1 }) ∷ []
renewed_rows None due = []
