-- The checks and row changes of `check-out`, on the rows of a view.
use Rattle.terms.specs.declared.limits.TheConstants.{LAST_NUMBER}
use Rattle.std.specs.Prelude.{ℕ, ◌+◌, ◌==◌, nat_le, nat_lt, not, Bool, false, List, [], ◌∷◌, Option, Some, None, is_none, is_some, unwrap_or}
use Rattle.terms.specs.declared.refusal.Refusal.TheVariants as refusal
use Rattle.terms.specs.declared.row.KindRow.{KindRow}
use Rattle.terms.specs.declared.row.RuleRow.{RuleRow}
use Rattle.terms.specs.declared.row.CopyRow.{CopyRow}
use Rattle.terms.specs.declared.row.LoanRow.{LoanRow}
use Rattle.terms.specs.declared.row.HoldRow.{HoldRow}
use Rattle.terms.specs.declared.row.HoldState.TheVariants.{Filled}
use Rattle.circ_core.specs.DueDay.{due_from}
use Rattle.circ_core.specs.declared.changes.RowChange.{RowChange}
use Rattle.circ_core.specs.declared.changes.RowChange.TheVariants.{PutMeta, PutLoan, PutHold}
use Rattle.circ_core.specs.declared.views.View.{View}
use Rattle.model.specs.Checks.{Check}
use Rattle.circ_core.specs.Condition.{is_missing, is_withdrawn}
use Rattle.circ_core.specs.Debt.{debt_allowed, owed_by}
use Rattle.circ_core.specs.Holds.{finished}

-- The branch of a copy that is neither lent nor in transit: that of the hold that it waits for, else its
-- home.
abbrev pub stands_at : Option HoldRow → Option CopyRow → ℕ
stands_at (Some hold) copy = hold.branch
stands_at None (Some row) = row.home
stands_at None None = 0

-- The hold is another patron's.
abbrev pub is_of_other : Option HoldRow → ℕ → Bool
is_of_other (Some hold) patron = not (hold.patron == patron)
is_of_other None patron = false

-- The hold that a check-out fills: that of the hold shelf, else the first in line.
abbrev pub filled_hold : Option HoldRow → Option HoldRow → Option HoldRow
filled_hold (Some hold) first = Some hold
filled_hold None first = first

-- The copy is on the shelf, and the first hold in line is another patron's.
abbrev pub is_wanted : Option HoldRow → Option HoldRow → ℕ → Bool
is_wanted (Some hold) first patron = false
is_wanted None first patron = is_of_other first patron

-- The patron has more active holds on the title than the one that is filled.
abbrev pub has_more : Option HoldRow → ℕ → Bool
has_more (Some hold) own_holds = nat_lt 1 own_holds
has_more None own_holds = nat_lt 0 own_holds

-- The number of open loans that the kind may have.
abbrev pub loans_allowed : Option KindRow → ℕ
loans_allowed (Some kind) = kind.loans
loans_allowed None = 0

abbrev pub period_of : Option RuleRow → ℕ
period_of (Some rule) = rule.period
period_of None = 0

abbrev pub renewals_of : Option RuleRow → ℕ
renewals_of (Some rule) = rule.renewals
renewals_of None = 0

abbrev pub rate_of : Option RuleRow → ℕ
rate_of (Some rule) = rule.rate
rate_of None = 0

abbrev pub cap_of : Option RuleRow → ℕ
cap_of (Some rule) = rule.cap
cap_of None = 0

abbrev pub grace_in : Option RuleRow → ℕ
grace_in (Some rule) = rule.grace
grace_in None = 0

-- The first possible due day: the end of the loan period.
abbrev pub period_end : View → ℕ
period_end view = view.meta.today + period_of view.rule

-- The due day, if the calendar has one, and otherwise today in its place.
abbrev pub loan_due : View → Option ℕ
loan_due view = due_from view.calendar (period_end view)

abbrev pub due_in : View → ℕ
due_in view = unwrap_or (loan_due view) view.meta.today

abbrev pub check_out_checks : View → ℕ → ℕ → List Check
check_out_checks view patron branch =
    (refusal.UnknownBranch, is_none view.calendar)
    ∷ (refusal.UnknownPatron, is_none view.patron)
    ∷ (refusal.UnknownCopy, is_none view.copy)
    ∷ (refusal.CopyWithdrawn, is_withdrawn view.copy)
    ∷ (refusal.CopyMissing, is_missing view.copy)
    ∷ (refusal.OnLoan, is_some view.loan)
    ∷ (refusal.InTransit, is_some view.transit)
    ∷ (refusal.Elsewhere, not (stands_at view.hold view.copy == branch))
    ∷ (refusal.OnHoldShelf, is_of_other view.hold patron)
    ∷ (refusal.HoldWaits, is_wanted view.hold view.first patron)
    ∷ (refusal.AlreadyHolds, has_more (filled_hold view.hold view.first) view.own_holds)
    ∷ (refusal.NoRule, is_none view.rule)
    ∷ (refusal.TooManyLoans, nat_le (loans_allowed view.kind) view.open_loans)
    ∷ (refusal.OwesTooMuch, nat_lt (debt_allowed view.kind) (owed_by view.patron))
    ∷ (refusal.NumbersUsedUp, nat_lt LAST_NUMBER view.meta.next_loan)
    ∷ (refusal.PastCalendar, is_none (loan_due view))
    ∷ []

-- The new loan, under the current rule.
abbrev pub new_loan : View → ℕ → ℕ → ℕ → ℕ → LoanRow
new_loan view patron copy branch due = record {
  loan = view.meta.next_loan;
  copy = copy;
  patron = patron;
  branch = branch;
  made = view.meta.today;
  due = due;
  period = period_of view.rule;
  renewals_left = renewals_of view.rule;
  rate = rate_of view.rule;
  cap = cap_of view.rule;
  ended = None;
  grace = grace_in view.rule;
}

abbrev pub fill_rows : Option HoldRow → List RowChange
fill_rows (Some hold) = PutHold (finished hold Filled) ∷ []
fill_rows None = []

-- The next number is given, the loan is made, and the hold that the check-out serves is filled.
abbrev pub check_out_rows : View → ℕ → ℕ → ℕ → ℕ → List RowChange
check_out_rows view patron copy branch due =
    PutMeta (record view.meta { next_loan = view.meta.next_loan + 1 }) ∷ PutLoan (new_loan view patron copy branch due)
    ∷ fill_rows (filled_hold view.hold view.first)
