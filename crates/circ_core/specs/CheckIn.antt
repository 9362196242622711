-- The checks, row changes and reply of `check-in`, on the rows of a view.
use Rattle.std.specs.Prelude.{ℕ, List, [], ◌∷◌, ◌++◌, Option, Some, None, is_none, is_some}
use Rattle.terms.specs.declared.refusal.Refusal.TheVariants.{UnknownBranch, UnknownCopy, CopyWithdrawn, OnHoldShelf, NumbersUsedUp, PastCalendar}
use Rattle.terms.specs.declared.reply.Reply.{Reply}
use Rattle.terms.specs.declared.reply.Reply.TheVariants.{CheckedIn}
use Rattle.terms.specs.declared.row.Condition.TheVariants.{Present, Missing}
use Rattle.terms.specs.declared.row.CopyRow.{CopyRow}
use Rattle.terms.specs.declared.row.LoanRow.{LoanRow}
use Rattle.terms.specs.declared.row.TransitRow.{TransitRow}
use Rattle.circ_core.specs.declared.changes.RowChange.{RowChange}
use Rattle.circ_core.specs.declared.changes.RowChange.TheVariants.{PutCopy, TakeTransit}
use Rattle.circ_core.specs.declared.routing.Course.{Course}
use Rattle.circ_core.specs.declared.routing.Course.TheVariants.{Transit}
use Rattle.circ_core.specs.declared.views.View.{View}
use Rattle.circ_core.specs.Ending.{fine_due, lacks_numbers, end_rows, charge_rows}
use Rattle.circ_core.specs.Condition.{is_withdrawn}
use Rattle.circ_core.specs.Routing.{course_of, home_in, limit_in_view, routed_by, arrival_rows, shelf_limit}
use Rattle.model.specs.Checks.{Check}

-- The fine of the copy's loan, if it ends today.
abbrev pub check_in_fine : View → ℕ
check_in_fine view = fine_due view.loan view.lender view.meta.today

-- The copy goes to the hold that it travels for, else to the first in line, else home.
abbrev pub check_in_course : View → ℕ → Course
check_in_course view branch = course_of (home_in view.copy) view.coming view.first branch

-- The limit of the hold that becomes ready.
abbrev pub check_in_limit : View → ℕ → ℕ
check_in_limit view branch = limit_in_view (check_in_course view branch) view

abbrev pub check_in_checks : View → ℕ → List Check
check_in_checks view branch =
    (UnknownBranch, is_none view.branch) ∷ (UnknownCopy, is_none view.copy) ∷ (CopyWithdrawn, is_withdrawn view.copy)
    ∷ (OnHoldShelf, is_some view.hold) ∷ (NumbersUsedUp, lacks_numbers view.meta (check_in_fine view) 0)
    ∷ (PastCalendar, is_none (shelf_limit (check_in_course view branch) view)) ∷ []

-- Its transit ends, unless the copy is sent on.
abbrev pub over_rows : Course → ℕ → List RowChange
over_rows (Transit goal hold) copy = []
over_rows _ copy = TakeTransit copy ∷ []

-- A missing copy is present again.
abbrev pub found_rows : Option CopyRow → List RowChange
found_rows (Some row) = elim row.condition [ Missing ↦ PutCopy (record row { condition = Present }) ∷ [] | _ ↦ [] ]
found_rows None = []

-- What the copy leaves: its loan or transit ends, or it is found again.
abbrev pub left_rows : Option LoanRow → Option TransitRow → Option CopyRow → Course → ℕ → ℕ → List RowChange
left_rows (Some loan) transit row course copy today = end_rows (Some loan) today
left_rows None (Some transit) row course copy today = over_rows course copy
left_rows None None row course copy today = found_rows row

-- The copy leaves its old place and arrives at the new one, and the borrower is charged the fine.
abbrev pub check_in_rows : View → ℕ → ℕ → ℕ → List RowChange
check_in_rows view copy branch until =
    (left_rows view.loan view.transit view.copy (check_in_course view branch) copy view.meta.today ++ arrival_rows (check_in_course view branch) copy until)
    ++ charge_rows view.meta view.patron view.loan (check_in_fine view) 0

abbrev pub check_in_reply : View → ℕ → ℕ → Reply
check_in_reply view branch until = CheckedIn (check_in_fine view) (routed_by (check_in_course view branch) branch until)
