-- The checks, row changes and reply of `unshelve` and `unshelve-cancelled`, on the rows of a view.
use Rattle.std.specs.Prelude.{ℕ, nat_le, not, Bool, true, false, List, [], ◌∷◌, ◌++◌, Option, Some, None, is_none, unwrap_or}
use Rattle.terms.specs.declared.refusal.Refusal.TheVariants.{UnknownHold, WrongHoldState, LimitNotPassed, PastCalendar}
use Rattle.terms.specs.declared.reply.Reply.{Reply}
use Rattle.terms.specs.declared.reply.Reply.TheVariants.{Moved}
use Rattle.terms.specs.declared.row.HoldRow.{HoldRow}
use Rattle.terms.specs.declared.row.HoldState.{HoldState}
use Rattle.terms.specs.declared.row.HoldState.TheVariants.{Ready}
use Rattle.circ_core.specs.declared.changes.RowChange.{RowChange}
use Rattle.circ_core.specs.declared.changes.RowChange.TheVariants.{PutHold}
use Rattle.circ_core.specs.declared.routing.Course.{Course}
use Rattle.circ_core.specs.declared.views.View.{View}
use Rattle.circ_core.specs.Holds.{finished}
use Rattle.circ_core.specs.Routing.{course_of, home_in, number_in, limit_in_view, routed_by, arrival_rows, shelf_limit}
use Rattle.model.specs.Checks.{Check}

-- The hold is ready.
abbrev pub is_ready_row : Option HoldRow → Bool
is_ready_row (Some row) = elim row.state [ Ready ↦ true | _ ↦ false ]
is_ready_row None = false

-- The shelf limit of the hold, 0 if it has none.
abbrev pub limit_in : Option HoldRow → ℕ
limit_in (Some row) = unwrap_or row.limit_day 0
limit_in None = 0

abbrev pub pickup_branch : Option HoldRow → ℕ
pickup_branch (Some row) = row.branch
pickup_branch None = 0

-- The copy travels for no hold: it goes to the first in line, else home.
abbrev pub course_unshelved : View → Course
course_unshelved view = course_of (home_in view.copy) None view.first (pickup_branch view.hold)

-- The limit of the hold that becomes ready next.
abbrev pub next_limit : View → ℕ
next_limit view = limit_in_view (course_unshelved view) view

-- The patron may take the copy up to the shelf limit; the desk unshelves it after that day.
abbrev pub unshelve_checks : View → List Check
unshelve_checks view =
    (UnknownHold, is_none view.hold) ∷ (WrongHoldState, not (is_ready_row view.hold)) ∷ (LimitNotPassed, nat_le view.meta.today (limit_in view.hold))
    ∷ (PastCalendar, is_none (shelf_limit (course_unshelved view) view)) ∷ []

abbrev pub unshelve_cancelled_checks : View → List Check
unshelve_cancelled_checks view =
    (UnknownHold, is_none view.hold) ∷ (WrongHoldState, not (is_ready_row view.hold))
    ∷ (PastCalendar, is_none (shelf_limit (course_unshelved view) view)) ∷ []

-- The hold ends.
abbrev pub ended_hold : Option HoldRow → HoldState → List RowChange
ended_hold (Some hold) ends = PutHold (finished hold ends) ∷ []
ended_hold None ends = []

-- The hold ends, and the copy arrives elsewhere.
abbrev pub unshelve_rows : View → HoldState → ℕ → List RowChange
unshelve_rows view ends until = ended_hold view.hold ends ++ arrival_rows (course_unshelved view) (number_in view.copy) until

abbrev pub unshelve_reply : View → ℕ → Reply
unshelve_reply view until = Moved (routed_by (course_unshelved view) (pickup_branch view.hold) until)
