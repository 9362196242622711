-- Where a copy that is handed in goes, on the rows of a view.
use Rattle.std.specs.Prelude.{ℕ, ◌+◌, ◌==◌, true, false, List, [], ◌∷◌, Option, Some, None, unwrap_or}
use Rattle.terms.specs.declared.reply.Routed.{Routed}
use Rattle.terms.specs.declared.reply.Routed.TheVariants as routed
use Rattle.terms.specs.declared.row.BranchRow.{BranchRow}
use Rattle.terms.specs.declared.row.CopyRow.{CopyRow}
use Rattle.terms.specs.declared.row.HoldRow.{HoldRow}
use Rattle.terms.specs.declared.row.HoldState.TheVariants.{Ready}
use Rattle.circ_core.specs.declared.changes.RowChange.{RowChange}
use Rattle.circ_core.specs.declared.changes.RowChange.TheVariants.{PutHold, PutTransit}
use Rattle.circ_core.specs.declared.routing.Course.{Course}
use Rattle.circ_core.specs.declared.routing.Course.TheVariants.{HoldShelf, Shelf, Transit}
use Rattle.circ_core.specs.declared.views.View.{View}
use Rattle.circ_core.specs.DueDay.{due_from}

-- ---- the course of a copy

-- The hold that the copy serves: the one that it travels for, else the first in line.
abbrev pub served : Option HoldRow → Option HoldRow → Option HoldRow
served (Some hold) first = Some hold
served None first = first

-- To the pick-up branch of the hold that it serves, else home; if it is there already, it stays.
abbrev pub course_for : ℕ → ℕ → Option HoldRow → Course
course_for home branch (Some hold) = elim (hold.branch == branch) [ true ↦ HoldShelf hold | false ↦ Transit hold.branch (Some hold.hold) ]
course_for home branch None = elim (home == branch) [ true ↦ Shelf | false ↦ Transit home None ]

abbrev pub course_of : ℕ → Option HoldRow → Option HoldRow → ℕ → Course
course_of home coming first branch = course_for home branch (served coming first)

-- The home branch and number of a copy, 0 if there is none.
abbrev pub home_in : Option CopyRow → ℕ
home_in (Some copy) = copy.home
home_in None = 0

abbrev pub number_in : Option CopyRow → ℕ
number_in (Some copy) = copy.copy
number_in None = 0

-- The place in the reply.
abbrev pub routed_by : Course → ℕ → ℕ → Routed
routed_by (HoldShelf hold) branch until = routed.HoldShelf hold.hold branch until
routed_by Shelf branch until = routed.Shelf branch
routed_by (Transit goal hold) branch until = routed.Transit goal hold

-- ---- the shelf limit

abbrev pub pickup_of : Option BranchRow → ℕ
pickup_of (Some row) = row.pickup
pickup_of None = 0

-- The limit of a hold that becomes ready: the least open day from the end of the pick-up period, if the
-- calendar has one. A copy that goes elsewhere needs none; today is used.
unfoldable pub shelf_limit : Course → View → Option ℕ
shelf_limit (HoldShelf hold) view = due_from view.calendar (view.meta.today + pickup_of view.branch)
shelf_limit Shelf view = Some view.meta.today
shelf_limit (Transit goal hold) view = Some view.meta.today

abbrev pub limit_in_view : Course → View → ℕ
limit_in_view course view = unwrap_or (shelf_limit course view) view.meta.today

-- ---- the rows that change

-- The row of a hold that becomes ready: it names the copy and the shelf limit.
abbrev pub readied : HoldRow → ℕ → ℕ → HoldRow
readied hold copy until = record hold { state = Ready; copy = Some copy; limit_day = Some until }

-- The copy's arrival: the hold becomes ready, or the copy travels.
abbrev pub arrival_rows : Course → ℕ → ℕ → List RowChange
arrival_rows (HoldShelf hold) copy until = PutHold (readied hold copy until) ∷ []
arrival_rows Shelf copy until = []
arrival_rows (Transit goal hold) copy until = PutTransit (record { copy = copy; goal = goal; hold = hold }) ∷ []
