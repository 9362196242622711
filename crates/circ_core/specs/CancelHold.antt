-- The checks and row changes of `cancel-hold`, on the rows of a view.
use Rattle.std.specs.Prelude.{not, Bool, true, false, List, [], ◌∷◌, ◌++◌, Option, Some, None, is_none}
use Rattle.terms.specs.declared.refusal.Refusal.TheVariants as refusal
use Rattle.terms.specs.declared.row.HoldRow.{HoldRow}
use Rattle.terms.specs.declared.row.HoldState.TheVariants.{Waiting, Cancelled}
use Rattle.terms.specs.declared.row.TransitRow.{TransitRow}
use Rattle.model.specs.Checks.{Check}
use Rattle.circ_core.specs.declared.changes.RowChange.{RowChange}
use Rattle.circ_core.specs.declared.changes.RowChange.TheVariants.{PutHold, PutTransit}
use Rattle.circ_core.specs.declared.views.View.{View}
use Rattle.circ_core.specs.Holds.{finished}

-- The hold waits.
abbrev pub waits : Option HoldRow → Bool
waits (Some row) = elim row.state [ Waiting ↦ true | _ ↦ false ]
waits None = false

abbrev pub cancel_hold_checks : View → List Check
cancel_hold_checks view = (refusal.UnknownHold, is_none view.hold) ∷ (refusal.WrongHoldState, not (waits view.hold)) ∷ []

abbrev pub cancelled_rows : Option HoldRow → List RowChange
cancelled_rows (Some row) = PutHold (finished row Cancelled) ∷ []
cancelled_rows None = []

-- A copy that travels for the hold travels on to the same branch for no hold.
abbrev pub let_go_rows : Option TransitRow → List RowChange
let_go_rows (Some row) = PutTransit (record row { hold = None }) ∷ []
let_go_rows None = []

abbrev pub cancel_hold_rows : View → List RowChange
cancel_hold_rows view = cancelled_rows view.hold ++ let_go_rows view.transit
