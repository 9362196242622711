-- The checks and row changes of `rehome`, on the rows of a view.
use Rattle.std.specs.Prelude.{ℕ, ◌==◌, ◌&&◌, not, Bool, true, false, List, [], ◌∷◌, Option, Some, None, is_none}
use Rattle.terms.specs.declared.refusal.Refusal.TheVariants as refusal
use Rattle.terms.specs.declared.row.CopyRow.{CopyRow}
use Rattle.circ_core.specs.declared.changes.RowChange.{RowChange}
use Rattle.circ_core.specs.declared.changes.RowChange.TheVariants.{PutCopy, PutTransit}
use Rattle.circ_core.specs.declared.views.View.{View}
use Rattle.circ_core.specs.Condition.{is_missing, is_withdrawn}
use Rattle.model.specs.Checks.{Check}

abbrev pub rehome_checks : View → List Check
rehome_checks view =
    (refusal.UnknownBranch, is_none view.branch) ∷ (refusal.UnknownCopy, is_none view.copy) ∷ (refusal.CopyWithdrawn, is_withdrawn view.copy) ∷ []

-- A copy that isn't withdrawn is on the shelf of its home: it isn't missing, and no row claims it.
abbrev pub is_on_shelf : View → Bool
is_on_shelf view = not (is_missing view.copy) && (is_none view.loan && (is_none view.transit && is_none view.hold))

-- The copy has another home than this branch.
abbrev pub has_other_home : Option CopyRow → ℕ → Bool
has_other_home (Some row) branch = not (row.home == branch)
has_other_home None branch = false

-- The copy that is sent is in transit to the branch, for no hold.
abbrev pub sent_rows : Bool → ℕ → ℕ → List RowChange
sent_rows true copy branch = PutTransit (record { copy = copy; goal = branch; hold = None }) ∷ []
sent_rows false copy branch = []

-- The copy has this home, and is otherwise unchanged; it may be sent there.
abbrev pub rehomed_rows : Option CopyRow → Bool → ℕ → List RowChange
rehomed_rows (Some row) sent branch = PutCopy (record row { home = branch }) ∷ sent_rows sent row.copy branch
rehomed_rows None sent branch = []

-- A copy on the shelf of another home is sent to the new one.
abbrev pub rehome_rows : View → ℕ → List RowChange
rehome_rows view branch = rehomed_rows view.copy (is_on_shelf view && has_other_home view.copy branch) branch
