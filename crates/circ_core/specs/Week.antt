-- The checks and row changes of `week`, on the rows of a view.
use Rattle.std.specs.Prelude.{not, Bool, List, [], ◌∷◌, Option, Some, None, is_none}
use Rattle.std.specs.List.{list_any}
use Rattle.terms.specs.declared.refusal.Refusal.TheVariants.{UnknownBranch, AllWeekdaysClosed}
use Rattle.terms.specs.declared.row.BranchRow.{BranchRow}
use Rattle.circ_core.specs.declared.changes.RowChange.{RowChange}
use Rattle.circ_core.specs.declared.changes.RowChange.TheVariants.{PutBranch}
use Rattle.model.specs.Checks.{Check}

abbrev pub week_checks : Option BranchRow → List Bool → List Check
week_checks row closed = (UnknownBranch, is_none row) ∷ (AllWeekdaysClosed, not (list_any (λ b. not b) closed)) ∷ []

abbrev pub week_rows : Option BranchRow → List Bool → List RowChange
week_rows (Some row) closed = PutBranch (record row { week = closed }) ∷ []
week_rows None closed = []
