-- The checks and row changes of `amend-branch`, on the rows of a view.
use Rattle.std.specs.Prelude.{ℕ, not, List, [], ◌∷◌, Option, Some, None, is_none}
use Rattle.terms.specs.declared.refusal.Refusal.TheVariants.{UnknownBranch, OutOfLimits}
use Rattle.terms.specs.declared.row.BranchRow.{BranchRow}
use Rattle.terms.specs.declared.command.Command.TheVariants.{AmendBranch}
use Rattle.circ_core.specs.declared.changes.RowChange.{RowChange}
use Rattle.circ_core.specs.declared.changes.RowChange.TheVariants.{PutBranch}
use Rattle.model.specs.Checks.{Check, is_within_limits}

abbrev pub amend_branch_checks : Option BranchRow → ℕ → ℕ → List ℕ → List Check
amend_branch_checks row branch pickup name =
    (OutOfLimits, not (is_within_limits (AmendBranch branch pickup name))) ∷ (UnknownBranch, is_none row) ∷ []

-- The branch has this pick-up period and name, and is otherwise unchanged.
abbrev pub amend_branch_rows : Option BranchRow → ℕ → List ℕ → List RowChange
amend_branch_rows (Some row) pickup name = PutBranch (record row { pickup = pickup; name = name }) ∷ []
amend_branch_rows None pickup name = []
