-- The checks and row changes of `branch`, on the rows of a view.
use Rattle.std.specs.Prelude.{ℕ, ◌==◌, ◌&&◌, not, Bool, List, [], ◌∷◌, Option, Some, None, false, bytes_eq}
use Rattle.terms.specs.declared.refusal.Refusal.TheVariants.{OtherContent, OutOfLimits}
use Rattle.terms.specs.declared.row.BranchRow.{BranchRow}
use Rattle.terms.specs.declared.command.Command.TheVariants.{Branch}
use Rattle.circ_core.specs.declared.changes.RowChange.{RowChange}
use Rattle.circ_core.specs.declared.changes.RowChange.TheVariants.{PutBranch}
use Rattle.model.specs.Checks.{Check, is_within_limits}
use Rattle.circ_core.specs.Tables.{rows_unless}

-- The branch exists with another pick-up period or name.
abbrev pub branch_differs : Option BranchRow → ℕ → List ℕ → Bool
branch_differs (Some row) pickup name = not ((row.pickup == pickup) && bytes_eq row.name name)
branch_differs None pickup name = false

abbrev pub branch_checks : Option BranchRow → ℕ → ℕ → List ℕ → List Check
branch_checks row branch pickup name =
    (OutOfLimits, not (is_within_limits (Branch branch pickup name))) ∷ (OtherContent, branch_differs row pickup name) ∷ []

-- A new branch is closed on no weekday.
abbrev pub all_open : List Bool
all_open = false ∷ false ∷ false ∷ false ∷ false ∷ false ∷ false ∷ []

abbrev pub branch_rows : Option BranchRow → ℕ → ℕ → List ℕ → List RowChange
branch_rows row branch pickup name =
    rows_unless row (PutBranch (record { branch = branch; pickup = pickup; week = all_open; name = name }) ∷ [])
