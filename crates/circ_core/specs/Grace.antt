-- The checks and row changes of `grace`, on the rows of a view.
use Rattle.std.specs.Prelude.{ℕ, not, List, [], ◌∷◌, Option, Some, None, is_none}
use Rattle.terms.specs.declared.refusal.Refusal.TheVariants.{NoRule, OutOfLimits}
use Rattle.terms.specs.declared.row.RuleRow.{RuleRow}
use Rattle.terms.specs.declared.command.Command.TheVariants.{Grace}
use Rattle.circ_core.specs.declared.changes.RowChange.{RowChange}
use Rattle.circ_core.specs.declared.changes.RowChange.TheVariants.{PutRule}
use Rattle.model.specs.Checks.{Check, is_within_limits}

abbrev pub grace_checks : Option RuleRow → ℕ → ℕ → ℕ → List Check
grace_checks row kind copy_kind days =
    (OutOfLimits, not (is_within_limits (Grace kind copy_kind days))) ∷ (NoRule, is_none row) ∷ []

-- The rule has these grace days, and is otherwise unchanged.
abbrev pub grace_rows : Option RuleRow → ℕ → List RowChange
grace_rows (Some rule) days = PutRule (record rule { grace = days }) ∷ []
grace_rows None days = []
