-- The checks and row changes of `kind`.
use Rattle.std.specs.Prelude.{ℕ, not, List, [], ◌∷◌}
use Rattle.terms.specs.declared.refusal.Refusal.TheVariants.{OutOfLimits}
use Rattle.terms.specs.declared.command.Command.TheVariants.{Kind}
use Rattle.circ_core.specs.declared.changes.RowChange.{RowChange}
use Rattle.circ_core.specs.declared.changes.RowChange.TheVariants.{PutKind}
use Rattle.model.specs.Checks.{Check, is_within_limits}

abbrev pub kind_checks : ℕ → ℕ → ℕ → ℕ → List Check
kind_checks kind loans holds debt = (OutOfLimits, not (is_within_limits (Kind kind loans holds debt))) ∷ []

abbrev pub kind_rows : ℕ → ℕ → ℕ → ℕ → List RowChange
kind_rows kind loans holds debt = PutKind (record { kind = kind; loans = loans; holds = holds; debt = debt }) ∷ []
