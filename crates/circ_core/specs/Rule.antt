-- The checks and row changes of `rule`, on the rows of a view.
use Rattle.std.specs.Prelude.{ℕ, not, List, [], ◌∷◌, Option, is_none}
use Rattle.terms.specs.declared.refusal.Refusal.TheVariants.{UnknownKind, OutOfLimits}
use Rattle.terms.specs.declared.row.KindRow.{KindRow}
use Rattle.terms.specs.declared.command.Command.TheVariants.{Rule}
use Rattle.circ_core.specs.declared.changes.RowChange.{RowChange}
use Rattle.circ_core.specs.declared.changes.RowChange.TheVariants.{PutRule}
use Rattle.model.specs.Checks.{Check, is_within_limits}

abbrev pub rule_checks : Option KindRow → ℕ → ℕ → ℕ → ℕ → ℕ → ℕ → List Check
rule_checks row kind copy_kind period renewals rate cap =
    (OutOfLimits, not (is_within_limits (Rule kind copy_kind period renewals rate cap))) ∷ (UnknownKind, is_none row) ∷ []

-- The rule is set, with no grace days.
abbrev pub rule_rows : ℕ → ℕ → ℕ → ℕ → ℕ → ℕ → List RowChange
rule_rows kind copy_kind period renewals rate cap =
    PutRule (record { kind = kind; copy_kind = copy_kind; period = period; renewals = renewals; rate = rate; cap = cap; grace = 0 }) ∷ []
