-- The checks and row changes of `withdraw`, on the rows of a view.
use Rattle.std.specs.Prelude.{List, [], ◌∷◌, is_none, is_some}
use Rattle.terms.specs.declared.refusal.Refusal.TheVariants as refusal
use Rattle.terms.specs.declared.row.Condition.TheVariants.{Withdrawn}
use Rattle.model.specs.Checks.{Check}
use Rattle.circ_core.specs.declared.changes.RowChange.{RowChange}
use Rattle.circ_core.specs.declared.views.View.{View}
use Rattle.circ_core.specs.Condition.{is_withdrawn, condition_rows}

abbrev pub withdraw_checks : View → List Check
withdraw_checks view =
    (refusal.UnknownCopy, is_none view.copy) ∷ (refusal.CopyWithdrawn, is_withdrawn view.copy) ∷ (refusal.OnLoan, is_some view.loan)
    ∷ (refusal.InTransit, is_some view.transit) ∷ (refusal.OnHoldShelf, is_some view.hold) ∷ []

abbrev pub withdraw_rows : View → List RowChange
withdraw_rows view = condition_rows view.copy Withdrawn
