use Rattle.std.proofs.Common.{◌∷◌, [], refl}
use Rattle.circ_tables.specs.Cells.{number}
use Rattle.circ_tables.specs.Loans.{loans_are}
use Rattle.circ_tables.specs.Selections.{is_overdue_after}
use Rattle.circ_tables.proofs.FoundLemmas.{overdue_loans_after_tests, overdue_loans_after_is}
use Rattle.circ_tables.proofs.NumberedLemmas.{batches_by}
use Rattle.circ_tables.proofs.loans.overdue_loans_after.Goals as goal

pub returns : goal.returns
returns g c =
    batches_by loans_are overdue_loans_after_tests _ (number c.args.branch ∷ number c.args.day ∷ number c.args.after ∷ [])
    (is_overdue_after c.args.branch c.args.day c.args.after) (λ r. refl) overdue_loans_after_is _ _ _ _ _
    (rw (
      c.params-to_sql.ensures,
      c.number.ensures.value,
      c.params-to_sql-2.ensures,
      c.number-2.ensures.value,
      c.params-to_sql-3.ensures,
      c.number-3.ensures.value,
    ) at c.rows_of.ensures)
