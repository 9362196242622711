use Rattle.std.proofs.Common.{◌∷◌, [], refl}
use Rattle.circ_tables.specs.Cells.{number}
use Rattle.circ_tables.specs.Loans.{loans_are}
use Rattle.circ_tables.specs.Selections.{is_loan_of_after}
use Rattle.circ_tables.proofs.FoundLemmas.{loans_of_copy_after_tests, loans_of_copy_after_is}
use Rattle.circ_tables.proofs.NumberedLemmas.{batches_by}
use Rattle.circ_tables.proofs.loans.loans_of_copy_after.Goals as goal

pub returns : goal.returns
returns g c = batches_by loans_are loans_of_copy_after_tests _ (number c.args.copy ∷ number c.args.after ∷ [])
    (is_loan_of_after c.args.copy c.args.after) (λ r. refl) loans_of_copy_after_is _ _ _ _ _
    (rw (c.params-to_sql.ensures, c.number.ensures.value, c.params-to_sql-2.ensures, c.number-2.ensures.value) at c.rows_of.ensures)
