use Rattle.std.proofs.Common.{◌∷◌, [], refl}
use Rattle.circ_tables.specs.Cells.{number}
use Rattle.circ_tables.specs.Patrons.{patrons_are}
use Rattle.circ_tables.specs.Selections.{is_debtor_after}
use Rattle.circ_tables.proofs.FoundLemmas.{debtors_after_tests, debtors_after_is}
use Rattle.circ_tables.proofs.NumberedLemmas.{batches_by}
use Rattle.circ_tables.proofs.patrons.debtors_after.Goals as goal

pub returns : goal.returns
returns g c = batches_by patrons_are debtors_after_tests _ (number c.args.after ∷ [])
    (is_debtor_after c.args.after) (λ r. refl) debtors_after_is _ _ _ _ _
    (rw (c.params-to_sql.ensures, c.number.ensures.value) at c.rows_of.ensures)
