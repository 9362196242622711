use Rattle.std.proofs.Common.{◌∷◌, [], refl}
use Rattle.circ_tables.specs.Cells.{number}
use Rattle.circ_tables.specs.Copies.{copies_are}
use Rattle.circ_tables.specs.Selections.{is_copy_of_after}
use Rattle.circ_tables.proofs.FoundLemmas.{copies_of_title_after_tests, copies_of_title_after_is}
use Rattle.circ_tables.proofs.NumberedLemmas.{batches_by}
use Rattle.circ_tables.proofs.copies.copies_of_title_after.Goals as goal

pub returns : goal.returns
returns g c = batches_by copies_are copies_of_title_after_tests _ (number c.args.title ∷ number c.args.after ∷ [])
    (is_copy_of_after c.args.title c.args.after) (λ r. refl) copies_of_title_after_is _ _ _ _ _
    (rw (c.params-to_sql.ensures, c.number.ensures.value, c.params-to_sql-2.ensures, c.number-2.ensures.value) at c.rows_of.ensures)
