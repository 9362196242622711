use Rattle.std.proofs.Common.{◌∷◌, [], refl}
use Rattle.circ_tables.specs.Cells.{number}
use Rattle.circ_tables.specs.Copies.{copies_are}
use Rattle.circ_tables.specs.Selections.{is_missing_after}
use Rattle.circ_tables.proofs.FoundLemmas.{missing_copies_after_tests, missing_copies_after_is}
use Rattle.circ_tables.proofs.NumberedLemmas.{batches_by}
use Rattle.circ_tables.proofs.copies.missing_copies_after.Goals as goal

pub returns : goal.returns
returns g c = batches_by copies_are missing_copies_after_tests _ (number c.args.after ∷ [])
    (is_missing_after c.args.after) (λ r. refl) missing_copies_after_is _ _ _ _ _
    (rw (c.params-to_sql.ensures, c.number.ensures.value) at c.rows_of.ensures)
