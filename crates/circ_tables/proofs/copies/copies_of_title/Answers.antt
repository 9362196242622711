use Rattle.std.proofs.Common.{◌∷◌, [], refl}
use Rattle.circ_tables.specs.Cells.{number}
use Rattle.circ_tables.specs.Copies.{copies_are}
use Rattle.circ_tables.specs.Selections.{is_copy_of}
use Rattle.circ_tables.proofs.FoundLemmas.{copies_of_title_tests, copies_of_title_is}
use Rattle.circ_tables.proofs.NumberedLemmas.{lists_by}
use Rattle.circ_tables.proofs.copies.copies_of_title.Goals as goal

pub returns : goal.returns
returns g c = lists_by copies_are copies_of_title_tests _ (number c.args.title ∷ []) (is_copy_of c.args.title)
    (λ r. refl) copies_of_title_is _ _ _ _ _ (rw (c.params-to_sql.ensures, c.number.ensures.value) at c.rows_of.ensures)
