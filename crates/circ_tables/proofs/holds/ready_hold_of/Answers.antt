use Rattle.std.proofs.Common.{◌∷◌, [], refl}
use Rattle.circ_tables.specs.Cells.{number}
use Rattle.circ_tables.specs.Holds.{holds_are}
use Rattle.circ_tables.specs.Selections.{names_copy}
use Rattle.circ_tables.proofs.FoundLemmas.{ready_hold_of_tests, ready_hold_of_is}
use Rattle.circ_tables.proofs.NumberedLemmas.{selects_by}
use Rattle.circ_tables.proofs.holds.ready_hold_of.Goals as goal

pub returns : goal.returns
returns g c = selects_by holds_are ready_hold_of_tests _ (number c.args.copy ∷ []) (names_copy c.args.copy)
    (λ r. refl) ready_hold_of_is _ _ _ _ (rw (c.params-to_sql.ensures, c.number.ensures.value) at c.row_of.ensures)
