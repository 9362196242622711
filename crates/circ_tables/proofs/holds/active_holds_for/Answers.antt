use Rattle.std.proofs.Common.{◌∷◌, [], refl}
use Rattle.circ_tables.specs.Cells.{number}
use Rattle.circ_tables.specs.Holds.{holds_are}
use Rattle.circ_tables.specs.Selections.{is_active_for}
use Rattle.circ_tables.proofs.FoundLemmas.{active_holds_for_tests, active_holds_for_is}
use Rattle.circ_tables.proofs.NumberedLemmas.{lists_by}
use Rattle.circ_tables.proofs.holds.active_holds_for.Goals as goal

pub returns : goal.returns
returns g c = lists_by holds_are active_holds_for_tests _ (number c.args.title ∷ []) (is_active_for c.args.title)
    (λ r. refl) active_holds_for_is _ _ _ _ _ (rw (c.params-to_sql.ensures, c.number.ensures.value) at c.rows_of.ensures)
