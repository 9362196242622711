use Rattle.std.proofs.Common.{◌∷◌, [], refl}
use Rattle.circ_tables.specs.Cells.{number}
use Rattle.circ_tables.specs.Transits.{transits_are}
use Rattle.circ_tables.specs.Selections.{travels_for}
use Rattle.circ_tables.proofs.FoundLemmas.{transit_for_tests, transit_for_is}
use Rattle.circ_tables.proofs.NumberedLemmas.{selects_by}
use Rattle.circ_tables.proofs.transits.transit_for.Goals as goal

pub returns : goal.returns
returns g c = selects_by transits_are transit_for_tests _ (number c.args.hold ∷ []) (travels_for c.args.hold)
    (λ r. refl) transit_for_is _ _ _ _ (rw (c.params-to_sql.ensures, c.number.ensures.value) at c.row_of.ensures)
