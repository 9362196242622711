use Rattle.std.proofs.Common.{◌∷◌, [], refl}
use Rattle.circ_tables.specs.Cells.{number}
use Rattle.circ_tables.specs.Transits.{transits_are}
use Rattle.circ_tables.specs.Selections.{is_transit_to_after}
use Rattle.circ_tables.proofs.FoundLemmas.{transits_to_after_tests, transits_to_after_is}
use Rattle.circ_tables.proofs.NumberedLemmas.{batches_by}
use Rattle.circ_tables.proofs.transits.transits_to_after.Goals as goal

pub returns : goal.returns
returns g c = batches_by transits_are transits_to_after_tests _ (number c.args.branch ∷ number c.args.after ∷ [])
    (is_transit_to_after c.args.branch c.args.after) (λ r. refl) transits_to_after_is _ _ _ _ _
    (rw (c.params-to_sql.ensures, c.number.ensures.value, c.params-to_sql-2.ensures, c.number-2.ensures.value) at c.rows_of.ensures)
