use Rattle.std.proofs.Common.{◌∷◌, [], refl}
use Rattle.circ_tables.specs.Cells.{number}
use Rattle.circ_tables.specs.Holds.{holds_are}
use Rattle.circ_tables.specs.Selections.{is_ready_after}
use Rattle.circ_tables.proofs.FoundLemmas.{ready_holds_after_tests, ready_holds_after_is}
use Rattle.circ_tables.proofs.NumberedLemmas.{batches_by}
use Rattle.circ_tables.proofs.holds.ready_holds_after.Goals as goal

pub returns : goal.returns
returns g c = batches_by holds_are ready_holds_after_tests _ (number c.args.branch ∷ number c.args.after ∷ [])
    (is_ready_after c.args.branch c.args.after) (λ r. refl) ready_holds_after_is _ _ _ _ _
    (rw (c.params-to_sql.ensures, c.number.ensures.value, c.params-to_sql-2.ensures, c.number-2.ensures.value) at c.rows_of.ensures)
