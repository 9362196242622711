use Rattle.std.proofs.Common.{◌∷◌, [], refl}
use Rattle.circ_tables.specs.Cells.{number}
use Rattle.circ_tables.specs.Holds.{holds_are}
use Rattle.circ_tables.specs.Selections.{is_waiting_for_after}
use Rattle.circ_tables.proofs.FoundLemmas.{waiting_holds_for_after_tests, waiting_holds_for_after_is}
use Rattle.circ_tables.proofs.NumberedLemmas.{batches_by}
use Rattle.circ_tables.proofs.holds.waiting_holds_for_after.Goals as goal

pub returns : goal.returns
returns g c = batches_by holds_are waiting_holds_for_after_tests _ (number c.args.title ∷ number c.args.after ∷ [])
    (is_waiting_for_after c.args.title c.args.after) (λ r. refl) waiting_holds_for_after_is _ _ _ _ _
    (rw (c.params-to_sql.ensures, c.number.ensures.value, c.params-to_sql-2.ensures, c.number-2.ensures.value) at c.rows_of.ensures)
