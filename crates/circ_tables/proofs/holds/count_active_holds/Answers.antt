use Rattle.std.proofs.Common.{◌∷◌, [], refl}
use Rattle.circ_tables.specs.Cells.{number}
use Rattle.circ_tables.specs.Holds.{holds_are}
use Rattle.circ_tables.specs.Selections.{is_active_by}
use Rattle.circ_tables.proofs.FoundLemmas.{count_active_holds_tests, count_active_holds_is}
use Rattle.circ_tables.proofs.NumberedLemmas.{counts_by}
use Rattle.circ_tables.proofs.holds.count_active_holds.Goals as goal

pub returns : goal.returns
returns g c = counts_by holds_are count_active_holds_tests _ (number c.args.patron ∷ []) (is_active_by c.args.patron)
    (λ r. refl) count_active_holds_is _ _ _ _ (rw (c.params-to_sql.ensures, c.number.ensures.value) at c.counted.ensures)
