use Rattle.sql_maps.specs.Maps.{FirstOf}
use Rattle.circ_tables.specs.Copies.{copies, copies_are}
use Rattle.circ_tables.specs.Selections.{StandsFree}
use Rattle.circ_tables.specs.Shape.{copies_place, holds_place, loans_place, transits_place}
use Rattle.circ_tables.proofs.ShelfLemmas.{shelf_found, shelf_plain}
use Rattle.circ_tables.proofs.ReadingLemmas.{selects_of}
use Rattle.circ_tables.proofs.ShownLemmas.{are_encoded}
use Rattle.circ_tables.proofs.copies.least_shelved.Goals as goal

pub returns : goal.returns
returns g c =
    selects_of copies _ shelf_plain _
    (λ maps. FirstOf (maps copies_place) (StandsFree (maps transits_place) (maps holds_place) (maps loans_place) c.args.title c.args.branch))
    (shelf_found c.args.title c.args.branch) (λ maps v found. found.0)
    (are_encoded copies_are) _ _ _ _
    (rw (c.params-to_sql.ensures, c.number.ensures.value, c.params-to_sql-2.ensures, c.number-2.ensures.value) at c.row_of.ensures)
