use Rattle.sql_maps.specs.Maps.{FirstOfBy}
use Rattle.circ_tables.specs.Holds.{holds, holds_are}
use Rattle.circ_tables.specs.Selections.{BeginsBefore, Waits}
use Rattle.circ_tables.specs.Shape.{holds_place, transits_place}
use Rattle.circ_tables.proofs.LineLemmas.{waiting_found, waiting_plain}
use Rattle.circ_tables.proofs.ReadingLemmas.{selects_of}
use Rattle.circ_tables.proofs.ShownLemmas.{are_encoded}
use Rattle.circ_tables.proofs.holds.first_waiting.Goals as goal

pub returns : goal.returns
returns g c =
    selects_of holds _ waiting_plain _ (λ maps. FirstOfBy BeginsBefore (maps holds_place) (Waits (maps transits_place) c.args.title))
    (waiting_found c.args.title) (λ maps v found. found.0)
    (are_encoded holds_are) _ _ _ _ (rw (c.params-to_sql.ensures, c.number.ensures.value) at c.row_of.ensures)
