use Rattle.sql_maps.specs.Maps.{FirstOf}
use Rattle.circ_tables.specs.Holds.{holds, holds_are}
use Rattle.circ_tables.specs.Selections.{WaitsSince}
use Rattle.circ_tables.specs.Shape.{holds_place, transits_place}
use Rattle.circ_tables.proofs.LineLemmas.{begun_found, begun_plain}
use Rattle.circ_tables.proofs.ReadingLemmas.{selects_of}
use Rattle.circ_tables.proofs.ShownLemmas.{are_encoded}
use Rattle.circ_tables.proofs.holds.first_begun.Goals as goal

pub returns : goal.returns
returns g c =
    selects_of holds _ begun_plain _ (λ maps. FirstOf (maps holds_place) (WaitsSince (maps transits_place) c.args.title c.args.today))
    (begun_found c.args.title c.args.today) (λ maps v found. found.0)
    (are_encoded holds_are) _ _ _ _
    (rw (c.params-to_sql.ensures, c.number.ensures.value, c.params-to_sql-2.ensures, c.number-2.ensures.value) at c.row_of.ensures)
