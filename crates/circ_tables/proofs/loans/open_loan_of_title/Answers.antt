use Rattle.sql_maps.specs.Maps.{FirstOf}
use Rattle.circ_tables.specs.Loans.{loans, loans_are}
use Rattle.circ_tables.specs.Selections.{LendsTitle}
use Rattle.circ_tables.specs.Shape.{copies_place, loans_place}
use Rattle.circ_tables.proofs.TitleLemmas.{title_found, title_plain}
use Rattle.circ_tables.proofs.ReadingLemmas.{selects_of}
use Rattle.circ_tables.proofs.ShownLemmas.{are_encoded}
use Rattle.circ_tables.proofs.loans.open_loan_of_title.Goals as goal

pub returns : goal.returns
returns g c =
    selects_of loans _ title_plain _ (λ maps. FirstOf (maps loans_place) (LendsTitle (maps copies_place) c.args.patron c.args.title))
    (title_found c.args.patron c.args.title) (λ maps v found. found.0)
    (are_encoded loans_are) _ _ _ _
    (rw (c.params-to_sql.ensures, c.number.ensures.value, c.params-to_sql-2.ensures, c.number-2.ensures.value) at c.row_of.ensures)
