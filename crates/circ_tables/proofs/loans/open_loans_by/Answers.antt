use Rattle.std.proofs.Common.{◌∷◌, [], refl}
use Rattle.circ_tables.specs.Cells.{number}
use Rattle.circ_tables.specs.Loans.{loans_are}
use Rattle.circ_tables.specs.Selections.{is_open_by}
use Rattle.circ_tables.proofs.FoundLemmas.{open_loans_by_tests, open_loans_by_is}
use Rattle.circ_tables.proofs.NumberedLemmas.{lists_by}
use Rattle.circ_tables.proofs.loans.open_loans_by.Goals as goal

pub returns : goal.returns
returns g c = lists_by loans_are open_loans_by_tests _ (number c.args.patron ∷ []) (is_open_by c.args.patron)
    (λ r. refl) open_loans_by_is _ _ _ _ _ (rw (c.params-to_sql.ensures, c.number.ensures.value) at c.rows_of.ensures)
