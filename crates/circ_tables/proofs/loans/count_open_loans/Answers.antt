use Rattle.std.proofs.Common.{◌∷◌, [], refl}
use Rattle.circ_tables.specs.Cells.{number}
use Rattle.circ_tables.specs.Loans.{loans_are}
use Rattle.circ_tables.specs.Selections.{is_open_by}
use Rattle.circ_tables.proofs.FoundLemmas.{count_open_loans_tests, count_open_loans_is}
use Rattle.circ_tables.proofs.NumberedLemmas.{counts_by}
use Rattle.circ_tables.proofs.loans.count_open_loans.Goals as goal

pub returns : goal.returns
returns g c = counts_by loans_are count_open_loans_tests _ (number c.args.patron ∷ []) (is_open_by c.args.patron)
    (λ r. refl) count_open_loans_is _ _ _ _ (rw (c.params-to_sql.ensures, c.number.ensures.value) at c.counted.ensures)
