use Rattle.std.proofs.Common.{◌∷◌, [], refl}
use Rattle.circ_tables.specs.Cells.{number}
use Rattle.circ_tables.specs.Loans.{loans_are}
use Rattle.circ_tables.specs.Selections.{is_open_of}
use Rattle.circ_tables.proofs.FoundLemmas.{open_loan_of_tests, open_loan_of_is}
use Rattle.circ_tables.proofs.NumberedLemmas.{selects_by}
use Rattle.circ_tables.proofs.loans.open_loan_of.Goals as goal

pub returns : goal.returns
returns g c = selects_by loans_are open_loan_of_tests _ (number c.args.copy ∷ []) (is_open_of c.args.copy)
    (λ r. refl) open_loan_of_is _ _ _ _ (rw (c.params-to_sql.ensures, c.number.ensures.value) at c.row_of.ensures)
