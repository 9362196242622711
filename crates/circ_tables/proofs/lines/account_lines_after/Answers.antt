use Rattle.std.proofs.Common.{◌∷◌, [], refl}
use Rattle.circ_tables.specs.Cells.{number}
use Rattle.circ_tables.specs.Lines.{lines_are}
use Rattle.circ_tables.specs.Selections.{is_account_line_after}
use Rattle.circ_tables.proofs.FoundLemmas.{account_lines_after_tests, account_lines_after_is}
use Rattle.circ_tables.proofs.NumberedLemmas.{batches_by}
use Rattle.circ_tables.proofs.lines.account_lines_after.Goals as goal

pub returns : goal.returns
returns g c = batches_by lines_are account_lines_after_tests _ (number c.args.patron ∷ number c.args.after ∷ [])
    (is_account_line_after c.args.patron c.args.after) (λ r. refl) account_lines_after_is _ _ _ _ _
    (rw (c.params-to_sql.ensures, c.number.ensures.value, c.params-to_sql-2.ensures, c.number-2.ensures.value) at c.rows_of.ensures)
