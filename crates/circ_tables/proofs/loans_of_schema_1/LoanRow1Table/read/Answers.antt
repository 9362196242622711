use Rattle.std.proofs.Common.{refl, ◌∙◌}
use Rattle.circ_tables.proofs.ColumnLemmas.{row_of}
use Rattle.circ_tables.proofs.loans_of_schema_1.LoanRow1Table.read.Goals as goal

pub returns-clause-cells : goal.returns-clause-cells
returns-clause-cells c = row_of c.args.row.now 11 c.in_ok-has_width.ensures.ok
    ∙ rw (
      c.in_ok-loan_at.ensures.ok.0,
      c.in_ok-copy_at.ensures.ok.0,
      c.in_ok-patron_at.ensures.ok.0,
      c.in_ok-branch_at.ensures.ok.0,
      c.in_ok-day_at.ensures.ok.0,
      c.in_ok-day_at-2.ensures.ok.0,
      c.in_ok-days_at.ensures.ok.0,
      c.in_ok-count_at.ensures.ok.0,
      c.in_ok-cents_at.ensures.ok.0,
      c.in_ok-cents_at-2.ensures.ok.0,
      c.in_ok-day_or_none_at.ensures.ok.0,
    ) refl
