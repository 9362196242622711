use Rattle.std.proofs.Common.{refl, ◌∙◌}
use Rattle.circ_tables.proofs.ColumnLemmas.{row_of}
use Rattle.circ_tables.proofs.branches.BranchRowTable.read.Goals as goal

pub returns-clause-cells : goal.returns-clause-cells
returns-clause-cells c = row_of c.args.row.now 4 c.in_ok-has_width.ensures.ok
    ∙ rw (c.in_ok-branch_at.ensures.ok.0, c.in_ok-days_at.ensures.ok.0, c.in_ok-week_at.ensures.ok.0, c.in_ok-name_at.ensures.ok.0) refl
