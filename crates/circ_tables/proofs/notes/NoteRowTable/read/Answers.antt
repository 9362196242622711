use Rattle.std.proofs.Common.{refl, ◌∙◌}
use Rattle.circ_tables.proofs.ColumnLemmas.{row_of}
use Rattle.circ_tables.proofs.notes.NoteRowTable.read.Goals as goal

pub returns-clause-cells : goal.returns-clause-cells
returns-clause-cells c = row_of c.args.row.now 3 c.in_ok-has_width.ensures.ok
    ∙ rw (c.in_ok-line_at.ensures.ok.0, c.in_ok-branch_at.ensures.ok.0, c.in_ok-name_or_none_at.ensures.ok.0) refl
