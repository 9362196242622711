use Rattle.std.proofs.Common.{refl, ◌∙◌}
use Rattle.circ_tables.proofs.ColumnLemmas.{row_of}
use Rattle.circ_tables.proofs.kept.KeptRowTable.read.Goals as goal

pub returns-clause-cells : goal.returns-clause-cells
returns-clause-cells c = row_of c.args.row.now 4 c.in_ok-has_width.ensures.ok
    ∙ rw (c.in_ok-owner_at.ensures.ok.0, c.in_ok-key_at.ensures.ok.0, c.in_ok-text_at.ensures.ok.0, c.in_ok-text_at-2.ensures.ok.0) refl
