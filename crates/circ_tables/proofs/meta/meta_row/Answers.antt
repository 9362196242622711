use Rattle.std.proofs.Common.{◌≡◌, arith, refl, ◌∙◌}
use Rattle.circ_tables.proofs.ColumnLemmas.{row_of}
use Rattle.circ_tables.proofs.meta.meta_row.Goals as goal

pub returns-clause-cells : goal.returns-clause-cells
returns-clause-cells c =
    let id = c.in_ok-number_at.ensures.ok in
    let one : c.in_ok-number_at.field-0 ≡ 1 = omega arith in
    row_of c.args.row.now 6 c.in_ok-has_width.ensures.ok
    ∙ rw (
      id.0,
      one,
      c.in_ok-number_at-2.ensures.ok.0,
      c.in_ok-day_at.ensures.ok.0,
      c.in_ok-loan_at.ensures.ok.0,
      c.in_ok-hold_at.ensures.ok.0,
      c.in_ok-line_at.ensures.ok.0,
    ) refl
