use Rattle.std.proofs.Common.{◌≡◌, ◌∷◌, [], length, ap, sym, ◌∙◌}
use Rattle.sql_maps.proofs.LookLemmas.{ok_then}
use Rattle.circ_tables.specs.Cells.{meta_cells}
use Rattle.circ_tables.proofs.meta.lone_row.Goals as goal

pub returns-in_err-one_of-clause-stored : goal.returns-in_err-one_of-clause-stored
returns-in_err-one_of-clause-stored c is r legal same = let one = ap length same in c.in_err-one_of.ensures.err one

pub returns-clause-cells : goal.returns-clause-cells
returns-clause-cells c = ok_then c.meta_row.result (λ r is. c.in_ok-one_of.ensures.ok ∙ ap (λ v. v ∷ []) is) c.meta_row.ensures.cells

pub returns-clause-stored : goal.returns-clause-stored
returns-clause-stored c is r legal both =
    let same : c.in_ok-one_of.field-0.now ∷ [] ≡ meta_cells r ∷ [] = sym c.in_ok-one_of.ensures.ok ∙ both in
    c.meta_row.ensures.stored is r legal (let row : c.in_ok-one_of.field-0.now ≡ meta_cells r = cc in row)
