use Rattle.std.proofs.Common.{◌≡◌, ℕ, List, Some, None, rules, ◌∙◌, ap, subst}
use Rattle.std.proofs.lemmas.List.Sorted.{answers_always}
use Rattle.terms.specs.declared.row.CopyRow.{CopyRow}
use Rattle.circ_audit.specs.Rows.{copy_row}
use Rattle.circ_audit.proofs.Lookups.{searched-found, searched-none}
use Rattle.circ_audit.proofs.bindings.copy_row.Goals as goal

pub returns-in-Ok : goal.returns-in-Ok
returns-in-Ok c =
    subst (λ (n : ℕ). Some c.index-rows-place.result ≡ copy_row c.as_slice-rows.result.now n) c.number.ensures.value
    (searched-found (λ r. r.copy) c.as_slice-rows.result.now c.as_slice-rows.ensures.ordered c.number.result c.in-Ok.place
    c.index-rows-place.result c.in-Ok.ensures.bound c.index-rows-place.is
    (c.in-Ok.ensures.position (λ r. r.copy) (answers_always _ _ _ (λ f a r g called. search rules))))
    ∙ ap (λ (rows : List CopyRow). copy_row rows c.args.copy) c.as_slice-rows.ensures.rows

pub returns-in-Err : goal.returns-in-Err
returns-in-Err c =
    subst (λ (n : ℕ). None ≡ copy_row c.as_slice-rows.result.now n) c.number.ensures.value
    (searched-none (λ r. r.copy) c.as_slice-rows.result.now c.as_slice-rows.ensures.ordered c.number.result c.in-Err.field-0
    (c.in-Err.ensures.position (λ r. r.copy) (answers_always _ _ _ (λ f a r g called. search rules))))
    ∙ ap (λ (rows : List CopyRow). copy_row rows c.args.copy) c.as_slice-rows.ensures.rows
