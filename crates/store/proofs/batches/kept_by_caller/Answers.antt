use Rattle.std.proofs.Common.{◌≡◌, ◌-◌, ◌<◌, List, length, Some, None, inl, sym, subst}
use Rattle.std.specs.Prelude.{slice_get}
use Rattle.terms.specs.Orders.{IsKeptBefore}
use Rattle.terms.specs.declared.row.KeptRow.{KeptRow}
use Rattle.terms.proofs.OrderLemmas.{ordered-as}
use Rattle.store.proofs.CallerLemmas.{number_of}
use Rattle.store.proofs.KeptOfAnyTables.{none_last}
use Rattle.store.proofs.BatchLemmas.{passed_over}
use Rattle.store.proofs.ReviewLemmas.{faults, rows_taken, begun, gone_on, all_gone, given_up}
use Rattle.store.proofs.ViewLemmas.{◌⨾◌, stops}
use Rattle.store.proofs.batches.kept_by_caller.Goals as goal

pub returns-in_err-batch : goal.returns-in_err-batch
returns-in_err-batch g c = faults _ _ c.from_residual.ensures (passed_over c.in_err-batch.ensures)

pub kept-init : goal.kept-init
kept-init g c = begun c.new-rows.result.items c.new-rows.ensures.items c.in_ok-batch.ensures

pub returns-in_default : goal.returns-in_default
returns-in_default g c =
    rows_taken IsKeptBefore c.kept.rows.items c.new.result c.new.ensures.ok c.new.ensures.err
    (all_gone c.kept.rows.items c.kept.batch.items
    (none_last c.kept.batch.items (subst (λ (rows : List KeptRow). slice_get rows (length rows - 1) ≡ None) c.deref.ensures.value
    (sym c.in_default.ensures.value))) c.kept.invariant)
    (λ P are. (are, ordered-as (λ r s. number_of r < number_of s) IsKeptBefore (λ r s less. inl less) c.kept.rows.items are.rise))
    (λ maps legal. legal)

pub returns-in_err-next : goal.returns-in_err-next
returns-in_err-next g c = faults _ _ c.from_residual-in_err-next.ensures (c.kept.invariant.view ⨾ c.in_err-next.ensures.view)

pub returns-in_err-add_callers : goal.returns-in_err-add_callers
returns-in_err-add_callers g c =
    faults _ _ c.from_residual-in_err-add_callers.ensures
    (stops c.in_err-add_callers.field-0.0 (c.kept.invariant.view ⨾ c.in_ok-next.ensures.view) (λ is clean P shown legal few.
    let memory = c.in_err-add_callers.ensures.fault in
    let never : ⊥ = cc in
    never))

pub kept-preserved : goal.kept-preserved
kept-preserved g c =
    gone_on (λ p. p.items) c.kept.rows.items c.kept.batch.items c.add_callers.new.rows.items c.in-Some.last.now
    (subst (λ (rows : List KeptRow). slice_get rows (length rows - 1) ≡ Some c.in-Some.last.now) c.deref.ensures.value
    (sym c.in-Some.ensures.value)) c.in_ok-add_callers.ensures.rows c.kept.invariant c.in_ok-next.ensures.view c.in_ok-next.ensures.batch

pub returns : goal.returns
returns g c = given_up c.kept.invariant
