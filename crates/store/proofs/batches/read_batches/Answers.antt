use Rattle.std.proofs.Common.{◌≡◌, ◌<◌, ◌≤◌, ◌^◌, ◌-◌, option_map, slice_get, length, unwrap_or, Some, None, refl, sym, arith}
use Rattle.terms.proofs.OrderLemmas.{ordered-as}
use Rattle.store.proofs.BatchesOfAnyTables.{none_met, batch_met, all_met, next_met}
use Rattle.store.proofs.BatchLemmas.{batch_seen}
use Rattle.store.proofs.BatchedRows.{none_so_far, all_so_far, next_so_far, empty_if}
use Rattle.store.proofs.ReadLemmas.{read_none}
use Rattle.store.proofs.ReviewLemmas.{◌⨟◌, faults, tells, rows_taken}
use Rattle.store.proofs.ViewLemmas.{◌⨾◌, stops}
use Rattle.store.proofs.batches.read_batches.Goals as goal

pub batches-init : goal.batches-init
batches-init g c = record {
  seen = record {
    view = record {
      read = read_none _;
      shown = λ clean P shown legal. none_so_far (g.R.Table.table.rows P) g.R.Numbered.number_of 0 c.new-rows.result.items
          refl c.new-rows.ensures.items;
    };
    met = λ clean maps holds. none_met g.R.Table.table maps;
  };
  low = omega arith;
}

pub returns-in_err-batch : goal.returns-in_err-batch
returns-in_err-batch g c = faults _ _ c.from_residual.ensures
    (c.batches.invariant.seen.view ⨾ batch_seen g.met.R.Numbered.sound c.batches.after c.in_err-batch.ensures)

pub returns-in-None : goal.returns-in-None
returns-in-None g c =
    let rows = g.R.Table.table.rows in
    let number_of = g.R.Numbered.number_of in
    let batch = c.in_ok-batch.batch.items in
    let none : None ≡ option_map number_of (slice_get batch (length batch - 1)) = rw (c.as_slice.ensures.value) at c.in-None.ensures in
    let empty = empty_if number_of batch (sym none) in
    rows_taken g.R.Ordered.comes_before c.batches.rows.items c.new.result c.new.ensures.ok c.new.ensures.err
    (c.batches.invariant.seen ⨟ batch_met g.met.R.Numbered.sound c.batches.after c.in_ok-batch.ensures)
    (λ P all.
    let are = all_so_far (rows P) number_of (unwrap_or c.batches.after 0) c.batches._batch c.batches.rows.items all.0 batch all.1.1 all.1.0 empty in
    (are, ordered-as (λ r s. number_of r < number_of s) g.R.Ordered.comes_before g.met.R.Numbered.by_number c.batches.rows.items are.rise))
    (λ maps all. all_met g.met.R.Numbered.sound maps c.batches.after c.batches._batch all.0 batch all.1 empty)

pub returns-in_err-add_batch : goal.returns-in_err-add_batch
returns-in_err-add_batch g c =
    faults _ _ c.from_residual-in_err-add_batch.ensures
    (stops c.in_err-add_batch.field-0.0
    (c.batches.invariant.seen.view ⨾ batch_seen g.met.R.Numbered.sound c.batches.after c.in_ok-batch.ensures) (λ is clean P shown legal few.
    let memory = c.in_err-add_batch.ensures.fault in
    let never : ⊥ = cc in
    never))

pub batches-preserved : goal.batches-preserved
batches-preserved g c =
    let number_of = g.R.Numbered.number_of in
    let batch = c.in_ok-batch.batch.items in
    let end : Some c.in-Some.last ≡ option_map number_of (slice_get batch (length batch - 1)) = rw (c.as_slice.ensures.value) at c.in-Some.ensures in
    record {
      seen = tells (c.batches.invariant.seen ⨟ batch_met g.met.R.Numbered.sound c.batches.after c.in_ok-batch.ensures)
          (λ P all. next_so_far (g.R.Table.table.rows P) number_of
          (unwrap_or c.batches.after 0) c.batches._batch c.batches.rows.items all.0 batch all.1.1 c.in-Some.last
          (sym end) c.add_batch.new.rows.items c.in_ok-add_batch.ensures.rows)
          (λ maps all. next_met g.met.R.Numbered.sound maps c.batches.after c.batches._batch all.0 batch all.1 c.in-Some.last (sym end));
      low = search;
    }

pub returns : goal.returns
returns g c =
    let low : unwrap_or c.batches.after 0 < 2 ^ 32 = c.batches.invariant.low in
    let past = c.batches-test.false in
    rows_taken g.R.Ordered.comes_before c.batches.rows.items c.new-2.result c.new-2.ensures.ok c.new-2.ensures.err c.batches.invariant.seen
    (λ P so_far. let few : c.batches._batch ≤ unwrap_or c.batches.after 0 = so_far.few in absurd (omega (arith, few, low, past)))
    (λ maps so_far. let few : c.batches._batch ≤ unwrap_or c.batches.after 0 = so_far.few in absurd (omega (arith, few, low, past)))
