use Rattle.std.proofs.Common.{◌≡◌, ◌≤◌, ◌<◌, ◌^◌, ◌-◌, ◌∙◌, option_map, slice_get, length, unwrap_or, Some, None, refl, sym, ap, subst, arith, rules}
use Rattle.std.proofs.Math.Path.{fun_ext}
use Rattle.sqlite.specs.Held.{state}
use Rattle.sqlite.specs.State.{HasCleanDisk}
use Rattle.circ_tables.specs.Encoding.{HasPictureAt}
use Rattle.circ_tables.specs.Numbered.{IsNumberTable}
use Rattle.circ_tables.specs.Shape.{schema_at}
use Rattle.sql_maps.specs.Maps.{Holds}
use Rattle.sql_maps.proofs.CallLemmas.{same_keeps}
use Rattle.store.proofs.MigrateLemmas.{over_to, over_none, over_all, over_next, read_there, read_batch, read_sound}
use Rattle.store.proofs.CarriedFromAnyTables.{none_moved, batch_moved, all_rows_moved, next_moved}
use Rattle.store.proofs.BatchLemmas.{numbered}
use Rattle.store.proofs.BatchedRows.{empty_if}
use Rattle.store.proofs.ChangeSteps.{then, keeps_then, same_survives}
use Rattle.store.proofs.migrating.carry_all.Goals as goal

pub batches-init : goal.batches-init
batches-init g c = record {
  same_reference = refl;
  survives = same_survives (state g.S.Store c.args.tx.now.conn.now);
  there = λ clean begun there. (same_keeps (state g.S.Store c.args.tx.now.conn.now), begun, none_moved g.R.Table.table g.R.Next.Table.table g.R.Carried.transfer there.0 _ there.1);
  carried = λ clean begun P shown it.
      let table = subst (IsNumberTable g.R.Table.table) (fun_ext g.met.R.CarriedByNumber.by_key) g.met.R.Numbered.sound in
      subst (HasPictureAt g.R.Next.Table.table.since (state g.S.Store c.args.tx.now.conn.now).now)
      (sym (over_none g.met.R.Carried.over P (numbered table P it.0) it.1)) shown;
  low = omega arith;
}

pub returns-in_err-batch : goal.returns-in_err-batch
returns-in_err-batch g c =
    let so_far = c.batches.invariant in
    let read = c.next_rows_inside.ensures in
    let at = g.R.Next.Table.table.since in
    let has = g.met.R.Carried.over.was_there in
    let table = subst (IsNumberTable g.R.Table.table) (fun_ext g.met.R.CarriedByNumber.by_key) g.met.R.Numbered.sound in
    let was : HasCleanDisk (state g.S.Store c.next_rows_inside.new.tx.conn.now) → HasCleanDisk (state g.S.Store c.batches.tx.conn.now) =
    λ clean. omega (arith, read.works.survives.clean) in
    record {
      same_reference = read.works.same_reference ∙ so_far.same_reference;
      survives = then _ _ _ so_far.survives read.works.survives;
      kept = λ clean begun there. let it = so_far.there (was clean) begun there in keeps_then _ _ _ it.0 (read.works.kept clean it.1);
      inside = search rules;
      rows = search rules;
      migrates = search rules;
      sound = λ clean begun told P shown ready.
          read_sound g.met.R.Carried.over table (unwrap_or c.batches.after 0) P ready.0 (so_far.carried (was clean) begun P shown ready)
          (read.stored at has clean (search rules));
    }

pub returns-in-None : goal.returns-in-None
returns-in-None g c =
    let so_far = c.batches.invariant in
    let read = c.in_ok-batch.ensures in
    let batch = c.in_ok-batch.batch.items in
    let at = g.R.Next.Table.table.since in
    let has = g.met.R.Carried.over.was_there in
    let by_key = fun_ext g.met.R.CarriedByNumber.by_key in
    let table = subst (IsNumberTable g.R.Table.table) by_key g.met.R.Numbered.sound in
    let none : None ≡ option_map g.R.Numbered.number_of (slice_get batch (length batch - 1)) = rw (c.as_slice.ensures.value) at c.in-None.ensures in
    let empty = empty_if g.R.Numbered.number_of batch (sym none) in
    let was : HasCleanDisk (state g.S.Store c.next_rows_inside.new.tx.conn.now) → HasCleanDisk (state g.S.Store c.batches.tx.conn.now) =
    λ clean. omega (arith, read.works.survives.clean) in
    record {
      same_reference = read.works.same_reference ∙ so_far.same_reference;
      survives = then _ _ _ so_far.survives read.works.survives;
      kept = λ clean begun there. let it = so_far.there (was clean) begun there in keeps_then _ _ _ it.0 (read.works.kept clean it.1);
      inside = λ clean begun there. let it = so_far.there (was clean) begun there in
          (read_there at _ _ it.1 (it.2.maps, it.2.holds) (read.lists at has clean)).0;
      rows = λ clean begun maps holds.
          let it = so_far.there (was clean) begun (maps, holds) in (
            it.2.maps,
            subst (λ d. Holds (schema_at at) d it.2.maps) (sym (read.lists at has clean it.2.maps it.2.holds).1.0.now_is) it.2.holds,
            all_rows_moved g.met.R.Carried.over table c.batches.after c.batches._batch maps _ it.2 batch
                (batch_moved table at has c.batches.after batch read.limits _ _ it.2.maps it.2.holds (read.lists at has clean)) empty,
          );
      migrates = λ clean begun P shown ready.
          let after = unwrap_or c.batches.after 0 in
          let seen = read_batch g.met.R.Carried.over table c.batches.after P ready.0 batch read.limits _ _
          (so_far.carried (was clean) begun P shown ready) (read.lists at has clean) in
          subst (HasPictureAt at (state g.S.Store c.next_rows_inside.new.tx.conn.now).now)
          (over_all g.met.R.Carried.over P (numbered table P ready.0) after batch seen.0 empty) seen.1;
      sound = search rules;
    }

pub returns-in_err-carry_batch : goal.returns-in_err-carry_batch
returns-in_err-carry_batch g c =
    let so_far = c.batches.invariant in
    let read = c.in_ok-batch.ensures in
    let carries = c.carry_batch.ensures in
    let late : HasCleanDisk (state g.S.Store c.carry_batch.new.tx.conn.now)
    → HasCleanDisk (state g.S.Store c.next_rows_inside.new.tx.conn.now) = λ clean. omega (arith, carries.works.survives.clean) in
    let was : HasCleanDisk (state g.S.Store c.next_rows_inside.new.tx.conn.now) → HasCleanDisk (state g.S.Store c.batches.tx.conn.now) =
    λ clean. omega (arith, read.works.survives.clean) in
    record {
      same_reference = carries.works.same_reference ∙ read.works.same_reference ∙ so_far.same_reference;
      survives = then _ _ _ (then _ _ _ so_far.survives read.works.survives) carries.works.survives;
      kept = λ clean begun there.
          let it = so_far.there (was (late clean)) begun there in
          keeps_then _ _ _ (keeps_then _ _ _ it.0 (read.works.kept (late clean) it.1)) (carries.works.kept clean);
      inside = search rules;
      rows = search rules;
      migrates = search rules;
      sound = search rules;
    }

pub batches-preserved : goal.batches-preserved
batches-preserved g c =
    let so_far = c.batches.invariant in
    let read = c.in_ok-batch.ensures in
    let carries = c.in_ok-carry_batch.ensures in
    let batch = c.in_ok-batch.batch.items in
    let at = g.R.Next.Table.table.since in
    let has = g.met.R.Carried.over.was_there in
    let new_there = g.met.R.Carried.over.there in
    let by_key = fun_ext g.met.R.CarriedByNumber.by_key in
    let table = subst (IsNumberTable g.R.Table.table) by_key g.met.R.Numbered.sound in
    let by_number : Some c.in-Some.last ≡ option_map g.R.Numbered.number_of (slice_get batch (length batch - 1)) =
    rw (c.as_slice.ensures.value) at c.in-Some.ensures in
    let end = by_number ∙ ap (λ f. option_map f (slice_get batch (length batch - 1))) by_key in
    let late : HasCleanDisk (state g.S.Store c.carry_batch.new.tx.conn.now)
    → HasCleanDisk (state g.S.Store c.next_rows_inside.new.tx.conn.now) = λ clean. omega (arith, carries.works.survives.clean) in
    let was : HasCleanDisk (state g.S.Store c.next_rows_inside.new.tx.conn.now) → HasCleanDisk (state g.S.Store c.batches.tx.conn.now) =
    λ clean. omega (arith, read.works.survives.clean) in
    record {
      same_reference = carries.works.same_reference ∙ read.works.same_reference ∙ so_far.same_reference;
      survives = then _ _ _ (then _ _ _ so_far.survives read.works.survives) carries.works.survives;
      there = λ clean begun there.
          let it = so_far.there (was (late clean)) begun there in
          let mid = read_there at _ _ it.1 (it.2.maps, it.2.holds) (read.lists at has (late clean)) in
          let steps = rw (c.as_slice-in-batches.ensures.value) at (carries.steps clean mid.0 at new_there) in
          let seen = read.lists at has (late clean) it.2.maps it.2.holds in (
            keeps_then _ _ _ (keeps_then _ _ _ it.0 (read.works.kept (late clean) it.1)) (carries.works.kept clean),
            steps.is_inside,
            next_moved g.met.R.Carried.over table c.batches.after c.batches._batch there.0 _ it.2 batch
                (batch_moved table at has c.batches.after batch read.limits _ _ it.2.maps it.2.holds (read.lists at has (late clean)))
                c.in-Some.last (sym end) _ _ seen.1.0.now_is steps,
          );
      carried = λ clean begun P shown ready.
          let there = so_far.there (was (late clean)) begun (shown.maps, shown.holds) in
          let mid = read_there at _ _ there.1 (there.2.maps, there.2.holds) (read.lists at has (late clean)) in
          let after = unwrap_or c.batches.after 0 in
          let seen = read_batch g.met.R.Carried.over table c.batches.after P ready.0 batch read.limits _ _
          (so_far.carried (was (late clean)) begun P shown ready) (read.lists at has (late clean)) in
          let next = over_next g.met.R.Carried.over P (numbered table P ready.0) after batch seen.0 c.in-Some.last (sym end) in
          let moved = (rw (c.as_slice-in-batches.ensures.value) at (carries.draws clean mid.0 tt at new_there)).picture
          (over_to g.met.R.Carried.over after P) seen.1 in
          subst (HasPictureAt at (state g.S.Store c.carry_batch.new.tx.conn.now).now) next.0 moved;
      low = search;
    }

pub returns : goal.returns
returns g c =
    let so_far = c.batches.invariant in
    let low : unwrap_or c.batches.after 0 < 2 ^ 32 = so_far.low in
    let past = c.batches-test.false in
    record {
      same_reference = so_far.same_reference;
      survives = so_far.survives;
      kept = λ clean begun there. (so_far.there clean begun there).0;
      inside = λ clean begun there. (so_far.there clean begun there).1;
      rows = λ clean begun maps holds. let few : c.batches._batch ≤ unwrap_or c.batches.after 0 =
          (so_far.there clean begun (maps, holds)).2.met.few in absurd (omega (arith, few, low, past));
      migrates = λ clean begun P shown ready. let few : c.batches._batch ≤ unwrap_or c.batches.after 0 =
          (so_far.there clean begun (shown.maps, shown.holds)).2.met.few in absurd (omega (arith, few, low, past));
      sound = search rules;
    }
