use Rattle.std.proofs.Common.{◌∙◌, refl, arith}
use Rattle.sqlite.specs.Held.{state}
use Rattle.sqlite.specs.State.{HasCleanDisk}
use Rattle.sql_maps.proofs.CallLemmas.{same_keeps}
use Rattle.store.specs.Carrying.{move_one, move_all, move_row, move_rows}
use Rattle.store.proofs.ChangeSteps.{then, keeps_then, same_survives, item_at, steps_none, steps_next, steps_all, draws_none, draws_next, draws_all}
use Rattle.store.proofs.migrating.carry_batch.Goals as goal

pub rows-init : goal.rows-init
rows-init g c = record {
  same_reference = refl;
  survives = same_survives (state g.S.Store c.args.tx.now.conn.now);
  kept = λ clean. same_keeps (state g.S.Store c.args.tx.now.conn.now);
  draws = λ clean begun n has. draws_none (state g.S.Store c.args.tx.now.conn.now) begun;
  steps = λ clean begun n has. steps_none (state g.S.Store c.args.tx.now.conn.now) begun;
}

pub rows-preserved : goal.rows-preserved
rows-preserved g c =
    let before = state g.S.Store c.rows.tx.conn.now in
    let new = state g.S.Store c.carry.new.tx.conn.now in
    let first = state g.S.Store c.args.tx.now.conn.now in
    let so_far = c.rows.invariant in
    let carries = c.in_ok-carry.ensures in
    let transfer = g.R.Carried.transfer in
    let was : HasCleanDisk new → HasCleanDisk before = λ clean. omega (arith, carries.works.survives.clean) in
    let item = item_at c.args.batch.now c.rows.row-index c.row-item.result c.rows-test.true c.row-item.is in
    record {
      same_reference = carries.works.same_reference ∙ so_far.same_reference;
      survives = then _ _ _ so_far.survives carries.works.survives;
      kept = λ clean. keeps_then _ _ _ (so_far.kept (was clean)) (carries.works.kept clean);
      draws = λ clean begun n has.
          let begun_so = so_far.draws (was clean) begun n has in
          draws_next (move_one g.R.Table.table g.R.Next.Table.table transfer) (move_all g.R.Table.table g.R.Next.Table.table transfer)
          (λ P. refl) (λ r more P. refl)
          c.args.batch.now c.rows.row-index c.row-item.result first before new item begun_so (carries.draws clean begun_so.is_inside tt n has);
      steps = λ clean begun n has.
          let begun_so = so_far.steps (was clean) begun n has in
          steps_next (move_row g.R.Table.table g.R.Next.Table.table transfer) (move_rows g.R.Table.table g.R.Next.Table.table transfer)
          (λ maps. refl) (λ r more maps. refl)
          c.args.batch.now c.rows.row-index c.row-item.result first before new item begun_so (carries.steps clean begun_so.is_inside n has);
    }

pub returns : goal.returns
returns g c =
    let first = state g.S.Store c.args.tx.now.conn.now in
    let last = state g.S.Store c.rows.tx.conn.now in
    let so_far = c.rows.invariant in
    let transfer = g.R.Carried.transfer in
    record {
      works = record { same_reference = so_far.same_reference; kept = so_far.kept; survives = so_far.survives };
      steps = λ clean begun n has.
          steps_all (move_row g.R.Table.table g.R.Next.Table.table transfer) (move_rows g.R.Table.table g.R.Next.Table.table transfer)
          (λ maps. refl) (λ r more maps. refl)
          c.args.batch.now c.rows.row-index first last c.rows-test.false (so_far.steps clean begun n has);
      draws = λ clean begun any n has.
          draws_all (move_one g.R.Table.table g.R.Next.Table.table transfer) (move_all g.R.Table.table g.R.Next.Table.table transfer)
          (λ P. refl) (λ r more P. refl)
          c.args.batch.now c.rows.row-index first last c.rows-test.false (so_far.draws clean begun n has);
      fault = tt;
    }
