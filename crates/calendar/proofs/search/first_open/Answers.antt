use Rattle.std.proofs.Common.{◌+◌, sym, subst, ◌∙◌, arith}
use Rattle.calendar.specs.Openings.{Closings}
use Rattle.calendar.proofs.search.first_open.Goals.{then-single-open, else-single-open}
use Rattle.calendar.proofs.SinglesLemmas.{IsReached, IsReached-first, IsReached-before, IsReached-next, IsOpenFrom-reached}
use Rattle.calendar.proofs.search.first_open.Goals as goal

pub loop-index-init : goal.loop-index-init
loop-index-init g c =
    let day = c.number.ensures in
    let p = rw day.value at c.count_below-from.ensures.below in
    let first = c.open_from-open.ensures in
    let same = c.number-2.ensures.value in
    let cost = c.count_below-from.ensures.cost in
    record {
      reached = IsReached-first (record { weekly = c.args.weekly; single = c.args.singles.now }) c.args.day c.count_below-from.result
          c.open_from-open.result (rw day.value at day.bound) p
          (omega (arith, same, first.from)) (omega (arith, same, first.near)) first.open (rw same at first.closed);
      used = omega arith;
    }

pub loop-index-preserved : goal.loop-index-preserved
loop-index-preserved g c =
    let closings : Closings = record { weekly = c.args.weekly; single = c.args.singles.now } in
    let before = c.loop-index.invariant in
    let ticked = c.at.ensures.ticked in
    let is = sym c.at.ensures.day ∙ sym c.number-single.ensures.value in
    let within = c.loop-index-test.true in
    elim c.if-single-open.branch [
      | then-single-open w ↦
          let later = w.open_from-open-then-single-open.ensures in
          record {
            reached = subst (IsReached closings c.args.day (c.loop-index.index + 1)) (sym w.open-is)
                (IsReached-next closings c.args.day c.loop-index.index c.loop-index.open c.number-single.result _ before.reached
                (omega (arith, within, c.len-index-end.ensures)) is w.if-single-open.true c.number-single.ensures.bound
                later.from later.near later.open later.closed);
            used = omega (arith, ticked, before.used);
          }
      | else-single-open w ↦ record {
        reached = subst (IsReached closings c.args.day (c.loop-index.index + 1)) (sym w.open-is)
            (IsReached-before closings c.args.day c.loop-index.index c.loop-index.open c.number-single.result before.reached is
            c.if-open-single.false w.if-single-open.false);
        used = omega (arith, ticked, before.used);
      }
    ]

pub returns-then-open-single-clause-first : goal.returns-then-open-single-clause-first
returns-then-open-single-clause-first g c =
    let is = sym c.at.ensures.day ∙ sym c.number-single.ensures.value in
    IsOpenFrom-reached _ c.args.day c.loop-index.index c.loop-index.open c.requires.rising c.loop-index.invariant.reached
    (λ lt. omega (arith, is, c.if-open-single.true))

pub returns-clause-first : goal.returns-clause-first
returns-clause-first g c =
    let ended = c.loop-index-test.false in
    let all = c.len-index-end.ensures in
    IsOpenFrom-reached _ c.args.day c.loop-index.index c.loop-index.open c.requires.rising c.loop-index.invariant.reached (λ lt. absurd (omega arith))
