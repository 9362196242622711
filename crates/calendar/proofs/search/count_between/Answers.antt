use Rattle.std.proofs.Common.{ℕ, ◌+◌, ◌-◌, ◌<◌, ◌≤◌, length, sym, ◌∙◌, ap, arith}
use Rattle.calendar.proofs.search.count_between.Goals.{then-not-is_closed_on, else-not-is_closed_on}
use Rattle.calendar.proofs.SinglesLemmas.{IsCountBelow-next, listed-before, listed-more_open, listed-more_closed, listed-all}
use Rattle.calendar.proofs.search.count_between.Goals as goal

pub loop-index-init : goal.loop-index-init
loop-index-init g c =
    let p = IsCountBelow-next c.args.singles.now c.number.result c.args.due c.count_below-from.result c.number.ensures.value c.count_below-from.ensures.below in
    let first = c.count_below-from.ensures.cost in
    let second = c.count_below-to.ensures.cost in
    record {
      counted = listed-before c.args.weekly c.args.singles.now c.args.due (c.args.today - c.args.due) c.count_below-from.result p;
      within = p.within;
      small = omega arith;
      used = omega arith;
    }

pub loop-index-preserved : goal.loop-index-preserved
loop-index-preserved g c =
    let p = IsCountBelow-next c.args.singles.now c.number.result c.args.due c.count_below-from.result c.number.ensures.value c.count_below-from.ensures.below in
    let q = IsCountBelow-next c.args.singles.now c.number-2.result c.args.today c.count_below-to.result c.number-2.ensures.value
    c.count_below-to.ensures.below in
    let i = c.loop-index.index in
    let day = c.number-in-loop-index.result in
    let due = c.args.due in
    let n = c.args.today - due in
    let lt = c.loop-index-test.true in
    let before = c.loop-index.invariant in
    let ticked = c.at.ensures.ticked in
    let is = sym c.at.ensures.day ∙ sym c.number-in-loop-index.ensures.value in
    let after = p.after i (omega (arith, c.loop-index.auto)) (omega (arith, lt, q.within)) in
    let until = q.before i lt in
    let within : i < length c.args.singles.now = omega (arith, lt, q.within) in
    let low : due < day = omega (arith, is, after) in
    let high : day ≤ due + n = omega (arith, is, after, until) in
    elim c.if-not-is_closed_on.branch [
      | then-not-is_closed_on w ↦ record {
        counted = w.count-is ∙ (ap (λ (m : ℕ). m + 1) before.counted
            ∙ sym (listed-more_open c.args.weekly c.args.singles.now due n i day within is low high
            (sym c.is_closed_on.ensures ∙ w.if-not-is_closed_on.true)));
        within = omega arith;
        small = omega (arith, w.count-is, before.small);
        used = omega (arith, ticked, before.used);
      }
      | else-not-is_closed_on w ↦ record {
        counted = w.count-is ∙ (before.counted
            ∙ sym (listed-more_closed c.args.weekly c.args.singles.now due n i day within is low high
            (sym c.is_closed_on.ensures ∙ w.if-not-is_closed_on.false)));
        within = omega arith;
        small = omega (arith, w.count-is, before.small);
        used = omega (arith, ticked, before.used);
      }
    ]

pub returns-clause-count : goal.returns-clause-count
returns-clause-count g c =
    let p = IsCountBelow-next c.args.singles.now c.number.result c.args.due c.count_below-from.result c.number.ensures.value c.count_below-from.ensures.below in
    let q = IsCountBelow-next c.args.singles.now c.number-2.result c.args.today c.count_below-to.result c.number-2.ensures.value
    c.count_below-to.ensures.below in
    c.loop-index.invariant.counted
    ∙ listed-all c.args.weekly c.args.singles.now c.args.due c.args.today _ _ c.loop-index.index c.requires.rising p q
    (omega (arith, c.loop-index.auto)) (omega (arith, c.loop-index-test.false))

pub returns-clause-cost : goal.returns-clause-cost
returns-clause-cost g c = omega (arith, c.loop-index.invariant.used, c.loop-index.invariant.within, c.requires.few)
