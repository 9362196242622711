use Rattle.std.proofs.Common.{ℕ, sym, refl, ◌∙◌, ◌+◌, ap, arith}
use Rattle.calendar.proofs.weekdays.Weekdays.open_among.Goals.{then-not-is_closed_on, else-not-is_closed_on}
use Rattle.calendar.proofs.WeekLemmas.{open_weekdays_among-none, open_weekdays_among-open, open_weekdays_among-closed}
use Rattle.calendar.proofs.weekdays.Weekdays.open_among.Goals as goal

pub loop-after-init : goal.loop-after-init
loop-after-init c = record { counted = sym (open_weekdays_among-none c.args.self c.args.number 0 refl); small = omega arith }

pub loop-after-preserved : goal.loop-after-preserved
loop-after-preserved c =
    let was = c.loop-after.invariant.counted in
    let mask = c.args.self in
    let from = c.args.number in
    let n = c.loop-after.after in
    elim c.if-not-is_closed_on.branch [
      | then-not-is_closed_on w ↦ record {
        counted = w.count-is ∙ (ap (λ (m : ℕ). m + 1) was
            ∙ sym (open_weekdays_among-open mask from n _ (from + n + 1) (omega arith) (omega arith)
            (sym c.is_closed_on.ensures ∙ w.if-not-is_closed_on.true)));
        small = omega (arith, w.count-is, c.loop-after.invariant.small);
      }
      | else-not-is_closed_on w ↦ record {
        counted = w.count-is ∙ (was ∙ sym
            (open_weekdays_among-closed mask from n _ (from + n + 1) (omega arith) (omega arith)
            (sym c.is_closed_on.ensures ∙ w.if-not-is_closed_on.false)));
        small = omega (arith, w.count-is, c.loop-after.invariant.small);
      }
    ]
