use Rattle.std.proofs.Common.{◌≡◌, ◌↔◌, Result, Err, Bool, true, false, sym, ◌∙◌}
use Rattle.std.proofs.lemmas.List.{get_or_default}
use Rattle.std.proofs.lemmas.Result.{err_from_is_err_and}
use Rattle.calendar.specs.Openings.{has_repeat, is_single}
use Rattle.calendar.proofs.SinglesLemmas.{has_day-take}
use Rattle.calendar.proofs.opening.Calendar.with_closed_days.Goals as goal

-- the error is that of a call which found a day that isn't there
passed_on : {A B E : Type 0} (e closed : E) (r single : Bool) → r ≡ false → single ≡ false
    → (◌≡◌ {A = Result A E} (Err e) (Err closed)) ↔ (single ≡ true) → (◌≡◌ {A = Result B E} (Err e) (Err closed)) ↔ (r ≡ true)
passed_on e closed r single p q h = (λ s. let t = h.0 (cc s) in absurd (cc t), λ t. absurd cc)

pub returns-in_err-close-clause-already : goal.returns-in_err-close-clause-already
returns-in_err-close-clause-already c =
    let once : has_repeat c.args.days.now ≡ false = sym c.has_repeat.ensures ∙ c.if-has_repeat.false in
    let new : is_single c.loop-day.calendar c.day-item.result ≡ false =
    c.loop-day.invariant.closed.single c.day-item.result
    ∙ has_day-take c.args.days.now c.loop-day.day-index c.day-item.result once c.loop-day-test.true
    (get_or_default c.args.days.now c.loop-day.day-index 0 c.day-item.result c.loop-day-test.true ∙ sym c.day-item.is) in
    let p = err_from_is_err_and c.from_residual.result c.from_residual.ensures.1 in
    rw (p.1, p.2) (passed_on _ _ _ _ once new c.in_err-close.ensures.already)
