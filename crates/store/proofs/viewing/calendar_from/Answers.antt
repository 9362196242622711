use Rattle.std.proofs.Common.{◌≡◌, ◌∙◌, Some, sym, ap, Err}
use Rattle.store.proofs.ViewLemmas.{fails, stops}
use Rattle.store.proofs.viewing.calendar_from.Goals as goal

pub returns-in_err-calendar-in-Some : goal.returns-in_err-calendar-in-Some
returns-in_err-calendar-in-Some g c =
    fails _ _ c.from_residual-in_err-calendar-in-Some.ensures
    (stops c.in_err-calendar-in-Some.field-0.0 c.in_ok-days-in-Some.ensures.view (λ fault clean P shown legal few.
    let days = c.in_ok-days-in-Some.ensures.view.shown clean P shown legal in
    let short = few c.args.branch c.in_ok-days-in-Some.days.items days.1 days.0 in
    c.in_err-calendar-in-Some.ensures.sound (rw c.deref.ensures.value days.1) (rw c.deref.ensures.value short) (ap Err fault)))

pub returns-in_ok-calendar-in-Some : goal.returns-in_ok-calendar-in-Some
returns-in_ok-calendar-in-Some g c = record {
  read = c.in_ok-days-in-Some.ensures.view.read;
  shown = λ clean P shown legal same.
      let days = c.in_ok-days-in-Some.ensures.view.shown clean P shown legal in
      let made = c.in_ok-calendar-in-Some.ensures.made in
      let there : P.branches c.args.branch ≡ Some c.in-Some.row = sym same ∙ c.in-Some.is in
      (record { row = c.in-Some.row; there = there; weekly = made.0; weekdays = made.1; single = λ d. made.2 d ∙ rw c.deref.ensures.value (days.0 d) }, made.3);
}
