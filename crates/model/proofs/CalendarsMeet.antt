-- The calendar of the definitions is that of the crate `calendar`.
use Rattle.calendar.specs.declared.limits.TheConstants.{FIRST_DAY, LAST_DAY}
use Rattle.std.proofs.Common.{◌≡◌, ℕ, zero, suc, ◌+◌, ◌-◌, ◌≤◌, Bool, true, false, not, ◌&&◌, refl, ap, sym, subst, ◌∙◌, arith}
use Rattle.std.specs.Prelude.{Some, nat_le, if◌then◌else◌}
use Rattle.calendar.specs.Openings.{Closings, is_open, is_weekly, open_among}
use Rattle.calendar.specs.Openings as openings
use Rattle.std.proofs.lemmas.Bool.{and_parts}
use Rattle.std.proofs.lemmas.Bool.Decides.{nat_tests}
use Rattle.model.specs.Calendar.{opens, least, open_days, IsLeast}
use Rattle.model.specs.Calendars.{SameOpenDays, SameLeastDay, SameLateDays, CalendarsAgree}
use Rattle.model.proofs.Least.{least-IsLeast, IsLeast-least}

-- two ways to say: in the calendar, and closed neither on its weekday nor singly
both_ways : (low high weekly single : Bool)
    → (elim (low && (high && not weekly)) as (λ _. Bool) [ true ↦ not single | false ↦ false ]) ≡ ((low && high)
    && (not weekly && not single))
both_ways true true true single = refl
both_ways true true false single = refl
both_ways true false weekly single = refl
both_ways false high weekly single = refl

open_same : SameOpenDays
unfolding is_open
open_same c d = both_ways (nat_le FIRST_DAY d) (nat_le d LAST_DAY) (is_weekly c d) (openings.is_single c d)

-- the two tests are one function
one_test : (c : Closings) → opens c.weekly c.single ≡ is_open c
one_test c = λ i. λ d. open_same c d i

in_calendar : (c : Closings) (e : ℕ) → is_open c e ≡ true → e ≤ LAST_DAY
unfolding is_open
in_calendar c e on =
    let day = (and_parts _ _ on).0 in
    let high : nat_le e LAST_DAY ≡ true = (and_parts (nat_le FIRST_DAY e) (nat_le e LAST_DAY) day).1 in
    grind (arith, nat_tests)

least_same : SameLeastDay
least_same c d e = (
  λ is.
      let r = least-IsLeast (is_open c) d e (subst (λ (test : ℕ → Bool). least test d ≡ Some e) (one_test c) is) in
      (r.from, r.opens, r.first),
  λ h.
      let r : IsLeast (is_open c) d e = record { from = h.0; within = in_calendar c e h.1; opens = h.1; first = h.2 } in
      subst (λ (test : ℕ → Bool). least test d ≡ Some e) (sym (one_test c)) (IsLeast-least (is_open c) d e r),
)

late_from : (c : Closings) (due n : ℕ) → open_days (is_open c) due n ≡ open_among c due n
unfolding open_among
late_from c due zero = refl
late_from c due (suc n) = ap (λ (m : ℕ). m + (if is_open c (due + suc n) then 1 else 0)) (late_from c due n)

late_same : SameLateDays
late_same c due today = ap (λ (test : ℕ → Bool). open_days test due (today - due)) (one_test c) ∙ late_from c due (today - due)

pub calendars_agree : CalendarsAgree
calendars_agree = record { open_days = open_same; least_day = least_same; late_days = late_same }
