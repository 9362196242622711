-- The search for a due day finds the least open day.
use Rattle.std.proofs.Common.{◌≡◌, ℕ, Bool, true, false, refl, sym, subst}
use Rattle.std.specs.Prelude.{Option, Some, None, IfSome, IfNone}
use Rattle.calendar.specs.Openings.{Closings, IsLeastOpen, is_open}
use Rattle.model.specs.Calendar.{IsLeast, least, opens}
use Rattle.model.proofs.CalendarsMeet.{calendars_agree}
use Rattle.model.proofs.Least.{least-IsLeast}
use Rattle.circ_core.specs.DueDay.{due_from, IsDueFrom, IsShutFrom}

-- the two tests are one function
pub one_test : (c : Closings) → opens c.weekly c.single ≡ is_open c
one_test c = λ i. λ d. calendars_agree.open_days c d i

least_open-least : (c : Closings) (from due : ℕ) → IsLeastOpen c from due → least (is_open c) from ≡ Some due
least_open-least c from due is = subst (λ (test : ℕ → Bool). least test from ≡ Some due) (one_test c) ((calendars_agree.least_day c from due).1 is)

shut-least : (c : Closings) (from : ℕ) → IsShutFrom (Some c) from → least (is_open c) from ≡ None
shut-least c from shut = go (least (is_open c) from) refl
  where
    go : (o : Option ℕ) → least (is_open c) from ≡ o → least (is_open c) from ≡ None
    go (Some e) found =
        let is : IsLeast (is_open c) from e = least-IsLeast (is_open c) from e found in
        let on : is_open c e ≡ true = is.opens in
        let off : is_open c e ≡ false = shut e is.from is.within in
        let never : ⊥ = cc in absurd never
    go None found = found

pub found_by : (calendar : Option Closings) (from : ℕ) (found : Option ℕ) → IfSome found (λ due. IsDueFrom calendar from due)
    → IfNone found (IsShutFrom calendar from)
    → found ≡ due_from calendar from
unfolding due_from
found_by (Some c) from (Some due) is shut = sym (least_open-least c from due is)
found_by (Some c) from None is shut = sym (shut-least c from shut)
found_by None from (Some due) is shut = absurd is
found_by None from None is shut = refl
