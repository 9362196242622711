use Rattle.std.proofs.Common.{◌≡◌, ◌≢◌, ℕ, List, length, insert, true, false, subst}
use Rattle.calendar.specs.Days.{IsDayNumber}
use Rattle.calendar.specs.Openings.{Closings, AreClosings, ClosesOnly}
use Rattle.calendar.specs.Weeks.{IsRising, IsPlaceFor}
use Rattle.calendar.proofs.SinglesLemmas.{closed_more, ClosesOnly-insert}
use Rattle.calendar.proofs.opening.Calendar.close.Goals as goal

-- one day more in the fields
more : (s : Closings) (n day : ℕ) (items : List ℕ) → AreClosings s × IsRising s.single → IsDayNumber day → IsPlaceFor s.single day n → length s.single ≢ 400
    → items ≡ insert s.single n day → AreClosings (record { weekly = s.weekly; single = items }) × IsRising items
more s n day items h in_range p room e = rw e (closed_more s n day h.0 h.1 in_range p room)

only : (c s : Closings) (n day : ℕ) (items : List ℕ) → s ≡ c → IsPlaceFor s.single day n → items ≡ insert s.single n day
    → ClosesOnly c (record { weekly = s.weekly; single = items }) day
only c s n day items same p e =
    rw e (subst (λ (old : Closings). ClosesOnly old (record { weekly = s.weekly; single = insert s.single n day }) day) same
    (ClosesOnly-insert s n day p))

not_full : (n : ℕ) → (n ≡ 400 → false ≡ true) → n ≢ 400
not_full n full e = absurd (cc (full e))

pub invariant_of-self-2 : goal.invariant_of-self-2
invariant_of-self-2 c = more _ c.in-Err.place c.args.day _ c.self.invariant
    (rw c.number-number.ensures.value at c.number-number.ensures.bound) c.in-Err.ensures.err
    (rw (← c.self.view_is) at (not_full _ c.if-is_full.ensures.full.1)) c.in-Ok.ensures.ok

pub returns-clause-ok : goal.returns-clause-ok
returns-clause-ok c = only _ _ c.in-Err.place c.args.day _ c.self.view_is c.in-Err.ensures.err c.in-Ok.ensures.ok

pub returns-clause-closings : goal.returns-clause-closings
returns-clause-closings c = (more _ c.in-Err.place c.args.day _ c.self.invariant
    (rw c.number-number.ensures.value at c.number-number.ensures.bound) c.in-Err.ensures.err
    (rw (← c.self.view_is) at (not_full _ c.if-is_full.ensures.full.1)) c.in-Ok.ensures.ok).0
