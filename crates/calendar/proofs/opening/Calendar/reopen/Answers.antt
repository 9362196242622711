use Rattle.std.proofs.Common.{◌≡◌, ℕ, List, remove, subst}
use Rattle.calendar.specs.Openings.{Closings, AreClosings, ReopensOnly}
use Rattle.calendar.specs.Weeks.{IsRising, IsPlaceOf}
use Rattle.calendar.proofs.OpeningLemmas.{AreClosings-remove, ReopensOnly-remove}
use Rattle.calendar.proofs.SinglesLemmas.{IsRising-remove}
use Rattle.calendar.proofs.opening.Calendar.reopen.Goals as goal

-- one day less in the fields
less : (s : Closings) (i day : ℕ) (items : List ℕ) → AreClosings s × IsRising s.single → IsPlaceOf s.single day i → items ≡ remove s.single i
    → AreClosings (record { weekly = s.weekly; single = items }) × IsRising items
less s i day items h p e = rw e (AreClosings-remove s i day h.0 p.within p.is_there, IsRising-remove s.single i p.within h.1)

only : (c s : Closings) (i day : ℕ) (items : List ℕ) → s ≡ c → AreClosings s → IsPlaceOf s.single day i → items ≡ remove s.single i
    → ReopensOnly c (record { weekly = s.weekly; single = items }) day
only c s i day items same h p e =
    rw e (subst (λ (old : Closings). ReopensOnly old (record { weekly = s.weekly; single = remove s.single i }) day) same
    (ReopensOnly-remove s i day h p.within p.is_there))

pub invariant_of-self : goal.invariant_of-self
invariant_of-self c = less _ c.in-Ok.place c.args.day _ c.self.invariant c.in-Ok.ensures.ok c.remove.ensures

pub returns-clause-ok : goal.returns-clause-ok
returns-clause-ok c = only _ _ c.in-Ok.place c.args.day _ c.self.view_is c.self.invariant.0 c.in-Ok.ensures.ok c.remove.ensures

pub returns-clause-closings : goal.returns-clause-closings
returns-clause-closings c = (less _ c.in-Ok.place c.args.day _ c.self.invariant c.in-Ok.ensures.ok c.remove.ensures).0
