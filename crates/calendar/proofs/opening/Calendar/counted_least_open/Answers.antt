use Rattle.std.proofs.Common.{subst}
use Rattle.calendar.specs.Openings.{AreClosings}
use Rattle.calendar.proofs.NearLemmas.{least_some, least_none, least_near, least_found}
use Rattle.calendar.proofs.opening.Calendar.counted_least_open.Goals as goal

pub returns-clause-some : goal.returns-clause-some
returns-clause-some g c = least_some _ c.args.self.now c.args.day _ c.new.ensures (rw (c.counted.ensures, c.self.view_is) at c.first_open-open.ensures.first)

pub returns-clause-none : goal.returns-clause-none
returns-clause-none g c = least_none _ c.args.self.now c.args.day _ (rw c.number-number.ensures.value at c.number-number.ensures.bound)
    c.new.ensures (rw (c.counted.ensures, c.self.view_is) at c.first_open-open.ensures.first)

pub returns-clause-near : goal.returns-clause-near
returns-clause-near g c = least_near _ c.args.self.now c.args.day _ (subst AreClosings c.self.view_is c.self.invariant.0)
    (rw c.number-number.ensures.value at c.number-number.ensures.bound) c.new.ensures
    (rw (c.counted.ensures, c.self.view_is) at c.first_open-open.ensures.first)

pub returns-clause-found : goal.returns-clause-found
returns-clause-found g c = least_found _ c.args.self.now c.args.day _ (subst AreClosings c.self.view_is c.self.invariant.0)
    (rw c.number-number.ensures.value at c.number-number.ensures.bound) c.new.ensures
    (rw (c.counted.ensures, c.self.view_is) at c.first_open-open.ensures.first)
