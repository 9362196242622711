use Rattle.std.proofs.Common.{sym, subst, ◌∙◌, arith}
use Rattle.calendar.specs.Openings.{AreWeekdays}
use Rattle.calendar.proofs.NearLemmas.{closed_further}
use Rattle.calendar.proofs.weekdays.Weekdays.open_from.Goals as goal

pub loop-self-preserved : goal.loop-self-preserved
loop-self-preserved c =
    let i = c.loop-self.invariant in
    let further = closed_further c.args.self c.args.number c.loop-self.next
    (subst AreWeekdays c.closed-closed.ensures.value c.closed-closed.ensures.weekdays) i.from i.near
    (sym c.is_closed_on.ensures ∙ c.loop-self-test.true) i.closed in
    record { from = omega arith; near = further.0; closed = further.1 }
