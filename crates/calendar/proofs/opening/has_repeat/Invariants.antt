use Rattle.std.proofs.Common.{◌≡◌, length}
use Rattle.calendar.specs.Openings.{has_repeat}
use Rattle.calendar.proofs.opening.has_repeat.Given as goal

abbrev pub invariant-loop-rest : goal.invariant-loop-rest
invariant-loop-rest l = has_repeat l.fn.days ≡ has_repeat l.rest

abbrev pub decreases-loop-rest : goal.decreases-loop-rest
decreases-loop-rest l = length l.rest
