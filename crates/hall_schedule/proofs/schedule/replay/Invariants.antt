use Rattle.std.proofs.Common.{◌≡◌, take}
use Rattle.hall_schedule.specs.Schedules.{state_of, run}
use Rattle.hall_schedule.proofs.schedule.replay.Given as goal

abbrev pub invariant-loop-act : goal.invariant-loop-act
invariant-loop-act l = (state_of l.world ≡ run (take l.act-index l.acts)) × (l.world.taken ≡ l.act-index)
