use Rattle.std.proofs.Common.{inl, inr, refl}
use Rattle.circ_runs.proofs.working.on_desk.Goals as goal

pub returns-in-Ok : goal.returns-in-Ok
returns-in-Ok g c = (c.work_at-tables.result.0, refl, inl (c.in-Ok.desk, c.in-Ok.ensures, c.work_at-tables.ensures))

pub returns-in-Err : goal.returns-in-Err
returns-in-Err g c = (c.args.tables, tt, inr (c.in-Err.fault, c.in-Err.ensures, c.tell_fault.ensures))
