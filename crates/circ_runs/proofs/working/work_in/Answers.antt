use Rattle.std.proofs.Common.{inl}
use Rattle.circ_runs.proofs.working.work_in.Goals as goal

pub returns-in-Some : goal.returns-in-Some
returns-in-Some g c =
    let did = c.work_on-tables.ensures in inl (c.in-Ok.tables, did.0, c.in-Ok.ensures.opened, did.2)

pub returns-in_default : goal.returns-in_default
returns-in_default g c =
    let did = c.work_on-tables.ensures in inl (c.in-Ok.tables, did.0, c.in-Ok.ensures.opened, did.2)
