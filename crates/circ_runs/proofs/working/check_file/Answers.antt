use Rattle.std.proofs.Common.{inl}
use Rattle.circ_runs.proofs.working.check_file.Goals as goal

pub returns-in-Some : goal.returns-in-Some
returns-in-Some g c = inl (c.in-Some.file, c.check-found.result.0, c.in-Some.ensures.opened, c.check-found.ensures)
