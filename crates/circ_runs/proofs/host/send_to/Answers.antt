use Rattle.std.proofs.Common.{inl}
use Rattle.circ_runs.proofs.host.send_to.Goals as goal

pub returns-in-Some : goal.returns-in-Some
returns-in-Some g c = inl (c.in-Some.stream, c.in-Some.ensures, _, _, c.exchange.ensures)
