use Rattle.std.proofs.Common.{arith}
use Rattle.circ_audit.proofs.counters.SpanCounters.look.Goals as goal

pub returns : goal.returns
returns c times shows = record {
  broken = c.twice.ensures times shows;
  ahead = shows.ahead;
  between = λ n later below is. let none = shows.between n later below in omega (arith, none);
}
