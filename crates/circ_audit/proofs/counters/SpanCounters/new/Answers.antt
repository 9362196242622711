use Rattle.circ_audit.proofs.Counting.{nothing-counted}
use Rattle.circ_audit.proofs.counters.SpanCounters.new.Goals as goal

pub returns-clause-shows : goal.returns-clause-shows
returns-clause-shows c = nothing-counted 65536 c.args.span
