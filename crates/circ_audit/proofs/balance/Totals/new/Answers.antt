use Rattle.std.proofs.Common.{arith}
use Rattle.circ_audit.specs.Spans.{place_of}
use Rattle.circ_audit.proofs.Adding.{zero-at}
use Rattle.circ_audit.proofs.balance.Totals.new.Goals as goal

pub returns-clause-sums : goal.returns-clause-sums
returns-clause-sums c n on = zero-at 65536 (place_of n)

pub returns-clause-within : goal.returns-clause-within
returns-clause-within c k = let zero = zero-at 65536 k in omega (arith, zero)
