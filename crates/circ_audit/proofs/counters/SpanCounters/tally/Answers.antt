use Rattle.std.proofs.Common.{ℕ, List, cond, Option, subst, arith}
use Rattle.std.specs.Prelude.{count_by}
use Rattle.std.proofs.lemmas.List.{take_all}
use Rattle.circ_audit.specs.Rows.{names}
use Rattle.circ_audit.specs.Spans.{CountsMore}
use Rattle.circ_audit.proofs.Counting.{tally-more}
use Rattle.circ_audit.proofs.counters.SpanCounters.tally.Goals as goal

pub loop-row-preserved : goal.loop-row-preserved
loop-row-preserved g c =
    tally-more g.R.Names.named c.args.rows.now c.loop-row.row-index c.row-item.result c.args.self.now c.loop-row.self c.count.new.self
    c.loop-row-test.true c.row-item.is c.loop-row.invariant
    (subst (λ (o : Option ℕ). CountsMore (λ n. cond (names o n) 1 0) c.loop-row.self c.count.new.self) c.named.ensures c.count.ensures)

pub returns : goal.returns
returns g c =
    subst (λ (xs : List _). CountsMore (λ n. count_by (λ r. names (g.R.Names.named r) n) xs) c.args.self.now c.loop-row.self)
    (take_all c.loop-row.row-index c.args.rows.now (omega arith)) c.loop-row.invariant
