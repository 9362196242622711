use Rattle.std.proofs.Common.{List, subst, arith}
use Rattle.std.proofs.lemmas.List.{take_all}
use Rattle.terms.specs.declared.row.PatronRow.{PatronRow}
use Rattle.circ_audit.specs.Spans.{LooksAtRows}
use Rattle.circ_audit.proofs.Adding.{rows-more}
use Rattle.circ_audit.proofs.balance.look_at_patrons.Goals as goal

pub loop-row-preserved : goal.loop-row-preserved
loop-row-preserved c =
    rows-more c.args.after c.args.rows.now c.loop-row.row-index c.row-item.result c.args.charges.now c.args.credits.now c.loop-row.look
    c.look_at.new.look c.loop-row-test.true c.row-item.is
    c.look_at.ensures.broken c.look_at.ensures.next c.loop-row.invariant

pub returns : goal.returns
returns c = subst (λ (xs : List PatronRow). LooksAtRows c.args.after xs c.args.charges.now c.args.credits.now c.loop-row.look)
    (take_all c.loop-row.row-index c.args.rows.now (omega arith)) c.loop-row.invariant
