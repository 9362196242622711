use Rattle.circ_audit.specs.Rows.{charge, credit}
use Rattle.circ_audit.proofs.Adding.{adds-more, within-more}
use Rattle.circ_audit.proofs.balance.add_lines.Goals as goal

pub loop-line-preserved : goal.loop-line-preserved
loop-line-preserved c = record {
  charges = adds-more charge c.args.lines.now c.loop-line.line-index c.line-item.result c.args.charges.now c.loop-line.charges
      c.add_line.new.charges c.loop-line-test.true c.line-item.is c.loop-line.invariant.charges c.add_line.ensures.charges;
  credits = adds-more credit c.args.lines.now c.loop-line.line-index c.line-item.result c.args.credits.now c.loop-line.credits
      c.add_line.new.credits c.loop-line-test.true c.line-item.is c.loop-line.invariant.credits c.add_line.ensures.credits;
  charged = within-more (charge c.line-item.result) c.loop-line.line-index c.loop-line.charges c.add_line.new.charges
      c.loop-line.invariant.charged c.add_line.ensures.charges;
  credited = within-more (credit c.line-item.result) c.loop-line.line-index c.loop-line.credits c.add_line.new.credits
      c.loop-line.invariant.credited c.add_line.ensures.credits;
}
