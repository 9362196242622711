use Rattle.std.proofs.Common.{rules}
use Rattle.circ_audit.specs.declared.auditing.Finding.TheVariants.{Reference}
use Rattle.circ_audit.specs.declared.references.Table.TheVariants as table
use Rattle.circ.specs.Lines.{finding_line}
use Rattle.circ.proofs.CheckedRows.{failed-line, more-lines}
use Rattle.circ.proofs.lines.write_doubled.Goals as goal

pub returns-in_err-tell_finding : goal.returns-in_err-tell_finding
returns-in_err-tell_finding g c = record {
  all = search rules;
  front = failed-line (λ n. finding_line (Reference table.Barcodes n)) c.from_residual.result _ _ _ c.args.doubled.now c.loop-thing.thing-index _ c.loop-thing-test.true c.loop-thing.invariant
      c.in_err-tell_finding.ensures.writes.front;
}

pub loop-thing-preserved : goal.loop-thing-preserved
loop-thing-preserved g c =
    more-lines (λ n. finding_line (Reference table.Barcodes n)) _ _ _ c.args.doubled.now c.loop-thing.thing-index _ c.loop-thing-test.true
    c.loop-thing.invariant c.in_ok-tell_finding.ensures.writes.all
