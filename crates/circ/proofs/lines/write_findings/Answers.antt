use Rattle.std.proofs.Common.{ℕ, List, Option, subst, rules}
use Rattle.terms.specs.Writing.{AppendsFront}
use Rattle.circ_audit.specs.declared.auditing.Finding.{Finding}
use Rattle.circ.specs.Lines.{finding_line}
use Rattle.circ.proofs.CheckedRows.{failed-line}
use Rattle.circ.proofs.lines.write_findings.Goals as goal

pub returns-in_err-tell_finding : goal.returns-in_err-tell_finding
returns-in_err-tell_finding g c = record {
  all = search rules;
  front = failed-line finding_line c.from_residual.result _ _ _ c.args.broken.now c.loop-finding.finding-index c.finding-item.result
      c.loop-finding-test.true c.loop-finding.invariant
      (subst (λ (finding : Finding). AppendsFront (g.W.Write.contents c.loop-finding.writer)
      (g.W.Write.contents c.tell_finding.new.writer) (finding_line finding)) c.finding-item.is c.in_err-tell_finding.ensures.writes.front);
}
