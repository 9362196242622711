use Rattle.std.proofs.Common.{rules}
use Rattle.terms.proofs.Fronts.{failed-first, second-failed, second-out}
use Rattle.circ.proofs.lines.write_all_broken.Goals as goal

pub returns-in_err-write_findings : goal.returns-in_err-write_findings
returns-in_err-write_findings g c = record {
  all = search rules;
  front = failed-first c.from_residual.result _ _ _ _ c.in_err-write_findings.ensures.front;
}

pub returns : goal.returns
returns g c = record {
  all = second-out c.write_doubled.result _ _ _ _ _ c.in_ok-write_findings.ensures.all c.write_doubled.ensures.all;
  front = second-failed c.write_doubled.result _ _ _ _ _ c.in_ok-write_findings.ensures.all c.write_doubled.ensures.front;
}
