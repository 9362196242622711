use Rattle.std.proofs.Common.{◌+◌, List, sym, subst, arith}
use Rattle.circ_audit.specs.declared.auditing.Finding.{Finding}
use Rattle.circ_audit.specs.Findings.{AreFindingsBefore, place_of_part}
use Rattle.circ_audit.proofs.Found.{none-before, all-before-place}
use Rattle.circ_audit.proofs.Audited.{audits-head}
use Rattle.circ_audit.proofs.auditing.audit_all.Goals as goal

pub loop-found-init : goal.loop-found-init
loop-found-init c = subst (λ (found : List Finding). AreFindingsBefore c.args.tables.now 0 0 found) (sym c.new-found.ensures.items) (none-before c.args.tables.now)

pub returns-in-None-clause-findings : goal.returns-in-None-clause-findings
returns-in-None-clause-findings c =
    all-before-place c.args.tables.now (place_of_part c.loop-found.part + 1) c.add_findings.new.found.items
    (λ part. let le = c.in-None.ensures part in omega (arith, le)) c.in_ok-add_findings.ensures

pub returns-in-None-clause-first : goal.returns-in-None-clause-first
returns-in-None-clause-first c =
    audits-head c.args.tables.now c.add_findings.new.found.items
    (all-before-place c.args.tables.now (place_of_part c.loop-found.part + 1) c.add_findings.new.found.items
    (λ part. let le = c.in-None.ensures part in omega (arith, le)) c.in_ok-add_findings.ensures)
