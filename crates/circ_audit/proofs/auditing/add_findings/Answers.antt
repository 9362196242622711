use Rattle.std.proofs.Common.{◌+◌, List, ◌∷◌, [], ◌++◌, sym, ◌∙◌, ap, subst, arith}
use Rattle.circ_audit.specs.declared.auditing.Finding.{Finding}
use Rattle.circ_audit.specs.Findings.{AreFindingsBefore, place_of_part}
use Rattle.circ_audit.proofs.Found.{full-part, done-part, more-found}
use Rattle.circ_audit.proofs.auditing.add_findings.Goals as goal

pub returns-in_default : goal.returns-in_default
returns-in_default c =
    done-part c.args.tables.now c.args.part c.loop-part.after c.loop-part.found.items c.loop-part.invariant c.in_default.ensures

pub loop-part-preserved : goal.loop-part-preserved
loop-part-preserved c =
    let len = c.len.ensures in
    let few = c.loop-part-test.true in
    subst (λ (found : List Finding). AreFindingsBefore c.args.tables.now (place_of_part c.args.part) (c.in-Some.number + 1) found)
    (sym (c.in_ok-push.ensures.items ∙ ap (λ (finding : Finding). c.loop-part.found.items ++ finding ∷ []) c.finding_of.ensures))
    (more-found c.args.tables.now c.args.part c.loop-part.after c.loop-part.found.items c.loop-part.invariant c.in-Some.number
    (omega (arith, len, few)) c.in-Some.ensures)

pub returns : goal.returns
returns c =
    let len = c.len.ensures in
    let full = c.loop-part-test.false in
    full-part c.args.tables.now c.args.part c.loop-part.after c.loop-part.found.items c.loop-part.invariant (omega (arith, len, full))
