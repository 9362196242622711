use Rattle.std.proofs.Common.{Err, refl, sym, subst}
use Rattle.circ_audit.specs.declared.auditing.Finding.{Finding}
use Rattle.circ_audit.specs.Sound.{Audits}
use Rattle.circ_audit.proofs.Audited.{audits-part, audits-end}
use Rattle.circ_audit.proofs.auditing.audit.Goals as goal

pub returns-in-Some : goal.returns-in-Some
returns-in-Some c =
    subst (λ (finding : Finding). Audits c.args.tables.now (Err finding)) (sym c.finding_of.ensures)
    (audits-part c.args.tables.now c.loop-number.part c.loop-number.invariant c.in-Some.number (record {
      broken = λ law. c.in-Some.ensures.broken (λ is. law);
      below = λ m lt. c.in-Some.ensures.below m lt refl;
    }))

pub returns-in-None : goal.returns-in-None
returns-in-None c =
    audits-end c.args.tables.now c.loop-number.part c.loop-number.invariant (λ n. c.in_default.ensures n refl) c.in-None.ensures
