use Rattle.std.proofs.Common.{sym, subst}
use Rattle.circ_audit.specs.declared.parts.Part.{Part}
use Rattle.circ_audit.specs.Findings.{PartLaw}
use Rattle.circ_audit.specs.Spans.{FailsAfter}
use Rattle.circ_audit.proofs.parts.first_wrong.Goals as goal

pub returns-in-Bindings : goal.returns-in-Bindings
returns-in-Bindings c =
    subst (λ (part : Part). FailsAfter c.args.after (PartLaw c.args.tables.now part) c.first_unbound.result) (sym c.in-Bindings.is) c.first_unbound.ensures
