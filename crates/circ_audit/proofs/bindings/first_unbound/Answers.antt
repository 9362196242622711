use Rattle.std.proofs.Common.{ℕ, Option, sym, ◌∙◌, ap, subst}
use Rattle.circ_audit.specs.Sound.{IsRightlyBound}
use Rattle.circ_audit.specs.Spans.{earlier_of, FailsAfter}
use Rattle.circ_audit.proofs.Binding.{bound-first}
use Rattle.circ_audit.proofs.bindings.first_unbound.Goals as goal

pub returns : goal.returns
returns c =
    subst (λ (o : Option ℕ). FailsAfter c.args.after (IsRightlyBound c.args.tables.now) o)
    (sym (c.earlier.ensures ∙ ap (λ (o : Option ℕ). earlier_of o c.first_broken.result) c.earlier-alone.ensures))
    (bound-first c.args.tables.now c.args.after c.first_unfit.result c.first_unserved.result c.first_broken.result c.first_unfit.ensures
    c.first_unserved.ensures c.first_broken.ensures)
