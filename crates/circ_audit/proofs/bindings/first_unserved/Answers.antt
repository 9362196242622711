use Rattle.std.proofs.Common.{ℕ, ◌+◌, List, Option, take, sym, ◌∙◌, subst, arith}
use Rattle.std.proofs.lemmas.List.{take_all}
use Rattle.terms.specs.declared.row.TransitRow.{TransitRow}
use Rattle.circ_audit.specs.Sound.{FailsFirst}
use Rattle.circ_audit.proofs.Binding.{AreServed, served-more, served-after}
use Rattle.circ_audit.proofs.bindings.first_unserved.Goals as goal

pub loop-row-preserved : goal.loop-row-preserved
loop-row-preserved c =
    subst (λ (o : Option ℕ). FailsFirst (AreServed c.args.tables.now c.args.after (take (c.loop-row.row-index + 1) c.as_slice-row-items.result.now)) o)
    (sym c.unserved_with-first.ensures)
    (served-more c.args.tables.now c.args.after c.loop-row.row-index c.loop-row.first c.as_slice-row-items.result.now c.row-item.result
    c.loop-row-test.true c.row-item.is c.loop-row.invariant)

pub returns : goal.returns
returns c =
    served-after c.args.tables.now c.args.after c.loop-row.first
    (subst (λ (rows : List TransitRow). FailsFirst (AreServed c.args.tables.now c.args.after rows) c.loop-row.first)
    (take_all c.loop-row.row-index c.as_slice-row-items.result.now (omega arith) ∙ c.as_slice-row-items.ensures.rows)
    c.loop-row.invariant)
