use Rattle.std.proofs.Common.{ℕ, ◌+◌, List, Option, take, sym, ◌∙◌, subst, arith}
use Rattle.std.proofs.lemmas.List.{take_all}
use Rattle.terms.specs.declared.row.HoldRow.{HoldRow}
use Rattle.circ_audit.specs.Rows.{is_fit}
use Rattle.circ_audit.specs.Sound.{FailsFirst}
use Rattle.circ_audit.proofs.Binding.{AreFit, fit-more}
use Rattle.circ_audit.proofs.Referring.{passed-after}
use Rattle.circ_audit.proofs.bindings.first_unfit.Goals as goal

pub loop-row-preserved : goal.loop-row-preserved
loop-row-preserved c =
    subst (λ (o : Option ℕ). FailsFirst (AreFit c.args.tables.now c.args.after (take (c.loop-row.row-index + 1) c.as_slice-row-items.result.now)) o)
    (sym c.unfit_with-first.ensures)
    (fit-more c.args.tables.now c.args.after c.loop-row.row-index c.loop-row.first c.as_slice-row-items.result.now c.row-item.result c.loop-row-test.true
    c.row-item.is c.loop-row.invariant)

pub returns : goal.returns
returns c =
    passed-after (λ r. r.hold) (is_fit c.args.tables.now.copies) c.args.tables.now.holds c.args.after c.loop-row.first
    (subst (λ (rows : List HoldRow). FailsFirst (AreFit c.args.tables.now c.args.after rows) c.loop-row.first)
    (take_all c.loop-row.row-index c.as_slice-row-items.result.now (omega arith) ∙ c.as_slice-row-items.ensures.rows)
    c.loop-row.invariant)
