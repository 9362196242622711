use Rattle.std.proofs.Common.{ℕ, ◌+◌, List, Option, take, sym, subst, arith}
use Rattle.std.proofs.lemmas.List.{take_all}
use Rattle.circ_audit.specs.References.{ArePassed}
use Rattle.circ_audit.specs.Sound.{FailsFirst}
use Rattle.circ_audit.specs.Spans.{is_passed}
use Rattle.circ_audit.proofs.Referring.{passed-more, passed-after}
use Rattle.circ_audit.proofs.references.first_unreferred.Goals as goal

pub loop-row-preserved : goal.loop-row-preserved
loop-row-preserved g c =
    let last_of = g.R.Keyed.last_of in
    let refers = g.R.Refers.refers c.args.tables.now in
    subst (λ (o : Option ℕ). FailsFirst (ArePassed last_of (λ r. is_passed c.args.after (last_of r) (refers r))
    (take (c.loop-row.row-index + 1) c.args.rows.now)) o)
    (sym c.unreferred_with-first.ensures)
    (passed-more last_of (λ r. is_passed c.args.after (last_of r) (refers r)) c.loop-row.row-index c.loop-row.first c.args.rows.now c.row-item.result
    c.loop-row-test.true c.row-item.is c.loop-row.invariant)

pub returns : goal.returns
returns g c =
    let last_of = g.R.Keyed.last_of in
    let refers = g.R.Refers.refers c.args.tables.now in
    passed-after last_of refers c.args.rows.now c.args.after c.loop-row.first
    (subst (λ (rows : List _). FailsFirst (ArePassed last_of (λ r. is_passed c.args.after (last_of r) (refers r)) rows) c.loop-row.first)
    (take_all c.loop-row.row-index c.args.rows.now (omega arith)) c.loop-row.invariant)
