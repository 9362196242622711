use Rattle.desk.proofs.TillBatches.{sums-then}
use Rattle.desk.proofs.till.add_lines.Goals as goal

pub returns : goal.returns
returns c = λ before is. sums-then before c.args.rows.now c.args.sums is _ _ _ _ _ c.added.ensures c.added-2.ensures c.added-3.ensures
    c.added-4.ensures c.added-5.ensures
