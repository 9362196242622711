use Rattle.std.proofs.Common.{pos}
use Rattle.circ_tables.proofs.PictureLemmas.{meta_drawn}
use Rattle.circ_tables.proofs.RowLemmas.{meta_steps}
use Rattle.circ_tables.proofs.PutLemmas.{puts_of}
use Rattle.circ_tables.proofs.meta.put_meta.Goals as goal

pub returns : goal.returns
returns g c = puts_of _ _ _ _ (meta_steps (pos 1) (pos c.args.row.now.schema) (pos c.args.row.now.today) (pos c.args.row.now.next_loan)
    (pos c.args.row.now.next_hold) (pos c.args.row.now.next_line)) (λ n has a b any. meta_drawn n a b c.args.row.now)
    (rw (
      c.params-to_sql.ensures,
      c.params-to_sql-2.ensures,
      c.params-to_sql-3.ensures,
      c.number.ensures.value,
      c.params-to_sql-4.ensures,
      c.number-2.ensures.value,
      c.params-to_sql-5.ensures,
      c.number-3.ensures.value,
      c.params-to_sql-6.ensures,
      c.number-4.ensures.value,
    ) at c.run.ensures)
