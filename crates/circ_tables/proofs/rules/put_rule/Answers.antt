use Rattle.std.proofs.Common.{pos}
use Rattle.circ_tables.proofs.NumberLemmas.{amount_back}
use Rattle.circ_tables.proofs.PictureLemmas.{rule_drawn}
use Rattle.circ_tables.proofs.PairedLemmas.{pair_puts, rule_fills}
use Rattle.circ_tables.specs.Cells.{number, rule_cells}
use Rattle.circ_tables.specs.Rules.{rules_are}
use Rattle.circ_tables.proofs.PutLemmas.{apart, puts_of}
use Rattle.circ_tables.proofs.rules.put_rule.Goals as goal

pub returns : goal.returns
returns g c = puts_of _ _ _ _ (λ n has. pair_puts (rules_are n has) (apart n) (number c.args.row.now.kind) (number c.args.row.now.copy_kind)
    (rule_cells c.args.row.now)
    (rule_fills (pos c.args.row.now.kind) (pos c.args.row.now.copy_kind) (pos c.args.row.now.period) (pos c.args.row.now.renewals)
    (pos c.args.row.now.rate) (pos c.args.row.now.cap) (pos c.args.row.now.grace))) (λ n has a b any. rule_drawn n a b c.args.row.now)
    (rw (
      c.params-to_sql.ensures,
      c.number.ensures.value,
      c.params-to_sql-2.ensures,
      c.number-2.ensures.value,
      c.params-to_sql-3.ensures,
      c.number-3.ensures.value,
      c.params-to_sql-4.ensures,
      c.number-4.ensures.value,
      c.params-to_sql-5.ensures,
      amount_back _ _ c.money-rate.ensures,
      c.params-to_sql-6.ensures,
      amount_back _ _ c.money-cap.ensures,
      c.params-to_sql-7.ensures,
      c.number-5.ensures.value,
    ) at c.run.ensures)
