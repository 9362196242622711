use Rattle.std.proofs.Common.{refl}
use Rattle.circ_tables.proofs.PictureLemmas.{old_rule_drawn}
use Rattle.circ_tables.proofs.PairedLemmas.{pair_takes}
use Rattle.circ_tables.specs.Cells.{number}
use Rattle.circ_tables.specs.RulesOfSchema1.{rules1_are}
use Rattle.circ_tables.proofs.PutLemmas.{apart, puts_of}
use Rattle.circ_tables.proofs.rules_of_schema_1.take_old_rule.Goals as goal

pub returns : goal.returns
returns g c = puts_of _ _ _ _ (λ n has. pair_takes (rules1_are n has) (apart n) (number c.args.kind) (number c.args.copy_kind) refl refl)
    (λ n has a b any. old_rule_drawn n a b c.args.kind c.args.copy_kind)
    (rw (c.params-to_sql.ensures, c.number.ensures.value, c.params-to_sql-2.ensures, c.number-2.ensures.value) at c.run.ensures)
