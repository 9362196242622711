use Rattle.std.proofs.Common.{refl}
use Rattle.circ_tables.specs.Cells.{number}
use Rattle.circ_tables.specs.Encoding.{Pair}
use Rattle.circ_tables.specs.Rules.{rules, rules_are}
use Rattle.circ_tables.specs.TableSchemas.{has_third}
use Rattle.terms.specs.declared.limits.TheConstants.{SCHEMA}
use Rattle.circ_tables.proofs.InverseLemmas.{rule_told}
use Rattle.circ_tables.proofs.PairedLemmas.{get_plain, pair_gets}
use Rattle.circ_tables.proofs.ReadingLemmas.{gets_of}
use Rattle.circ_tables.proofs.rules.get_rule.Goals as goal

pub returns : goal.returns
returns g c =
    let key : Pair = (c.args.kind, c.args.copy_kind) in
    gets_of rules rule_told _ (get_plain (rules_are SCHEMA has_third)) key _
    (pair_gets (rules_are SCHEMA has_third) (number c.args.kind) (number c.args.copy_kind) refl refl)
    (λ maps P is. is.rules.there key tt) (λ P legal r there. (legal.rules key.0 key.1 r there).2) _ _ _ _
    (rw (c.params-to_sql.ensures, c.number.ensures.value, c.params-to_sql-2.ensures, c.number-2.ensures.value) at c.row_of.ensures)
