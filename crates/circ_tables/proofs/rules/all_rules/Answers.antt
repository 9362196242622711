use Rattle.sql_maps.specs.Maps.{ListedBy, PairBelow}
use Rattle.circ_tables.specs.Rules.{rules, rules_are}
use Rattle.circ_tables.specs.TableSchemas.{has_third}
use Rattle.terms.specs.declared.limits.TheConstants.{SCHEMA}
use Rattle.circ_tables.specs.Selections.{is_any}
use Rattle.circ_tables.proofs.PairedLemmas.{all_plain, pair_listed}
use Rattle.circ_tables.proofs.ReadingLemmas.{lists_of}
use Rattle.circ_tables.proofs.TableLemmas.{rules_within}
use Rattle.circ_tables.proofs.rules.all_rules.Goals as goal

pub returns : goal.returns
returns g c = lists_of rules _ _ (all_plain (rules_are SCHEMA has_third)) _ (λ m. ListedBy PairBelow m is_any)
    (pair_listed (rules_are SCHEMA has_third)) (λ m rows listed v there. let at = listed.sound v there in (at.0, at.1)) rules_within _ _ _ _
    c.rows_of.ensures
