use Rattle.sql_maps.specs.Maps.{PairBelow}
use Rattle.sql_maps.specs.Batches.{FirstRowsBy}
use Rattle.circ_tables.specs.RulesOfSchema1.{rules1}
use Rattle.circ_tables.specs.Selections.{is_any}
use Rattle.circ_tables.specs.declared.by_number.TheConstants.{BATCH_ROWS}
use Rattle.circ_tables.proofs.BatchLemmas.{pairs_there}
use Rattle.circ_tables.proofs.OldRuleLemmas.{first_old_rules_found, first_old_rules_plain}
use Rattle.circ_tables.proofs.ReadingLemmas.{lists_of}
use Rattle.circ_tables.proofs.TableLemmas.{rules1_within}
use Rattle.circ_tables.proofs.rules_of_schema_1.first_old_rules.Goals as goal

pub returns : goal.returns
returns g c =
    lists_of rules1 _ _ first_old_rules_plain _ (λ m. FirstRowsBy PairBelow BATCH_ROWS m is_any) first_old_rules_found
    (pairs_there is_any) rules1_within _ _ _ _ c.rows_of.ensures
