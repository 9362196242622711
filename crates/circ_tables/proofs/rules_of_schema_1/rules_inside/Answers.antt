use Rattle.sql_maps.specs.Maps.{ListedBy, PairBelow}
use Rattle.circ_tables.specs.RulesOfSchema1.{rules1, rules1_are}
use Rattle.circ_tables.specs.Selections.{is_any}
use Rattle.circ_tables.proofs.PairedLemmas.{pair_listed}
use Rattle.circ_tables.proofs.ReadingLemmas.{lists_inside}
use Rattle.circ_tables.proofs.rules_of_schema_1.rules_inside.Goals as goal

pub returns : goal.returns
returns g c = lists_inside rules1 _ _ _ (λ m. ListedBy PairBelow m is_any) (λ n has. pair_listed (rules1_are n has))
    (λ m rows listed v there. let at = listed.sound v there in (at.0, at.1)) _ _ _ _ c.rows_inside.ensures
