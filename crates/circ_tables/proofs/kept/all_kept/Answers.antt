use Rattle.sql_maps.specs.Maps.{ListedBy, PairBelow}
use Rattle.circ_tables.specs.Kept.{kept, kept_are}
use Rattle.circ_tables.specs.TableSchemas.{has_first}
use Rattle.terms.specs.declared.limits.TheConstants.{SCHEMA}
use Rattle.circ_tables.specs.Selections.{is_any}
use Rattle.circ_tables.proofs.PairedLemmas.{all_plain, pair_listed}
use Rattle.circ_tables.proofs.ReadingLemmas.{lists_of}
use Rattle.circ_tables.proofs.TableLemmas.{kept_within}
use Rattle.circ_tables.proofs.kept.all_kept.Goals as goal

pub returns : goal.returns
returns g c = lists_of kept _ _ (all_plain (kept_are SCHEMA has_first)) _ (λ m. ListedBy PairBelow m is_any)
    (pair_listed (kept_are SCHEMA has_first)) (λ m rows listed v there. let at = listed.sound v there in (at.0, at.1)) kept_within _ _ _ _
    c.rows_of.ensures
