use Rattle.sql_maps.specs.Maps.{ListedBy, PairBelow}
use Rattle.circ_tables.specs.ClosedDays.{closed_days, closed_days_are}
use Rattle.circ_tables.specs.TableSchemas.{has_first}
use Rattle.terms.specs.declared.limits.TheConstants.{SCHEMA}
use Rattle.circ_tables.specs.Selections.{is_any}
use Rattle.circ_tables.proofs.PairedLemmas.{all_plain, pair_listed}
use Rattle.circ_tables.proofs.ReadingLemmas.{lists_of}
use Rattle.circ_tables.proofs.TableLemmas.{closed_days_within}
use Rattle.circ_tables.proofs.closed_days.all_closed_days.Goals as goal

pub returns : goal.returns
returns g c = lists_of closed_days _ _ (all_plain (closed_days_are SCHEMA has_first)) _ (λ m. ListedBy PairBelow m is_any)
    (pair_listed (closed_days_are SCHEMA has_first)) (λ m rows listed v there. let at = listed.sound v there in (at.0, at.1))
    closed_days_within _ _ _ _ c.rows_of.ensures
