use Rattle.sql_maps.specs.Maps.{PairBelow}
use Rattle.sql_maps.specs.Batches.{FirstRowsBy}
use Rattle.circ_tables.specs.Kept.{kept}
use Rattle.circ_tables.specs.Selections.{is_any}
use Rattle.circ_tables.specs.declared.by_number.TheConstants.{BATCH_ROWS}
use Rattle.circ_tables.proofs.BatchLemmas.{pairs_there, first_kept_found, first_kept_plain}
use Rattle.circ_tables.proofs.ReadingLemmas.{lists_of}
use Rattle.circ_tables.proofs.TableLemmas.{kept_within}
use Rattle.circ_tables.proofs.kept.first_kept.Goals as goal

pub returns : goal.returns
returns g c =
    lists_of kept _ _ first_kept_plain _ (λ m. FirstRowsBy PairBelow BATCH_ROWS m is_any) first_kept_found
    (pairs_there is_any) kept_within _ _ _ _ c.rows_of.ensures
