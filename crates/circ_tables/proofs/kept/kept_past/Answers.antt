use Rattle.sql_maps.specs.Maps.{PairBelow}
use Rattle.sql_maps.specs.Batches.{FirstRowsBy}
use Rattle.circ_tables.specs.Cells.{owner_number}
use Rattle.circ_tables.specs.Kept.{kept}
use Rattle.circ_tables.specs.Selections.{is_after}
use Rattle.circ_tables.specs.declared.by_number.TheConstants.{BATCH_ROWS}
use Rattle.circ_tables.proofs.BatchLemmas.{pairs_there, kept_past_found, kept_past_plain}
use Rattle.circ_tables.proofs.ReadingLemmas.{lists_of}
use Rattle.circ_tables.proofs.TableLemmas.{kept_within}
use Rattle.circ_tables.proofs.kept.kept_past.Goals as goal

pub returns : goal.returns
returns g c =
    lists_of kept _ _ kept_past_plain _ (λ m. FirstRowsBy PairBelow BATCH_ROWS m (is_after (owner_number c.args.owner)))
    (kept_past_found (owner_number c.args.owner)) (pairs_there (is_after (owner_number c.args.owner))) kept_within _ _ _ _
    (rw (c.params-to_sql.ensures, c.owner_number.ensures) at c.rows_of.ensures)
