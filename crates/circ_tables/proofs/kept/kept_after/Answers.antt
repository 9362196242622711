use Rattle.sql_maps.specs.Maps.{PairBelow}
use Rattle.sql_maps.specs.Batches.{FirstRowsBy}
use Rattle.circ_tables.specs.Cells.{owner_number}
use Rattle.circ_tables.specs.Kept.{kept}
use Rattle.circ_tables.specs.Selections.{is_kept_after}
use Rattle.circ_tables.specs.declared.by_number.TheConstants.{BATCH_ROWS}
use Rattle.circ_tables.proofs.BatchLemmas.{pairs_there, kept_after_found, kept_after_plain}
use Rattle.circ_tables.proofs.ReadingLemmas.{lists_of}
use Rattle.circ_tables.proofs.TableLemmas.{kept_within}
use Rattle.circ_tables.proofs.kept.kept_after.Goals as goal

pub returns : goal.returns
returns g c =
    lists_of kept _ _ kept_after_plain _ (λ m. FirstRowsBy PairBelow BATCH_ROWS m (is_kept_after (owner_number c.args.owner) c.args.key.now))
    (kept_after_found (owner_number c.args.owner) c.args.key.now)
    (pairs_there (is_kept_after (owner_number c.args.owner) c.args.key.now)) kept_within _ _ _ _
    (rw (c.params-to_sql.ensures, c.owner_number.ensures, c.params-to_sql-2.ensures, c.as_str.ensures.value) at c.rows_of.ensures)
