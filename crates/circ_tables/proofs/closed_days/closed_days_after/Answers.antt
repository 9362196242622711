use Rattle.sql_maps.specs.Maps.{PairBelow}
use Rattle.sql_maps.specs.Batches.{FirstRowsBy}
use Rattle.circ_tables.specs.ClosedDays.{closed_days}
use Rattle.circ_tables.specs.Selections.{is_second_after}
use Rattle.circ_tables.specs.declared.by_number.TheConstants.{BATCH_ROWS}
use Rattle.circ_tables.proofs.BatchLemmas.{pairs_there, closed_days_after_found, closed_days_after_plain}
use Rattle.circ_tables.proofs.ReadingLemmas.{lists_of}
use Rattle.circ_tables.proofs.TableLemmas.{closed_days_within}
use Rattle.circ_tables.proofs.closed_days.closed_days_after.Goals as goal

pub returns : goal.returns
returns g c =
    lists_of closed_days _ _ closed_days_after_plain _ (λ m. FirstRowsBy PairBelow BATCH_ROWS m (is_second_after c.args.branch c.args.after))
    (closed_days_after_found c.args.branch c.args.after) (pairs_there (is_second_after c.args.branch c.args.after)) closed_days_within _ _ _ _
    (rw (c.params-to_sql.ensures, c.number.ensures.value, c.params-to_sql-2.ensures, c.number-2.ensures.value) at c.rows_of.ensures)
