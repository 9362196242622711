use Rattle.std.proofs.Common.{Some}
use Rattle.sql_maps.specs.Batches.{FirstRows}
use Rattle.circ_tables.specs.Kinds.{kinds, kinds_are}
use Rattle.circ_tables.specs.Selections.{is_next}
use Rattle.circ_tables.specs.declared.by_number.TheConstants.{BATCH_ROWS}
use Rattle.store.specs.Batches.{AreRowsAfter}
use Rattle.store.proofs.BatchLemmas.{batch_are}
use Rattle.store.proofs.ReadLemmas.{looked_list}
use Rattle.store.proofs.store.Store.kinds_after.Goals as goal

pub returns : goal.returns
returns g c =
    looked_list kinds (λ l. l.items) (λ m. FirstRows BATCH_ROWS m (is_next (Some c.args.after)))
    (λ P rows. AreRowsAfter P.kinds (λ r. r.kind) c.args.after rows)
    (λ maps P is legal rows limits first. (batch_are kinds_are maps P is legal (Some c.args.after) rows limits first).1) g.S.Store _ _ _
    (rw c.self.view_is at (c.committed_is_held.ensures)) (rw c.number.ensures.value at (rw c.self.view_is at c.next_rows.ensures))
