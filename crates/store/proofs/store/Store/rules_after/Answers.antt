use Rattle.sql_maps.specs.Maps.{PairBelow}
use Rattle.sql_maps.specs.Batches.{FirstRowsBy}
use Rattle.circ_tables.specs.Rules.{rules}
use Rattle.circ_tables.specs.Selections.{is_second_after}
use Rattle.circ_tables.specs.declared.by_number.TheConstants.{BATCH_ROWS}
use Rattle.store.specs.Batches.{AreRowsAfter}
use Rattle.store.proofs.PairedBatches.{rules_after_are}
use Rattle.store.proofs.ReadLemmas.{looked_list}
use Rattle.store.proofs.store.Store.rules_after.Goals as goal

pub returns : goal.returns
returns g c =
    looked_list rules (λ l. l.items) (λ m. FirstRowsBy PairBelow BATCH_ROWS m (is_second_after c.args.kind c.args.after))
    (λ P rows. AreRowsAfter (P.rules c.args.kind) (λ r. r.copy_kind) c.args.after rows)
    (λ maps P is legal. rules_after_are maps P is legal c.args.kind c.args.after) g.S.Store _ _ _
    (rw c.self.view_is at (c.committed_is_held.ensures)) (rw c.self.view_is at c.rules_after.ensures)
