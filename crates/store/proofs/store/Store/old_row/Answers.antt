use Rattle.store.specs.Older.{IsFirstOldRow}
use Rattle.store.proofs.ReadLemmas.{looked_view}
use Rattle.store.proofs.OldRows.{old_view, old_tells}
use Rattle.store.proofs.store.Store.old_row.Goals as goal

pub returns : goal.returns
returns g c = record {
  looked = looked_view IsFirstOldRow g.S.Store _ _ _ (rw c.self.view_is at (c.committed_is_held.ensures)) (old_view (rw c.self.view_is at c.old_row.ensures));
  tells = old_tells (rw c.self.view_is at c.old_row.ensures);
}
