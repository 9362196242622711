use Rattle.store.specs.Lists.{AreAuditTables}
use Rattle.store.proofs.ReadLemmas.{looked_view}
use Rattle.store.proofs.ReviewLemmas.{viewed, answers_legal}
use Rattle.store.proofs.store.Store.audit_tables.Goals as goal

pub returns : goal.returns
returns g c = record {
  looked = looked_view AreAuditTables g.S.Store _ _ _ (rw c.self.view_is at (c.committed_is_held.ensures)) (viewed (rw c.self.view_is at c.audit_tables.ensures));
  legal = answers_legal _ (rw c.self.view_is at c.audit_tables.ensures);
}
