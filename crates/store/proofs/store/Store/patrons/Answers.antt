use Rattle.store.specs.Lists.{AreRows, AllPass}
use Rattle.store.proofs.ReadLemmas.{looked_view}
use Rattle.store.proofs.ReviewLemmas.{viewed}
use Rattle.store.proofs.store.Store.patrons.Goals as goal

pub returns : goal.returns
returns g c =
    looked_view (λ P. AreRows P.patrons (λ r. r.patron) AllPass) g.S.Store _ _ _ (rw c.self.view_is at (c.committed_is_held.ensures))
    (viewed (rw c.self.view_is at c.read_batches.ensures))
