use Rattle.circ_tables.specs.Copies.{copies_are}
use Rattle.circ_tables.proofs.ShownLemmas.{are_encoded}
use Rattle.store.specs.Batches.{IsLeastShelved}
use Rattle.store.proofs.ReadLemmas.{looked_sound}
use Rattle.store.proofs.ViewLemmas.{least_shelved_seen, selects_sound}
use Rattle.store.proofs.store.Store.least_shelved.Goals as goal

pub returns : goal.returns
returns g c =
    let found = rw c.self.view_is at c.least_shelved.ensures in
    looked_sound (λ P row. IsLeastShelved P c.args.title c.args.branch row) g.S.Store _ _ _ (rw c.self.view_is at (c.committed_is_held.ensures))
    (least_shelved_seen found) (selects_sound (are_encoded copies_are) found)
