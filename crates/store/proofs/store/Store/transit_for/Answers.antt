use Rattle.circ_core.specs.Views.{IsTravelFor}
use Rattle.circ_tables.specs.Transits.{transits_are}
use Rattle.circ_tables.proofs.ShownLemmas.{are_encoded}
use Rattle.store.proofs.ReadLemmas.{looked_sound}
use Rattle.store.proofs.ViewLemmas.{travel_seen, selects_sound}
use Rattle.store.proofs.store.Store.transit_for.Goals as goal

pub returns : goal.returns
returns g c =
    let found = rw c.self.view_is at c.transit_for.ensures in
    looked_sound (λ P row. IsTravelFor P c.args.hold row) g.S.Store _ _ _ (rw c.self.view_is at (c.committed_is_held.ensures))
    (travel_seen found) (selects_sound (are_encoded transits_are) found)
