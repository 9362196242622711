use Rattle.circ_core.specs.Views.{IsThingOf}
use Rattle.store.proofs.ReadLemmas.{looked_sound}
use Rattle.store.proofs.store.Store.find_barcode.Goals as goal

pub returns : goal.returns
returns g c =
    looked_sound (λ P thing. IsThingOf P c.args.barcode.now thing) g.S.Store _ _ _ (rw c.self.view_is at (c.committed_is_held.ensures))
    (rw c.self.view_is at c.labelled.ensures.view) (rw c.self.view_is at c.labelled.ensures.sound)
