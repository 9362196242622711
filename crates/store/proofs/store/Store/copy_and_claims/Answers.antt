use Rattle.circ_core.specs.Views.{IsCopyView}
use Rattle.store.proofs.ReadLemmas.{looked_sound}
use Rattle.store.proofs.store.Store.copy_and_claims.Goals as goal

pub returns : goal.returns
returns g c =
    looked_sound (λ P rows. IsCopyView P c.args.copy rows) g.S.Store _ _ _ (rw c.self.view_is at (c.committed_is_held.ensures))
    (rw c.self.view_is at c.copy_view.ensures.view) (rw c.self.view_is at c.copy_view.ensures.sound)
