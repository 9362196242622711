use Rattle.std.proofs.Common.{◌≡◌}
use Rattle.circ_core.specs.Views.{IsFirstOf}
use Rattle.circ_tables.specs.Holds.{holds_are}
use Rattle.circ_tables.proofs.ShownLemmas.{are_encoded}
use Rattle.store.proofs.ReadLemmas.{looked_sound}
use Rattle.store.proofs.ViewLemmas.{first_seen, selects_sound}
use Rattle.store.proofs.store.Store.first_in_line.Goals as goal

pub returns : goal.returns
returns g c =
    let found = rw c.self.view_is at c.first_in_line.ensures in
    looked_sound (λ P first. c.args.today ≡ P.meta.today → IsFirstOf P c.args.title first) g.S.Store _ _ _
    (rw c.self.view_is at (c.committed_is_held.ensures)) (first_seen found) (selects_sound (are_encoded holds_are) found)
