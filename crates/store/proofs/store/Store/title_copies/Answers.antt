use Rattle.sql_maps.specs.Maps.{Listed}
use Rattle.circ_tables.specs.Copies.{copies}
use Rattle.circ_tables.specs.Selections.{is_copy_of}
use Rattle.store.specs.Lists.{AreCopiesOf}
use Rattle.store.proofs.ListLemmas.{copies_of_are}
use Rattle.store.proofs.ReadLemmas.{looked_list}
use Rattle.store.proofs.store.Store.title_copies.Goals as goal

pub returns : goal.returns
returns g c =
    looked_list copies (λ l. l.items) (λ m. Listed m (is_copy_of c.args.title)) (λ P rows. AreCopiesOf P c.args.title rows)
    (λ maps P is legal. copies_of_are maps P is legal c.args.title) g.S.Store _ _ _
    (rw c.self.view_is at (c.committed_is_held.ensures)) (rw c.self.view_is at c.copies_of_title.ensures)
