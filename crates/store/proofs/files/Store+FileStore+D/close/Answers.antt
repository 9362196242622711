use Rattle.std.proofs.Common.{◌≡◌, IsTrue, subst}
use Rattle.std.proofs.Math.Logic.{∥∥₁_map}
use Rattle.sqlite.specs.Files.{file_state}
use Rattle.circ_tables.specs.Encoding.{HasPicture}
use Rattle.store.proofs.files.Store+FileStore+D.close.Goals as goal

pub returns-in-Ok : goal.returns-in-Ok
returns-in-Ok g c = record {
  closed = let it = rw c.into_connection.ensures.same at c.in-Ok.ensures.ok in (it.0, it.1, it.2);
  copied = λ honest P keeps image may.
      let it = rw c.into_connection.ensures.same at (c.in-Ok.ensures.copied honest) in
      let was = file_state c.args.self in
      let settled : IsTrue was.is_open → was.now ≡ was.committed = rw c.self.view_is at (c.committed_is_held.ensures) in
      let shown : HasPicture was.committed P = subst (λ d. HasPicture d P) (settled it.was_open) keeps.now in
      let held = it.left image may in
      (∥∥₁_map held.both (λ one. (was.committed, shown, one)), ∥∥₁_map held.alone (λ one. (was.committed, shown, one)));
}
