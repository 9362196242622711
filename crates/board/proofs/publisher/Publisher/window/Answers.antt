use Rattle.board.proofs.Keeping.{admits}
use Rattle.board.proofs.publisher.Publisher.window.Goals as goal

pub reader-requires : goal.reader-requires
reader-requires g c = admits g.J.Naming.book
