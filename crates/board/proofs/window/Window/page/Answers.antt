use Rattle.left_right.specs.Sides.{view}
use Rattle.board.proofs.Keeping.{looks}
use Rattle.board.proofs.window.Window.page.Goals as goal

pub enter_as-requires : goal.enter_as-requires
enter_as-requires g c = looks g.J.Naming.book c.in-Some.idle.place.id (view c.in-Some.idle.place)
