use Rattle.std.proofs.Common.{refl}
use Rattle.board.proofs.Beginnings.{goes_self}
use Rattle.hall.proofs.worker.await_entry.Goals as goal

pub looks-init : goal.looks-init
looks-init g c = (goes_self c.args.window.now.seen, refl)
