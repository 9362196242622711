use Rattle.std.proofs.Common.{◌≡◌}
use Rattle.board.specs.Showing.{GoesOn}
use Rattle.hall.proofs.worker.await_entry.Given as goal

abbrev pub invariant-looks : goal.invariant-looks
invariant-looks g l = GoesOn l.window.seen l.initial.window.seen × (l.closing ≡ l.initial.closing)
