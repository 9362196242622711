use Rattle.std.proofs.Common.{◌≡◌, ℕ, true, sym, subst}
use Rattle.board.specs.Workers.{is_worker}
use Rattle.board.proofs.Lasts.{worker_tells}
use Rattle.hall.proofs.queue_ends.sender.Goals as goal

pub returns-clause-least : goal.returns-clause-least
returns-clause-least g =
    (worker_tells g.number.result (subst (λ (w : ℕ). is_worker w ≡ true) (sym g.number.ensures.value) g.number.ensures.limits)).0
