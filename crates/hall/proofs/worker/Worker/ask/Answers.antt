use Rattle.std.specs.Arc.{arc_value}
use Rattle.desk.proofs.Looking.{if-ok}
use Rattle.hall.proofs.NoStepBack.{replied}
use Rattle.hall.proofs.worker.Worker.ask.Goals as goal

pub returns-in-Ok-submit-clause-found : goal.returns-in-Ok-submit-clause-found
returns-in-Ok-submit-clause-found g c = if-ok _ _ c.await_reply.result
    (λ entry. replied c.args.self.now c.catch_up.new.self c.submit.new.self c.await_reply.new.self c.args.request c.in-Ok-new.own
    c.in-Ok-try_clone.other (arc_value entry).answer
    c.catch_up.ensures.same c.catch_up.ensures.on c.in-Ok.ensures.all (c.in-Ok-submit.ensures.once, c.submit.ensures.same.0) c.await_reply.ensures.same c.await_reply.ensures.on
    c.in-Ok-new.ensures c.in-Ok-try_clone.ensures)
    c.await_reply.ensures.found
