use Rattle.std.proofs.Common.{length, sym, subst, arith}
use Rattle.hall.specs.Queue.{AreFrom}
use Rattle.hall.specs.Serving.{AreWorkers}
use Rattle.circ.proofs.Parts.{workers-length}
use Rattle.circ.proofs.serving.run_all.Goals as goal

pub run-desk-requires-clause-fellows : goal.run-desk-requires-clause-fellows
run-desk-requires-clause-fellows g c κs within = workers-length (length c.args.connections.now.items) c.args.workers.items c.requires.workers

pub run-desk-requires-clause-workers : goal.run-desk-requires-clause-workers
run-desk-requires-clause-workers g c κs within =
    subst (λ n. AreWorkers n c.args.workers.items) (sym (workers-length (length c.args.connections.now.items) c.args.workers.items c.requires.workers)) c.requires.workers

pub run-desk-requires-clause-within : goal.run-desk-requires-clause-within
run-desk-requires-clause-within g c κs within = omega (arith, workers-length (length c.args.connections.now.items) c.args.workers.items c.requires.workers, c.requires.within)

pub returns : goal.returns
returns g c = let met = c.run-desk.result in let all = c.run-desk.ensures in record {
  got = met.ended.heard.got;
  n = met.ended.handled;
  shown = met.ended.board.shown;
  parts = all.parts;
  from = subst (λ n. AreFrom n met.ended.heard.got) c.requires.within all.finishes.from;
  desk = all.finishes.desk;
  all = λ none. (all.finishes.all none, all.finishes.shown none);
  cause = all.finishes.cause;
  told = all.told;
  replies = all.replies;
}
