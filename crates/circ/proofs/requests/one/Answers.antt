use Rattle.std.proofs.Common.{rules, ap, Err, ◌∙◌}
use Rattle.front.specs.Understood.{texts_of}
use Rattle.circ.specs.Saying.{Says}
use Rattle.circ.specs.Exits.{exit_of}
use Rattle.circ.specs.declared.lines.Exit.TheVariants.{Faulted, NotUnderstood}
use Rattle.circ.proofs.Said.{says-reply, says-fault, says-no-memory, says-not-understood, said-whole, said-cut}
use Rattle.circ.proofs.requests.one.Goals as goal

pub returns-in-Err-NotUnderstood : goal.returns-in-Err-NotUnderstood
returns-in-Err-NotUnderstood g c = record {
  clean = search rules;
  written = let words = texts_of c.args.words.now in
      said-whole (Says c.args.key words g.S.Store c.args.desk.now c.args.desk.now) c.not_understood.result _ _ _ NotUnderstood
      (says-not-understood g.S.Store c.args.desk.now c.args.key words
      (c.read_command.ensures.none (c.in-Err-NotUnderstood.is ∙ ap Err c.in-Err-NotUnderstood.field-0-is)))
      c.not_understood.ensures.exit_is c.not_understood.ensures.writes.all;
  cut = let words = texts_of c.args.words.now in
      said-cut (Says c.args.key words g.S.Store c.args.desk.now c.args.desk.now) c.not_understood.result _ _ _ NotUnderstood
      (says-not-understood g.S.Store c.args.desk.now c.args.key words
      (c.read_command.ensures.none (c.in-Err-NotUnderstood.is ∙ ap Err c.in-Err-NotUnderstood.field-0-is)))
      c.not_understood.ensures.writes.front;
}

pub returns-in-Err-Memory : goal.returns-in-Err-Memory
returns-in-Err-Memory g c = record {
  clean = search rules;
  written = let words = texts_of c.args.words.now in
      said-whole (Says c.args.key words g.S.Store c.args.desk.now c.args.desk.now) c.out_of_memory.result _ _ _ Faulted
      (says-no-memory g.S.Store c.args.desk.now c.args.key words)
      c.out_of_memory.ensures.exit_is c.out_of_memory.ensures.writes.all;
  cut = let words = texts_of c.args.words.now in
      said-cut (Says c.args.key words g.S.Store c.args.desk.now c.args.desk.now) c.out_of_memory.result _ _ _ Faulted
      (says-no-memory g.S.Store c.args.desk.now c.args.key words)
      c.out_of_memory.ensures.writes.front;
}

pub returns-in-Ok-handle : goal.returns-in-Ok-handle
returns-in-Ok-handle g c = record {
  clean = search rules;
  written = let words = texts_of c.args.words.now in
      said-whole (Says c.args.key words g.S.Store c.args.desk.now c.handle.new.self) c.tell_reply.result _ _ _ (exit_of c.in-Ok-handle.reply)
      (says-reply g.S.Store c.args.desk.now c.handle.new.self c.args.key words c.in-Ok.command c.in-Ok-handle.reply
      c.in-Ok.ensures.understood c.in-Ok.ensures.only c.in-Ok-handle.ensures.handled)
      c.tell_reply.ensures.exit_is c.tell_reply.ensures.writes.all;
  cut = let words = texts_of c.args.words.now in
      said-cut (Says c.args.key words g.S.Store c.args.desk.now c.handle.new.self) c.tell_reply.result _ _ _ (exit_of c.in-Ok-handle.reply)
      (says-reply g.S.Store c.args.desk.now c.handle.new.self c.args.key words c.in-Ok.command c.in-Ok-handle.reply
      c.in-Ok.ensures.understood c.in-Ok.ensures.only c.in-Ok-handle.ensures.handled)
      c.tell_reply.ensures.writes.front;
}

pub returns : goal.returns
returns g c = record {
  clean = search rules;
  written = let words = texts_of c.args.words.now in
      said-whole (Says c.args.key words g.S.Store c.args.desk.now c.handle.new.self) c.tell_fault.result _ _ _ Faulted
      (says-fault g.S.Store c.args.desk.now c.handle.new.self c.args.key words c.in-Ok.command c.in-Err.fault c.in-Ok.ensures.understood
      c.in-Err.ensures.handled)
      c.tell_fault.ensures.exit_is c.tell_fault.ensures.writes.all;
  cut = let words = texts_of c.args.words.now in
      said-cut (Says c.args.key words g.S.Store c.args.desk.now c.handle.new.self) c.tell_fault.result _ _ _ Faulted
      (says-fault g.S.Store c.args.desk.now c.handle.new.self c.args.key words c.in-Ok.command c.in-Err.fault c.in-Ok.ensures.understood
      c.in-Err.ensures.handled)
      c.tell_fault.ensures.writes.front;
}
