use Rattle.std.proofs.Common.{refl, rules}
use Rattle.std.specs.Prelude.{Err}
use Rattle.hall.proofs.Replies.{submitted-if}
use Rattle.hall.proofs.worker.Worker.answer_from_desk.Goals as goal

pub returns-in-Ok-clause-told : goal.returns-in-Ok-clause-told
returns-in-Ok-clause-told g c =
    submitted-if c.args.self.now c.ask.new.self c.args.request c.in-Ok.entry.value.answer c.answer_of.result
    (rw c.deref.ensures at c.answer_of.ensures) c.in-Ok.ensures.found

pub returns-in-Err-Told-clause-told : goal.returns-in-Err-Told-clause-told
returns-in-Err-Told-clause-told g c = record { outcome = Err _; answer_is = refl; reply = tt; fault = search rules }
