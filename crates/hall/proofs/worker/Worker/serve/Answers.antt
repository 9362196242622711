use Rattle.std.proofs.Common.{◌≡◌, ◌∙◌, sym, ap, subst}
use Rattle.std.specs.Prelude.{Option, Some, None, Err}
use Rattle.web.specs.declared.answer.Answer.{Answer}
use Rattle.web.specs.declared.answer.Answer.TheVariants.{Faulted, Failed}
use Rattle.terms.specs.declared.fault.Fault.TheVariants.{Memory}
use Rattle.terms.specs.declared.fault.ServiceFault.TheVariants.{Met}
use Rattle.hall.specs.Serving.{Working, MeetsAsked}
use Rattle.hall.proofs.Served.{read-status, status-served, want-served, request-served, unread, unanswered}
use Rattle.hall.proofs.worker.Worker.serve.Goals.{in-Ok+in-Ok-asked, in-Ok+in-Err, in-Err-Status, in-Err-Memory, in-Err-Read}
use Rattle.hall.proofs.worker.Worker.serve.Goals as goal

pub returns-in-Some : goal.returns-in-Some
returns-in-Some g c = record {
  serves =
      let m = c.match-read_request in
      let old = c.args.self.now in
      let bytes = g.I.Read.remaining c.args.reader.now in
      let told = c.in-Some.answer in
      let status-served' = status-served c.args.clerks.now bytes old m.self (g.O.Write.contents c.args.writer.now)
      (g.O.Write.contents c.send.new.writer) c.send.result told c.send.ensures in
      elim m.branch [
        | in-Ok+in-Ok-asked w ↦
            request-served c.args.clerks.now bytes old m.self (g.O.Write.contents c.args.writer.now)
            (g.O.Write.contents c.send.new.writer) c.send.result told c.send.ensures
            w.in-Ok.request w.in-Ok-asked.asked m.answer w.in-Ok-asked.ensures w.in-Ok.ensures.checks c.in-Some.is
            (subst (λ (s : Working). MeetsAsked w.in-Ok-asked.asked old s m.answer) (sym w.self-is)
            (subst (λ (a : Option Answer). MeetsAsked w.in-Ok-asked.asked old w.answer.new.self a) (sym w.answer-is) w.answer.ensures))
        | in-Ok+in-Err w ↦
            want-served c.args.clerks.now bytes old m.self (g.O.Write.contents c.args.writer.now)
            (g.O.Write.contents c.send.new.writer) c.send.result told c.send.ensures
            w.self-is (some-is told (Faulted (Met Memory)) (sym c.in-Some.is ∙ w.answer-is))
        | in-Err-Status w ↦
            status-served' w.in-Err-Status.status w.self-is
            (some-is told (Failed w.in-Err-Status.status)
            (sym c.in-Some.is ∙ (w.answer-is ∙ ap (λ s. Some (Failed s)) w.in-Err-Status.status-is)))
            (read-status bytes c.read_request.result w.in-Err-Status.status (w.in-Err-Status.is ∙ ap Err w.in-Err-Status.field-0-is) c.read_request.ensures.checks)
        | in-Err-Memory w ↦
            want-served c.args.clerks.now bytes old m.self (g.O.Write.contents c.args.writer.now)
            (g.O.Write.contents c.send.new.writer) c.send.result told c.send.ensures
            w.self-is (some-is told (Faulted (Met Memory)) (sym c.in-Some.is ∙ w.answer-is))
        | in-Err-Read w ↦ let never : Some told ≡ None = sym c.in-Some.is ∙ w.answer-is in absurd (cc)
      ];
  takes = (c.read_request.result, c.read_request.ensures.takes);
}
  where
    some-is : (a b : Answer) → Some a ≡ Some b → a ≡ b
    some-is a b e = cc

pub returns-in-None : goal.returns-in-None
returns-in-None g c = record {
  serves =
      let m = c.match-read_request in
      let old = c.args.self.now in
      let bytes = g.I.Read.remaining c.args.reader.now in
      let before = g.O.Write.contents c.args.writer.now in
      let no : (a : Answer) → m.answer ≡ Some a → ⊥ = λ a is. none-some a (sym c.in-None.is ∙ is) in
      elim m.branch [
        | in-Ok+in-Ok-asked w ↦
            unanswered c.args.clerks.now bytes old m.self before _ w.in-Ok.request w.in-Ok-asked.asked m.answer w.in-Ok-asked.ensures w.in-Ok.ensures.checks
            (subst (λ (s : Working). MeetsAsked w.in-Ok-asked.asked old s m.answer) (sym w.self-is)
            (subst (λ (a : Option Answer). MeetsAsked w.in-Ok-asked.asked old w.answer.new.self a) (sym w.answer-is) w.answer.ensures))
        | in-Ok+in-Err w ↦ absurd (no _ w.answer-is)
        | in-Err-Status w ↦ absurd (no _ w.answer-is)
        | in-Err-Memory w ↦ absurd (no _ w.answer-is)
        | in-Err-Read w ↦ unread c.args.clerks.now bytes old m.self before _ w.self-is
      ];
  takes = (c.read_request.result, c.read_request.ensures.takes);
}
  where
    none-some : (a : Answer) → ◌≡◌ {A = Option Answer} None (Some a) → ⊥
    none-some a e = cc
