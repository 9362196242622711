use Rattle.std.proofs.Common.{◌+◌, ◌∙◌, ap}
use Rattle.hall.specs.declared.messages.Submission.{Submission}
use Rattle.hall.specs.declared.messages.View.{View}
use Rattle.hall.proofs.HandledLists.{posted}
use Rattle.hall.proofs.worker.Worker.submit.Goals as goal

pub invariant_of-self : goal.invariant_of-self
invariant_of-self g c =
    let o = c.self.inside in
    let i = c.self.invariant in
    let e = c.in-Ok.ensures in
    let s : Submission = record { worker = o.worker; number = o.number + 1; request = c.args.request } in
    let p = posted o.post c.send.new.self s o.number e i.2 i.3 in
    ((ap (λ (v : View). v.sends) e ∙ i.0.0, ap (λ (v : View). v.gets) e ∙ i.0.1), ap (λ (v : View). v.worker) e ∙ i.1, p.0, p.1)
