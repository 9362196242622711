use Rattle.model.specs.History.{History}
use Rattle.model.specs.Requests.{after_one}
use Rattle.desk.proofs.Looking.{if-ok-is, if-ok-given}
use Rattle.desk.proofs.Shown.{shows-headline}
use Rattle.desk.proofs.desk.Desk.handle.Goals as goal

pub returns : goal.returns
returns g c =
    let is = rw c.self.view_is at c.handle.ensures.handled in
    record {
      handled = is;
      headline = λ disk. if-ok-is _ c.handle.result (λ reply told H shows.
          let K : History = after_one H c.args.request.now in
          let done = if-ok-given {G = Unit {0}} _ c.handle.result (λ _. is.replied disk) reply told tt H shows in
          shows-headline _ K done.1);
    }
