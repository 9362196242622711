use Rattle.model.specs.History.{History}
use Rattle.model.specs.Requests.{after_one}
use Rattle.desk.proofs.Shown.{shows-headline}
use Rattle.desk.proofs.Untouched.{page-kept}
use Rattle.desk.proofs.desk.Desk.handle_touching.Goals as goal

pub returns : goal.returns
returns g c =
    let is = rw c.self.view_is at c.in_ok-reply.ensures.handled in
    let touches = rw c.self.view_is at c.in_ok-reply.ensures.touches in
    let named = rw c.self.view_is at c.in_ok-reply.ensures.named in
    record {
      handles = record {
        handled = is;
        headline = λ disk H shows.
            let K : History = after_one H c.args.request.now in
            let done = is.replied disk H shows in
            shows-headline _ K done.1;
      };
      kept = λ disk H shows p out. page-kept H c.args.request.now c.handle_touching.new.touched shows.legal (touches disk H shows) p out;
      named = λ disk H shows p among. named disk H shows tt p among;
    }
