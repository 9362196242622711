use Rattle.std.proofs.Common.{◌≡◌, ◌∙◌, ℕ, inl, inr, sym, ap, subst}
use Rattle.std.specs.Prelude.{Option, None, Some}
use Rattle.store.specs.Library.{Ghosts, Held}
use Rattle.terms.specs.declared.command.Request.{Request}
use Rattle.terms.specs.declared.fault.ServiceFault.{ServiceFault}
use Rattle.hall.specs.Handling.{IsUnhandled, TakesNext}
use Rattle.hall.specs.Openings.{MeetsFaultOf}
use Rattle.hall.proofs.Shown.{is-due}
use Rattle.hall.proofs.desk_side.Handling.handle_next.Goals as goal

pub show-requires-clause-due : goal.show-requires-clause-due
show-requires-clause-due g c =
    is-due g.S.Store g.J.Opening.shows c.args.self.now.desk c.handle.new.self.desk c.args.publisher.shown c.args.submission c.in-Ok.made.0
    c.in-Ok.made.1 c.requires.next.number c.requires.next.told c.requires.next.list (rw (← c.get.ensures) c.in-Ok.ensures.handles.1)

pub returns-in-Ok-show-clause-next : goal.returns-in-Ok-show-clause-next
returns-in-Ok-show-clause-next g c = inl (record {
  was = c.requires.open;
  is = c.in-Ok.ensures.same.1 ∙ c.requires.open;
  counted = c.in-Ok.ensures.handles.0;
  answer = c.in-Ok.made.0;
  stays = rw (← c.get.ensures) c.in-Ok.ensures.handles.1.stays;
  made = c.handle.new.self.desk;
  handles = rw (← c.get.ensures) c.in-Ok.ensures.handles.1.handles;
  looks = c.in-Ok-show.ensures.2;
})

pub returns-clause-next : goal.returns-clause-next
returns-clause-next g c =
    let closed = c.close-in-Err-show.ensures in inr (inl (record {
      was = c.requires.open;
      met = c.in-Err-show.met;
      is = ap (λ h. h.fault) closed;
      counted = ap (λ h. h.handled) closed ∙ c.in-Ok.ensures.handles.0;
      answer = c.in-Ok.made.0;
      stays = rw (← c.get.ensures) c.in-Ok.ensures.handles.1.stays;
      made = c.handle.new.self.desk;
      handles = rw (← c.get.ensures) c.in-Ok.ensures.handles.1.handles;
      looks = subst (λ d. MeetsFaultOf g.S.Store c.handle.new.self.desk d c.in-Err-show.met) (sym (ap (λ h. h.desk) closed)) c.in-Err-show.ensures.1;
    }))

-- A request that wasn't handled closes the hall.
unhandled-next : {S : Type 0} (request : Request) (g : Ghosts S) (old new : Held S) (n m : ℕ) (before after : Option ServiceFault) (fault : ServiceFault)
    → IsUnhandled request g old new n fault → before ≡ None → after ≡ Some fault → m ≡ n → TakesNext request g old new n m before after
unhandled-next request g old new n m before after fault (inl (met, same, closes, handles)) was is counted =
    inr (inr (inl (record { was = was; met = met; is = is ∙ ap Some same; counted = counted; closes = closes; handles = handles })))
unhandled-next request g old new n m before after fault (inr (closed, full, same)) was is counted =
    inr (inr (inr (record { fault = fault; was = inr (was, closed, full); is = is; counted = counted; same = same })))

pub returns-in-Err-clause-next : goal.returns-in-Err-clause-next
returns-in-Err-clause-next g c =
    let closed = c.close.ensures in
    let unhandled : IsUnhandled c.args.submission.request g.S.Store c.args.self.now.desk c.close.new.self.desk c.args.self.now.handled c.in-Err.fault =
    rw (← c.get.ensures) (subst (λ d. IsUnhandled c.get.result.now g.S.Store c.args.self.now.desk d c.args.self.now.handled c.in-Err.fault)
    (sym (ap (λ h. h.desk) closed)) c.in-Err.ensures.handles.1) in
    unhandled-next c.args.submission.request g.S.Store c.args.self.now.desk c.close.new.self.desk c.args.self.now.handled c.close.new.self.handled
    c.args.self.now.fault c.close.new.self.fault c.in-Err.fault unhandled c.requires.open (ap (λ h. h.fault) closed)
    (ap (λ h. h.handled) closed ∙ c.in-Err.ensures.handles.0)
