use Rattle.std.proofs.Common.{◌≡◌, ◌+◌, ◌<◌, ◌++◌, ◌∷◌, ℕ, false, List, [], map, refl, sym, ap, subst, ◌∙◌, inl, inr, rules, arith, ◌≤◌}
use Rattle.std.proofs.Common.{Option}
use Rattle.terms.specs.declared.fault.ServiceFault.{ServiceFault}
use Rattle.board.specs.declared.entry.Entry.{Entry}
use Rattle.board.specs.declared.entry.Seen.{Seen}
use Rattle.board.specs.Showing.{IsTold}
use Rattle.hall.specs.declared.closing.Closing.{Closing}
use Rattle.hall.specs.declared.messages.Message.{Message}
use Rattle.hall.specs.declared.messages.View.{View}
use Rattle.hall.specs.Queue.{from, AreFrom, unhandled, requests, of, is_open}
use Rattle.hall.specs.Handling.{submission_of, shown_by, Finishes}
use Rattle.hall.specs.Closings.{HasTold}
use Rattle.hall.proofs.HandledLists.{stays_gone, goes_now, from-more}
use Rattle.hall.proofs.Progress.{none-handled}
use Rattle.hall.proofs.Replies.{given-to, no-fault-shown}
use Rattle.hall.proofs.Closings.{message-told}
use Rattle.hall.proofs.Shown.{may-take, message-kept, finishes}
use Rattle.hall.proofs.desk_side.DeskSide.desk_loop.Goals as goal

pub work-init : goal.work-init
work-init g c = record {
  hearing = search rules;
  made = c.args.self.staffed;
  from = subst (AreFrom c.args.self.workers) (sym c.args.self.fresh) tt;
  gone = search rules;
  stands = record {
    counted = search rules;
    all = search rules;
    cause = tt;
    desk = none-handled g.S.Store c.args.self.desk (requests (unhandled 0 c.args.self.inbox.got));
    shown = (refl, c.args.self.blank.1, ap (map submission_of) c.args.self.blank.0);
    told = c.requires.told;
  };
  told = c.args.self.untold;
}

pub take_message-board-requires-clause-next : goal.take_message-board-requires-clause-next
take_message-board-requires-clause-next g c =
    may-take g.S.Store g.J.Opening.shows c.args.self.desk c.work.handling.desk c.work.handling.handled c.work.handling.fault c.work.inbox.got
    c.work.board c.in-Ok.message c.requires.tables c.in-Ok.ensures.1 c.work.invariant.stands

pub take_message-board-requires-clause-untold : goal.take_message-board-requires-clause-untold
take_message-board-requires-clause-untold g c = λ none. subst
    (λ (o : Option ServiceFault). HasTold c.work.handling.handled c.work.inbox.got (shown_by c.work.board).entries o c.work.handling.teller)
    none c.work.invariant.told

pub work-preserved-in-Ok : goal.work-preserved-in-Ok
work-preserved-in-Ok g c =
    let i = c.work.invariant in
    let e = c.in-Ok.ensures.0 in
    let t = c.take_message-board in
    let got : c.receive.new.self.got ≡ c.work.inbox.got ++ c.in-Ok.message ∷ [] = ap (λ (v : View). v.got) e in
    let one : 1 ≤ from c.in-Ok.message = omega (arith, c.sender-in_limits.ensures.value, c.sender-in_limits.ensures.least) in
    let known : from c.in-Ok.message ≤ c.args.self.workers = omega (arith, c.in-Ok.ensures.2, i.made) in
    record {
      hearing = (ap (λ (v : View). v.gets) e ∙ i.hearing.0, ap (λ (v : View). v.sends) e ∙ i.hearing.1);
      made = ap (λ (v : View). v.made) e ∙ i.made;
      from = subst (AreFrom c.args.self.workers) (sym got) (from-more c.args.self.workers c.work.inbox.got c.in-Ok.message i.from one known);
      gone = λ j h. elim (t.ensures.gone j h) [
        | inl old ↦ stays_gone c.work.inbox.got c.receive.new.self.got c.in-Ok.message got (j + 1) (i.gone j old)
        | inr now ↦ goes_now c.work.inbox.got c.receive.new.self.got (j + 1) (j + 1) (got ∙ ap (λ (m : Message). c.work.inbox.got ++ m ∷ []) now) refl
      ];
      stands = message-kept g.S.Store g.J.Opening.shows c.args.self.desk c.work.handling.desk t.new.self.desk c.work.handling.handled
          t.new.self.handled c.work.handling.fault t.new.self.fault c.work.inbox.got c.receive.new.self.got c.work.board t.result
          c.in-Ok.message got t.ensures.next i.stands;
      told = message-told g.S.Store g.J.Opening.shows c.args.self.desk c.work.handling.desk t.new.self.desk c.work.handling.handled
          t.new.self.handled c.work.handling.fault t.new.self.fault c.work.inbox.got c.receive.new.self.got c.work.board t.result
          c.work.handling.teller t.new.self.teller c.in-Ok.message got t.ensures.next t.ensures.told i.stands i.told;
    }

pub returns-clause-finishes : goal.returns-clause-finishes
returns-clause-finishes g c =
    let got : c.end.result.got ≡ c.work.inbox.got = ap (λ (v : View). v.got) c.end.ensures in
    let gone : (k : ℕ) → k < c.args.self.workers → is_open (of (k + 1) c.work.inbox.got) ≡ false = search rules in
    subst (λ (l : List Message). Finishes c.args.self.workers c.work.handling.handled l c.stop.result.shown.entries g.S.Store
    c.args.self.desk c.work.handling.desk c.work.handling.fault) (sym got)
    (finishes g.S.Store g.J.Opening.shows c.args.self.workers c.work.handling.handled c.work.inbox.got c.stop.result.shown.entries
    c.args.self.desk c.work.handling.desk c.work.handling.fault c.work.board gone c.work.invariant.from
    (ap (λ (v : Seen). v.entries) c.stop.ensures.same) c.work.invariant.stands)

pub returns-clause-closing : goal.returns-clause-closing
returns-clause-closing g c =
    let n = c.work.handling.handled in
    let fault = c.work.handling.fault in
    let shown : c.stop.result.shown.entries ≡ (shown_by c.work.board).entries = ap (λ (v : Seen). v.entries) c.stop.ensures.same in
    let got : c.end.result.got ≡ c.work.inbox.got = ap (λ (v : View). v.got) c.end.ensures in
    subst (λ (l : List Closing). HasTold n c.end.result.got c.stop.result.shown.entries fault l) (sym c.known.ensures)
    (subst (λ (l : List Message). HasTold n l c.stop.result.shown.entries fault c.work.handling.teller) (sym got)
    (subst (λ (l : List Entry). HasTold n c.work.inbox.got l fault c.work.handling.teller) (sym shown) c.work.invariant.told))

pub returns-clause-told : goal.returns-clause-told
returns-clause-told g c = λ disk H first. subst (IsTold H) (sym c.stop.ensures.same) (c.work.invariant.stands.told disk H first)

pub returns-clause-replies : goal.returns-clause-replies
returns-clause-replies g c = λ disk H first old new on.
    let told : IsTold H c.stop.result.shown = subst (IsTold H) (sym c.stop.ensures.same) (c.work.invariant.stands.told disk H first) in
    record { reply = given-to H c.stop.result.shown told old new on; never = no-fault-shown H c.stop.result.shown told old new on }
