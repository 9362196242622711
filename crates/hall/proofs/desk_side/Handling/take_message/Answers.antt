use Rattle.std.proofs.Common.{subst, sym}
use Rattle.hall.specs.declared.messages.Message.{Message}
use Rattle.hall.specs.Handling.{TakesMessage}
use Rattle.hall.proofs.desk_side.Handling.take_message.Goals as goal

pub returns-in-Submit-clause-next : goal.returns-in-Submit-clause-next
returns-in-Submit-clause-next g c =
    subst (λ (m : Message). TakesMessage g.J.Opening.shows m g.S.Store c.args.self.now.desk c.take_next.new.self.desk
    c.args.self.now.handled c.take_next.new.self.handled c.args.self.now.fault c.take_next.new.self.fault c.args.board c.take_next.result)
    (sym c.in-Submit.is) (c.take_next.ensures.next, c.take_next.ensures.shown)
