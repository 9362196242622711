use Rattle.std.proofs.Common.{rules}
use Rattle.hall.proofs.Pages.{opens-with}
use Rattle.hall.proofs.Reasons.{unhired}
use Rattle.hall.proofs.hall.Hall.new.Goals as goal

pub returns-in-Ok-hire-clause-opens : goal.returns-in-Ok-hire-clause-opens
returns-in-Ok-hire-clause-opens g c =
    opens-with g.J.Opening.shows g.S.Store c.args.desk c.open_board.new.desk c.in-Ok.publisher c.requires.shows c.in-Ok.ensures.looks c.in-Ok.ensures.board

pub returns-in-Err-hire-clause-fault : goal.returns-in-Err-hire-clause-fault
returns-in-Err-hire-clause-fault g c =
    unhired g.S.Store c.args.workers c.args.desk c.open_board.new.desk c.in-Err-hire.fault
    (search rules) c.in-Ok.ensures.looks c.in-Err-hire.ensures.fault
