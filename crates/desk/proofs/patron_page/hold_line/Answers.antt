use Rattle.desk.proofs.patron_page.hold_line.Goals as goal

pub returns-in-Ready : goal.returns-in-Ready
returns-in-Ready c = rw c.in-Ready.is c.format.ensures.ok
