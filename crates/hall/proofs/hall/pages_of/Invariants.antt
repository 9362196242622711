use Rattle.std.proofs.Common.{take}
use Rattle.std.specs.Prelude.{Ok}
use Rattle.desk.specs.Answering.{Learns}
use Rattle.hall.specs.Openings.{AreFirstPages}
use Rattle.hall.proofs.hall.pages_of.Given as goal

abbrev pub invariant-patrons : goal.invariant-patrons
invariant-patrons g l = Learns {A = Unit {0}} (λ H _. AreFirstPages (take l.patron-index l.patrons) H l.first) g.S.Store l.initial.desk l.desk (Ok tt)
