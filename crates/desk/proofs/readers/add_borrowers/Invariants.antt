use Rattle.std.proofs.Common.{take}
use Rattle.std.specs.Prelude.{Ok}
use Rattle.desk.specs.Answering.{Learns}
use Rattle.desk.specs.Touching.{Adds, HasLoanAmong}
use Rattle.desk.proofs.readers.add_borrowers.Given as goal

abbrev pub invariant-copies : goal.invariant-copies
invariant-copies g l =
    Learns {A = Unit {0}} (λ H _. Adds (HasLoanAmong H (take l.copy-index l.copies)) l.fn.readers l.readers) g.S.Store l.fn.store l.store (Ok tt)
