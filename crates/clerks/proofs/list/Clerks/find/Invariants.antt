use Rattle.std.proofs.Common.{◌≡◌}
use Rattle.clerks.proofs.Finding.{IsFoundBefore}
use Rattle.clerks.proofs.list.Clerks.find.Given as goal

abbrev pub invariant-clerks : goal.invariant-clerks
invariant-clerks l = (l.clerk-items ≡ l.self) × IsFoundBefore l.shown l.self l.clerk-index l.found
