use Rattle.std.proofs.Common.{◌≡◌, ◌++◌, map, take}
use Rattle.desk.proofs.readers.add_holders.Given as goal

abbrev pub invariant-holds : goal.invariant-holds
invariant-holds l = l.readers ≡ l.fn.readers ++ map (λ r. r.patron) (take l.hold-index l.holds)
