use Rattle.std.proofs.Common.{◌≡◌, map, take}
use Rattle.desk.proofs.showing.numbers.Given as goal

abbrev pub invariant-rows : goal.invariant-rows
invariant-rows l = l.numbers.items ≡ map (λ r. r.patron) (take l.row-index l.rows)
