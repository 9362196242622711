use Rattle.std.proofs.Common.{◌≡◌, ◌^◌, ◌+◌, ◌-◌, min, take}
use Rattle.desk.specs.Reporting.{rows_sum}
use Rattle.desk.proofs.till.added.Given as goal

abbrev pub invariant-rows : goal.invariant-rows
invariant-rows l = l.total ≡ min (l.sum + rows_sum l.sort (take l.row-index l.rows)) (2 ^ 128 - 1)
