use Rattle.std.proofs.Common.{◌≡◌, map, take}
use Rattle.std.specs.List.{All}
use Rattle.circ_tables.proofs.table.entries.Given as goal

abbrev pub invariant-rows : goal.invariant-rows
invariant-rows g l = (map g.T.Table.table.cells l.list.items ≡ take l.row-index l.rows) × All g.T.Table.table.IsLegal l.list.items
