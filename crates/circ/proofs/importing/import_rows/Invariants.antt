use Rattle.std.proofs.Common.{◌≡◌, ◌++◌, length}
use Rattle.std.specs.Vec.Iter.{into_iter_items, into_iter_len}
use Rattle.circ.proofs.Imports.{SoFar}
use Rattle.circ.proofs.importing.import_rows.Given as goal

abbrev pub invariant-rows : goal.invariant-rows
invariant-rows g l = record {
  parted : l.yielded ++ into_iter_items l.row-iterator ≡ into_iter_items l.initial.row-iterator;
  many : into_iter_len l.row-iterator ≡ length (into_iter_items l.row-iterator);
  so_far : SoFar g.S.Store l.fn.desk l.desk l.yielded l.counts (g.W.Write.contents l.fn.writer) (g.W.Write.contents l.writer);
}
