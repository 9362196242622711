use Rattle.std.proofs.Common.{◌≡◌, ◌++◌, ◌≤◌, [], length, take}
use Rattle.desk.specs.Touching.{patrons_put}
use Rattle.desk.proofs.touching.touched_by.Given as goal

abbrev pub invariant-places : goal.invariant-places
invariant-places l = record {
  so_far : l.touched ≡ l.fn.readers ++ patrons_put (take l.place l.changes);
  room : l.fn.readers ≡ [] → length l.touched ≤ l.place;
  few : 1 ≤ l.place → length l.changes ≤ 6;
}
