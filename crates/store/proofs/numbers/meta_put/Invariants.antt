use Rattle.std.proofs.Common.{◌≡◌, ◌≤◌, length, take}
use Rattle.std.specs.Prelude.{unwrap_or}
use Rattle.terms.specs.Pictures.{Picture}
use Rattle.circ_core.specs.Tables.{changed}
use Rattle.store.proofs.numbers.meta_put.Given as goal

abbrev pub invariant-places : goal.invariant-places
invariant-places l = record {
  so_far : (P : Picture) → (changed (take l.place l.changes) P).meta ≡ unwrap_or l.put P.meta;
  few : 1 ≤ l.place → length l.changes ≤ 6;
}
