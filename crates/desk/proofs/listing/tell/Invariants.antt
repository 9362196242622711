use Rattle.std.proofs.Common.{◌<◌, ◌≤◌, ◌^◌}
use Rattle.std.specs.Prelude.{Ok}
use Rattle.desk.specs.Parts.{WritesPart}
use Rattle.desk.specs.Listing.{IsSoFar}
use Rattle.desk.proofs.listing.tell.Given as goal

abbrev pub invariant-batches : goal.invariant-batches
invariant-batches g l = record {
  part : WritesPart {T = Unit {0}} (g.L.Listed.Needs l.list)
      (λ H _ sent. IsSoFar (g.L.Listed.list l.list H) l.most l.after l.at l.told sent × (l._batch ≤ l.at)) (λ _ _. ⊥) g.S.Store l.fn.store l.store
      (g.W.Write.contents l.fn.writer) (g.W.Write.contents l.writer) (Ok tt);
  low : l.at < 2 ^ 32;
}
