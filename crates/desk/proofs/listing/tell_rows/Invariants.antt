use Rattle.std.proofs.Common.{ℕ, map, take}
use Rattle.std.specs.Prelude.{Ok}
use Rattle.std.specs.List.{Contains}
use Rattle.model.specs.Asking.{last_of}
use Rattle.desk.specs.Parts.{WritesPart}
use Rattle.desk.specs.Listing.{HasBatch, GoesOn}
use Rattle.desk.proofs.listing.tell_rows.Given as goal

abbrev pub invariant-rows : goal.invariant-rows
invariant-rows g l =
    WritesPart {T = Unit {0}} (λ H. g.L.Listed.Needs l.list H × ((r : _) → Contains l.rows r → g.L.Listed.IsRow l.list r H))
    (λ H _ sent. (at : ℕ) → HasBatch g.L.Listed.number_of (λ r. g.L.Listed.IsRow l.list r H) (g.L.Listed.list l.list H) at l.rows
    → GoesOn (g.L.Listed.list l.list H) l.most at (last_of at (map g.L.Listed.number_of (take l.row-index l.rows))) l.fn.told l.next sent) (λ _ _. ⊥)
    g.S.Store l.fn.store l.store (g.W.Write.contents l.fn.writer) (g.W.Write.contents l.writer) (Ok tt)
