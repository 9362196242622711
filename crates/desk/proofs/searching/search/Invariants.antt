use Rattle.std.proofs.Common.{◌<◌, ◌≤◌, ◌^◌, []}
use Rattle.std.specs.Prelude.{Ok}
use Rattle.desk.specs.Answering.{Learns}
use Rattle.desk.specs.Searching.{IsSearchedTo}
use Rattle.desk.proofs.searching.search.Given as goal

abbrev pub invariant-batches : goal.invariant-batches
invariant-batches g l = record {
  seen : Learns {A = Unit {0}} (λ H _. IsSearchedTo (g.T.Searched.search H l.query) l.after l.at [] l.seen × (l._batch ≤ l.at)) g.S.Store l.fn.store l.store (Ok tt);
  low : l.at < 2 ^ 32;
}
