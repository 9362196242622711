use Rattle.std.proofs.Common.{◌≡◌, take}
use Rattle.std.specs.Prelude.{Ok}
use Rattle.desk.specs.Answering.{Learns}
use Rattle.hall.specs.Handling.{PutsPages}
use Rattle.hall.proofs.desk_side.put_pages.Given as goal

abbrev pub invariant-patrons : goal.invariant-patrons
invariant-patrons g l = record {
  same : l.publisher.shown ≡ l.initial.publisher.shown;
  pages : Learns {A = Unit {0}} (λ H _. PutsPages (take l.patron-index l.patrons) l.initial.publisher.pages l.publisher.pages H) g.S.Store
      l.initial.desk l.desk (Ok tt);
}
