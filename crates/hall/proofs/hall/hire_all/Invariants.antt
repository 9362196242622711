use Rattle.std.proofs.Common.{◌≡◌, []}
use Rattle.std.specs.Prelude.{All}
use Rattle.hall.specs.Queue.{IsHearing}
use Rattle.hall.specs.Serving.{AreWorkers, IsNew}
use Rattle.hall.proofs.hall.hire_all.Given as goal

abbrev pub invariant-loop-k : goal.invariant-loop-k
invariant-loop-k g l = record {
  hearing : IsHearing l.inbox;
  fresh : l.inbox.got ≡ [];
  made : l.inbox.made ≡ l.k;
  all : AreWorkers l.k l.all.items;
  new : All (IsNew l.closing) l.all.items;
}
