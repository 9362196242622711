use Rattle.std.proofs.Common.{◌≡◌, ◌≤◌, length, take, vec_len, vec_capacity}
use Rattle.store.specs.Library.{state, HasCleanDisk, HasTables, StaysReady}
use Rattle.desk.specs.Running.{HandledAll}
use Rattle.model.specs.History.{History}
use Rattle.model.specs.Requests.{after, replies}
use Rattle.desk.specs.Answering.{Shows}
use Rattle.desk.proofs.desk.run.Given as goal

abbrev pub invariant-requests : goal.invariant-requests
invariant-requests g l = record {
  room : length l.requests ≤ vec_capacity l.replies;
  count : vec_len l.replies ≡ l.request-index;
  ready : StaysReady (state g.S.Store l.fn.store) (state g.S.Store l.store);
  clean : HasCleanDisk (state g.S.Store l.store) → HasCleanDisk (state g.S.Store l.fn.store);
  tables : HasCleanDisk (state g.S.Store l.store) → HasTables (state g.S.Store l.fn.store).now → HasTables (state g.S.Store l.store).now;
  chain : HandledAll g.S.Store (take l.request-index l.requests) l.replies.items l.fn.store l.store;
  so_far : HasCleanDisk (state g.S.Store l.store) → (H : History) → Shows (state g.S.Store l.fn.store) H
      → (l.replies.items ≡ replies H (take l.request-index l.requests)) × Shows (state g.S.Store l.store) (after H (take l.request-index l.requests));
}
