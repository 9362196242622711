use Rattle.std.proofs.Common.{◌≡◌, ◌+◌, ℕ, true, false, slice_index_or}
use Rattle.hall.specs.Queue.{IsHearing, AreFrom, of, is_open}
use Rattle.hall.specs.Handling.{StandsOpen, shown_by}
use Rattle.hall.specs.Closings.{HasTold}
use Rattle.hall.proofs.desk_side.DeskSide.desk_loop.Given as goal

abbrev pub invariant-work : goal.invariant-work
invariant-work g l = record {
  hearing : IsHearing l.inbox;
  made : l.inbox.made ≡ l.workers;
  from : AreFrom l.workers l.inbox.got;
  gone : (k : ℕ) → slice_index_or l.gone k false ≡ true → is_open (of (k + 1) l.inbox.got) ≡ false;
  stands : StandsOpen g.J.Opening.shows g.S.Store l.initial.handling.desk l.handling.desk l.handling.handled l.handling.fault l.inbox.got l.board;
  told : HasTold l.handling.handled l.inbox.got (shown_by l.board).entries l.handling.fault l.handling.teller;
}
