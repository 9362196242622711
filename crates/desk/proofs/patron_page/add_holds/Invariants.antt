use Rattle.std.proofs.Common.{◌≡◌, ◌++◌, map, take, string_bytes}
use Rattle.std.specs.Prelude.{Ok}
use Rattle.model.specs.Pages.{hold_line}
use Rattle.desk.specs.Answering.{LearnsIf}
use Rattle.desk.specs.Paging.{following, AreHoldRows}
use Rattle.desk.proofs.patron_page.add_holds.Given as goal

abbrev pub invariant-rows : goal.invariant-rows
invariant-rows g l =
    LearnsIf {A = Unit {0}} (λ H. AreHoldRows H l.rows)
    (λ H _. string_bytes l.text ≡ string_bytes l.fn.text ++ following (map (λ r. hold_line H r.hold) (take l.row-index l.rows)))
    g.S.Store l.fn.store l.store (Ok tt)
