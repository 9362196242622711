use Rattle.std.proofs.Common.{◌≡◌, take}
use Rattle.std.specs.Prelude.{Ok, filter}
use Rattle.desk.specs.Reporting.{is_noted}
use Rattle.desk.proofs.Founds.{Found}
use Rattle.desk.proofs.till.made_at.Given as goal

abbrev pub invariant-rows : goal.invariant-rows
invariant-rows g l = Found {A = Unit {0}}
    (λ P _. l.picked.items ≡ filter (λ r. is_noted l.branch (P.notes r.line)) (take l.row-index l.rows)) g.S.Store l.fn.store l.store (Ok tt)
