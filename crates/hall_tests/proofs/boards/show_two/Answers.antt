use Rattle.std.proofs.Common.{◌≡◌, ap, ◌∙◌, arith}
use Rattle.board.specs.Showing.{count_own}
use Rattle.hall_tests.proofs.boards.show_two.Goals as goal

-- The first entry of worker 2 has the number 1.
pub show-requires : goal.show-requires
show-requires g c =
    let same : count_own c.in-Some.worker c.in_ok-publisher.publisher.shown.entries ≡ 0 =
    ap (λ w. count_own w c.in_ok-publisher.publisher.shown.entries) c.in-Some.ensures.1
    ∙ (ap (count_own 2) c.in_ok-publisher.ensures ∙ c.requires) in
    (omega (arith, same), tt)
