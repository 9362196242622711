use Rattle.std.proofs.Common.{◌<◌, ℕ, List, [], ap, sym, subst, ◌∙◌, arith, length}
use Rattle.desk.specs.declared.showing.OwnPage.{OwnPage}
use Rattle.desk.proofs.Looking.{◌⨾◌, idle, gives, stops}
use Rattle.board.specs.Showing.{page_at}
use Rattle.board.proofs.PageLists.{page-put}
use Rattle.hall.specs.Openings.{AreFirstPages}
use Rattle.hall.proofs.Pages.{taken-more, first-none, first-put, first-passed, first-all}
use Rattle.hall.proofs.hall.pages_of.Goals.{in-Some+in_ok-first, in_default}
use Rattle.hall.proofs.hall.pages_of.Goals as goal

pub patrons-init : goal.patrons-init
patrons-init g c = gives idle (λ _ _ _. tt) (λ H legal _ _. subst (λ (n : List (ℕ × OwnPage)). AreFirstPages [] H n) (sym c.new-first.ensures) (first-none H))

pub patrons-preserved : goal.patrons-preserved
patrons-preserved g c =
    let i = c.patrons.invariant in
    let xs : List ℕ = c.args.patrons.now in
    let k : ℕ = c.patrons.patron-index in
    let q : ℕ = c.patron-item.result in
    let within : k < length xs = omega (arith, c.patrons-test.true) in
    let more = taken-more xs k q within c.patron-item.is in
    elim c.match-branch-2.branch [
      | in-Some+in_ok-first w ↦
          first-put g.S.Store c.args.desk.now c.patrons.desk c.own_page.new.self xs k q more c.in_ok-page.field-0 c.in_ok-page.ensures
          c.patrons.first c.match-branch-2.first i w.in-Some.page w.in-Some.is
          (λ p. ap (λ (n : List (ℕ × OwnPage)). page_at n p) (w.first-is ∙ w.in_ok-first.ensures) ∙ page-put c.patrons.first q w.in-Some.page p)
      | in_default w ↦
          first-passed g.S.Store c.args.desk.now c.patrons.desk c.own_page.new.self xs k q more c.in_ok-page.field-0 c.in_ok-page.ensures
          c.patrons.first c.match-branch-2.first i w.in_default.is w.first-is
    ]

pub returns-in_err-first : goal.returns-in_err-first
returns-in_err-first g c = stops _ c.from_residual-in_err-first.ensures (c.patrons.invariant ⨾ c.in_ok-page.ensures)

pub returns : goal.returns
returns g c = first-all g.S.Store c.args.desk.now c.patrons.desk c.args.patrons.now c.patrons.patron-index c.patrons.first
    c.patrons-test.false c.patrons.invariant
