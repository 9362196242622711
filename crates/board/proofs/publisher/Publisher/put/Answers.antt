use Rattle.std.proofs.Common.{◌≡◌, ℕ, List, [], ◌∷◌, ◌++◌, drop, ap, ◌∙◌}
use Rattle.std.specs.Arc.{arc_value}
use Rattle.board.specs.declared.entry.Seen.{Seen}
use Rattle.desk.specs.declared.showing.OwnPage.{OwnPage}
use Rattle.board.specs.Rule.{Publishing, pages_of, are_pages}
use Rattle.board.specs.Showing.{Showing}
use Rattle.board.proofs.PageLists.{pages-more}
use Rattle.board.proofs.publisher.Publisher.put.Goals as goal
use Rattle.board.proofs.publisher.Publisher.put.Goals.{in-Ok, in-Err}

pub invariant_of-self : goal.invariant_of-self
invariant_of-self g c =
    let o = c.self.inside.writer in
    let us = drop o.behind o.log.items in (
      rw c.append.ensures.desk c.self.invariant.0,
      rw c.append.ensures.desk c.self.invariant.1,
      elim c.match-append.branch [
        | in-Ok w ↦ (pages-more us (drop c.append.new.self.behind c.append.new.self.log.items) c.number.result c.in_ok-page.page
            w.in-Ok.ensures.pending c.self.invariant.2).0
        | in-Err w ↦ ap are_pages w.in-Err.ensures.pending.1 ∙ c.self.invariant.2
      ],
      c.self.invariant.3,
      c.self.invariant.4,
      c.self.invariant.5,
    )

both : (s t : Seen) (x y : Showing) (p q : List (ℕ × OwnPage)) → s ≡ t → x ≡ y → p ≡ q
    → ◌≡◌ {A = Publishing} (record { shown = s; board = x; pages = p }) (record { shown = t; board = y; pages = q })
both s t x y p q e b f =
    ap (λ (z : Seen). record { shown = z; board = x; pages = p }) e
    ∙ (ap (λ (z : Showing). record { shown = t; board = z; pages = p }) b
    ∙ ap (λ (z : List (ℕ × OwnPage)). record { shown = t; board = y; pages = z }) f)

pub returns : goal.returns
returns g c =
    let o = c.self.inside.writer in
    let us = drop o.behind o.log.items in
    let k = c.append.new.self.desk in
    let us' = drop c.append.new.self.behind c.append.new.self.log.items in
    let shown = ap (λ (s : Publishing). s.shown) c.self.view_is in
    let board : k.shown.value ≡ c.args.self.now.board = rw c.append.ensures.desk (ap (λ (s : Publishing). s.board) c.self.view_is) in
    let pages : pages_of us ≡ c.args.self.now.pages = ap (λ (s : Publishing). s.pages) c.self.view_is in
    elim c.match-append.branch [
      | in-Ok w ↦
          let more = (pages-more us us' c.number.result c.in_ok-page.page w.in-Ok.ensures.pending c.self.invariant.2).1 in
          rw w.result-is (both _ c.args.self.now.shown k.shown.value c.args.self.now.board (pages_of us')
          (c.args.self.now.pages ++ (c.args.patron, c.args.page) ∷ []) shown board
          (more ∙ (ap (λ (l : List (ℕ × OwnPage)). l ++ (c.number.result, arc_value c.in_ok-page.page) ∷ []) pages
          ∙ (ap (λ n. c.args.self.now.pages ++ (n, arc_value c.in_ok-page.page) ∷ []) c.number.ensures.value
          ∙ ap (λ x. c.args.self.now.pages ++ (c.args.patron, x) ∷ []) c.in_ok-page.ensures.ok))))
      | in-Err w ↦ rw w.result-is (both _ c.args.self.now.shown k.shown.value c.args.self.now.board
          (pages_of us') c.args.self.now.pages shown board (ap pages_of w.in-Err.ensures.pending.1 ∙ pages))
    ]
