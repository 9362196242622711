use Rattle.std.proofs.Common.{◌<◌, ℕ, List, ap, ◌∙◌, arith, length}
use Rattle.board.specs.Rule.{Publishing}
use Rattle.desk.proofs.Looking.{◌⨾◌, stops}
use Rattle.hall.proofs.Pages.{taken-more, put-page, put-none}
use Rattle.hall.proofs.desk_side.put_pages.Goals.{in-Some+in_ok-put, in_default}
use Rattle.hall.proofs.desk_side.put_pages.Goals as goal

pub patrons-preserved : goal.patrons-preserved
patrons-preserved g c =
    let i = c.patrons.invariant in
    let xs : List ℕ = c.args.patrons.now in
    let k : ℕ = c.patrons.patron-index in
    let q : ℕ = c.patron-item.result in
    let within : k < length xs = omega (arith, c.patrons-test.true) in
    let more = taken-more xs k q within c.patron-item.is in
    elim c.match-branch-2.branch [
      | in-Some+in_ok-put w ↦
          let e = w.publisher-is ∙ w.in_ok-put.ensures in
          record {
            same = ap (λ (p : Publishing). p.shown) e ∙ i.same;
            pages = put-page g.S.Store c.args.desk.now c.patrons.desk c.own_page.new.self xs k q more c.in_ok-page.field-0
                c.in_ok-page.ensures c.args.publisher.now.pages c.patrons.publisher.pages c.match-branch-2.publisher.pages i.pages
                w.in-Some.page w.in-Some.is (ap (λ (p : Publishing). p.pages) e);
          }
      | in_default w ↦
          record {
            same = ap (λ (p : Publishing). p.shown) w.publisher-is ∙ i.same;
            pages = put-none g.S.Store c.args.desk.now c.patrons.desk c.own_page.new.self xs k q more c.in_ok-page.field-0
                c.in_ok-page.ensures c.args.publisher.now.pages c.patrons.publisher.pages c.match-branch-2.publisher.pages i.pages
                w.in_default.is (ap (λ (p : Publishing). p.pages) w.publisher-is);
          }
    ]

pub returns-in_err-put-clause-pages : goal.returns-in_err-put-clause-pages
returns-in_err-put-clause-pages g c = stops _ c.from_residual-in_err-put.ensures (c.patrons.invariant.pages ⨾ c.in_ok-page.ensures)
