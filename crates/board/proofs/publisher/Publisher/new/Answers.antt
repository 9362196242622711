use Rattle.std.proofs.Common.{◌≡◌, [], ◌∷◌, ◌++◌, ap, sym, ◌∙◌, subst}
use Rattle.chronicle.specs.Growing.{Known, known}
use Rattle.board.specs.declared.entry.Frame.{Frame}
use Rattle.board.specs.Rule.{KeepsBoard, ShowsAll, no_look, opening, are_pages}
use Rattle.board.specs.Showing.{Showing, blank, first_frame, first_seen, seen_of}
use Rattle.board.proofs.Keeping.{begins, shows-first}
use Rattle.board.proofs.publisher.Publisher.new.Goals as goal

pub new-requires-clause-rule : goal.new-requires-clause-rule
new-requires-clause-rule g c =
    let book = g.J.Naming.book in
    let first = c.args.first in
    let named = c.blank.view_is ∙ c.requires.name in
    let none : c.blank.inside.none ≡ known book [] = c.blank.invariant ∙ ap (λ b. known b []) named in
    let frames : c.add.new.whole ≡ known book (first_frame first ∷ []) =
    c.add.ensures ∙ (ap (λ b. known b (c.again-frames.result.items ++ first_frame first ∷ [])) named
    ∙ ap (λ (k : Known Frame). known book (k.items ++ first_frame first ∷ [])) (c.again-frames.ensures ∙ none)) in
    let board : c.new-board.result ≡ opening book first =
    c.new-board.ensures ∙ (ap (blank c.first.inside.pages) (c.again.ensures ∙ frames)
    ∙ ap (λ p. blank p (known book (first_frame first ∷ []))) c.first.view_is) in
    subst (λ (x : Showing). KeepsBoard book x (no_look ∷ [])) (sym board) (begins book first)

pub invariant_of-result : goal.invariant_of-result
invariant_of-result g c =
    let w = c.in_ok-writer.writer in
    let book = g.J.Naming.book in
    let first = c.args.first in
    let named = c.blank.view_is ∙ c.requires.name in
    let none : c.blank.inside.none ≡ known book [] = c.blank.invariant ∙ ap (λ b. known b []) named in
    let frames : c.add.new.whole ≡ known book (first_frame first ∷ []) =
    c.add.ensures ∙ (ap (λ b. known b (c.again-frames.result.items ++ first_frame first ∷ [])) named
    ∙ ap (λ (k : Known Frame). known book (k.items ++ first_frame first ∷ [])) (c.again-frames.ensures ∙ none)) in
    let board : c.new-board.result ≡ opening book first =
    c.new-board.ensures ∙ (ap (blank c.first.inside.pages) (c.again.ensures ∙ frames)
    ∙ ap (λ p. blank p (known book (first_frame first ∷ []))) c.first.view_is) in
    let value : w.desk.shown.value ≡ opening book first = c.in_ok-writer.ensures.0 ∙ board in (
      subst (λ (k : Known Frame). ShowsAll (seen_of k.items) w.desk.shown.value) (sym frames)
          (subst (λ (x : Showing). ShowsAll (first_seen first) x) (sym value) (shows-first book first)),
      ap (λ (x : Showing). x.frames) value ∙ sym frames,
      ap are_pages c.in_ok-writer.ensures.1,
      named,
      ap (λ (k : Known Frame). k.book) frames,
      none,
    )
