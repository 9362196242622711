use Rattle.std.proofs.Common.{◌≡◌, List, length, ap, subst, sym, ◌∙◌, arith}
use lib.ListN.{length-map}
use Rattle.board.specs.declared.entry.Frame.{Frame}
use Rattle.board.specs.declared.entry.Seen.{Seen}
use Rattle.board.specs.Showing.{GoesOn, seen_of}
use Rattle.board.proofs.Beginnings.{frames_on}
use Rattle.board.proofs.stopped.StoppedBoard.has_shown.Goals as goal

pub returns-clause-yes : goal.returns-clause-yes
returns-clause-yes g c = λ few.
    let all = c.self.inside.frames.items in
    let seen = c.sight.inside.frames.items in
    subst (λ (s : Seen). GoesOn c.args.self.now.shown s) c.sight.view_is
    (subst (λ (s : Seen). GoesOn s (seen_of seen)) (ap (λ s. s.shown) c.self.view_is) (frames_on seen all (c.begins.ensures.yes few)))

-- so many frames show so many pages
counted : (fs : List Frame) → length (seen_of fs).pages ≡ length fs
counted fs = length-map fs (λ (f : Frame). f.pages)

pub returns-clause-no : goal.returns-clause-no
returns-clause-no g c = λ many.
    let all = c.self.inside.frames.items in
    let seen = c.sight.inside.frames.items in
    let longer = c.begins.ensures.no many in
    let shown : length c.args.self.now.shown.pages ≡ length all = ap (λ s. length s.shown.pages) (sym c.self.view_is) ∙ counted all in
    let sighted : length c.args.sight.now.pages ≡ length seen = ap (λ (s : Seen). length s.pages) (sym c.sight.view_is) ∙ counted seen in
    omega (arith, longer, shown, sighted)
