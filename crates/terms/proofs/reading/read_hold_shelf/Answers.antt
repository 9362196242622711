use Rattle.std.proofs.Common.{ℕ, List, ap, sym, ◌∙◌}
use Rattle.std.specs.Prelude.{codes}
use Rattle.terms.proofs.ReadingLemmas as lemmas
use Rattle.terms.proofs.reading.read_hold_shelf.Goals as goal

pub returns-in_err-hold-clause-whole : goal.returns-in_err-hold-clause-whole
returns-in_err-hold-clause-whole c = λ m n u h k d is. absurd (c.in_err-hold.ensures.whole m _ h (is ∙ lemmas.hold_shelf_text m n u))

pub returns-in_err-branch-clause-whole : goal.returns-in_err-branch-clause-whole
returns-in_err-branch-clause-whole c = λ m n u h k d is.
    let first = c.in_ok-hold.ensures.whole m _ h (is ∙ lemmas.hold_shelf_text m n u) in
    absurd (c.in_err-branch.ensures.whole n _ k first.1)

pub returns-in_err-until-clause-whole : goal.returns-in_err-until-clause-whole
returns-in_err-until-clause-whole c = λ m n u h k d is.
    let first = c.in_ok-hold.ensures.whole m _ h (is ∙ lemmas.hold_shelf_text m n u) in
    let second = c.in_ok-branch.ensures.whole n _ k first.1 in
    let bad = c.in_err-until.ensures.whole u d second.1 in
    cc

pub returns-clause-sound : goal.returns-clause-sound
returns-clause-sound c =
    let front = c.in_ok-hold.ensures.sound in
    let middle = c.in_ok-branch.ensures.sound in
    let back = c.in_ok-until.ensures.sound in
    rw (c.new.ensures, c.new-2.ensures) (
      (front.0, middle.0, back.0),
      front.1 ∙ (ap (λ (rest : List ℕ). lemmas.number_and_text (codes "ready") c.in_ok-hold.hold rest) (
          middle.1 ∙ ap (λ (rest : List ℕ). lemmas.number_and_text (codes "at") c.in_ok-branch.branch rest) back.1)
          ∙ sym (lemmas.hold_shelf_text c.in_ok-hold.hold c.in_ok-branch.branch c.in_ok-until.until)),
    )
