use Rattle.std.proofs.Common.{ℕ, List, ap, sym, ◌∙◌}
use Rattle.std.specs.Prelude.{codes}
use Rattle.terms.proofs.ReadingLemmas as lemmas
use Rattle.terms.proofs.reading.read_transit_for.Goals as goal

pub returns-in_err-goal-clause-whole : goal.returns-in_err-goal-clause-whole
returns-in_err-goal-clause-whole c = λ m n h k is. absurd (c.in_err-goal.ensures.whole m _ h (is ∙ lemmas.transit_for_text m n))

pub returns-in_err-hold-clause-whole : goal.returns-in_err-hold-clause-whole
returns-in_err-hold-clause-whole c = λ m n h k is.
    let first = c.in_ok-goal.ensures.whole m _ h (is ∙ lemmas.transit_for_text m n) in
    let bad = c.in_err-hold.ensures.whole n k first.1 in
    cc

pub returns-clause-sound : goal.returns-clause-sound
returns-clause-sound c =
    let front = c.in_ok-goal.ensures.sound in
    let back = c.in_ok-hold.ensures.sound in
    rw (c.new.ensures, c.new-2.ensures) (
      (front.0, back.0),
      front.1 ∙ (ap (λ (rest : List ℕ). lemmas.number_and_text (codes "transit") c.in_ok-goal.goal rest) back.1
          ∙ sym (lemmas.transit_for_text c.in_ok-goal.goal c.in_ok-hold.hold)),
    )
