use Rattle.std.proofs.Common.{ℕ, List, ap, sym, ◌∙◌}
use Rattle.std.specs.Prelude.{codes}
use Rattle.terms.proofs.ReadingLemmas as lemmas
use Rattle.terms.proofs.reading.read_lost.Goals as goal

pub returns-in_err-fine-clause-whole : goal.returns-in_err-fine-clause-whole
returns-in_err-fine-clause-whole c = λ m n h k is. absurd (c.in_err-fine.ensures.whole m _ h (is ∙ lemmas.lost_text m n))

pub returns-in_err-price-clause-whole : goal.returns-in_err-price-clause-whole
returns-in_err-price-clause-whole c = λ m n h k is.
    let first = c.in_ok-fine.ensures.whole m _ h (is ∙ lemmas.lost_text m n) in
    let bad = c.in_err-price.ensures.whole n k first.1 in
    cc

pub returns-clause-sound : goal.returns-clause-sound
returns-clause-sound c =
    let front = c.in_ok-fine.ensures.sound in
    let back = c.in_ok-price.ensures.sound in
    rw (c.new.ensures, c.new-2.ensures) (
      (front.0, back.0),
      front.1 ∙ (ap (λ (rest : List ℕ). lemmas.number_and_text (codes "fine") c.in_ok-fine.fine rest) back.1
          ∙ sym (lemmas.lost_text c.in_ok-fine.fine c.in_ok-price.price)),
    )
