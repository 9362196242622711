use Rattle.std.proofs.Common.{ℕ, List, ap, sym, ◌∙◌}
use Rattle.std.specs.Prelude.{codes}
use Rattle.terms.proofs.ReadingLemmas as lemmas
use Rattle.terms.proofs.reading.read_lent.Goals as goal

pub returns-in_err-loan-clause-whole : goal.returns-in_err-loan-clause-whole
returns-in_err-loan-clause-whole c = λ m n h k is. absurd (c.in_err-loan.ensures.whole m _ h (is ∙ lemmas.lent_text m n))

pub returns-in_err-due-clause-whole : goal.returns-in_err-due-clause-whole
returns-in_err-due-clause-whole c = λ m n h k is.
    let first = c.in_ok-loan.ensures.whole m _ h (is ∙ lemmas.lent_text m n) in
    let bad = c.in_err-due.ensures.whole n k first.1 in
    cc

pub returns-clause-sound : goal.returns-clause-sound
returns-clause-sound c =
    let front = c.in_ok-loan.ensures.sound in
    let back = c.in_ok-due.ensures.sound in
    rw c.new.ensures (
      (front.0, back.0),
      front.1
          ∙ (ap (λ (rest : List ℕ). lemmas.number_and_text (codes "loan") c.in_ok-loan.loan rest) back.1
          ∙ sym (lemmas.lent_text c.in_ok-loan.loan c.in_ok-due.due)),
    )
