use Rattle.std.proofs.Common.{ℕ, List, ap, sym, ◌∙◌}
use Rattle.std.specs.Prelude.{codes}
use Rattle.std.proofs.lemmas.Bool.{false≢true}
use Rattle.terms.proofs.ReadingLemmas as lemmas
use Rattle.terms.proofs.reading.read_checked_in.Goals as goal

pub returns-in_err-fine-clause-whole : goal.returns-in_err-fine-clause-whole
returns-in_err-fine-clause-whole c = λ m r h k is. absurd (c.in_err-fine.ensures.whole m _ h (is ∙ lemmas.checked_in_text m r))

pub returns-in_err-routed-clause-whole : goal.returns-in_err-routed-clause-whole
returns-in_err-routed-clause-whole c = λ m r h k is.
    let first = c.in_ok-fine.ensures.whole m _ h (is ∙ lemmas.checked_in_text m r) in
    absurd (false≢true (c.in_err-routed.ensures.whole r k first.1))

pub returns-clause-sound : goal.returns-clause-sound
returns-clause-sound c =
    let front = c.in_ok-fine.ensures.sound in
    let back = c.in_ok-routed.ensures.sound in
    rw c.new.ensures (
      (front.0, back.0),
      front.1
          ∙ (ap (λ (rest : List ℕ). lemmas.number_and_text (codes "fine") c.in_ok-fine.fine rest) back.1
          ∙ sym (lemmas.checked_in_text c.in_ok-fine.fine c.in_ok-routed.routed)),
    )
