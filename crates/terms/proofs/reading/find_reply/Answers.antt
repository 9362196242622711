use Rattle.std.proofs.Common.{◌≡◌, sym, ◌∙◌, rules}
use Rattle.std.specs.Prelude.{codes}
use Rattle.terms.proofs.ReadingLemmas as lemmas
use Rattle.terms.proofs.reading.find_reply.Goals as goal

pub returns-then-eq-clause-sound : goal.returns-then-eq-clause-sound
returns-then-eq-clause-sound c =
    let same : c.args.text.now ≡ codes "ok" = search rules in
    (tt, same ∙ sym lemmas.done_text)

pub returns-clause-whole : goal.returns-clause-whole
returns-clause-whole c =
    let other : c.args.text.now ≡ codes "ok" → ⊥ = search rules in
    lemmas.reply_some c.args.text.now c.read_moved.result (λ e. other (e ∙ lemmas.done_text))
    c.in_default.ensures.whole c.in_default-read_lost.ensures.whole c.in_default-read_checked_in.ensures.whole
    c.in_default-read_held.ensures.whole c.in_default-read_owed.ensures.whole c.read_moved.ensures.whole
