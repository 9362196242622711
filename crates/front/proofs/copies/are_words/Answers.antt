use Rattle.std.proofs.Common.{◌≡◌, ◌∙◌, ℕ, true, refl, sym, ap, arith, List, length}
use Rattle.std.specs.Borrow.{Bor}
use Rattle.std.proofs.lemmas.List.{length-map}
use Rattle.csv.specs.Records.{field_at, fields_of}
use Rattle.front.specs.Copies.{Fields}
use Rattle.terms.specs.Commands.{texts}
use Rattle.front.proofs.CopyRows.{one_more, same_fields, word_at}
use Rattle.front.proofs.copies.are_words.Goals as goal

pub returns-then-not-is_word_at : goal.returns-then-not-is_word_at
returns-then-not-is_word_at c = (
  (λ e. absurd (cc)),
  (λ e.
      let here = ap (λ (xs : Fields). field_at xs c.loop-place.place) e ∙ word_at c.args.words.now c.loop-place.place _ (c.loop-place-test.true) in
      let found : c.is_word_at.result ≡ true = c.is_word_at.ensures.1 here in
      absurd (cc)),
)

pub loop-place-preserved : goal.loop-place-preserved
loop-place-preserved c =
    let here = c.is_word_at.ensures.0 c.if-not-is_word_at.false ∙ sym (word_at c.args.words.now c.loop-place.place _ c.loop-place-test.true) in
    one_more (λ k. field_at (fields_of c.args.fields.now) k ≡ field_at (texts c.args.words.now) k) c.loop-place.place c.loop-place.invariant here

pub returns : goal.returns
returns c =
    let long : length (fields_of c.args.fields.now) ≡ length c.args.words.now = sym c.len.ensures ∙ c.if-len-words.false in (
      (λ _. same_fields (fields_of c.args.fields.now) (texts c.args.words.now) (long ∙ sym (length-map c.args.words.now (λ (word : Bor (List ℕ)). word.now)))
          (λ k h. c.loop-place.invariant k (let end = c.loop-place-test.false in omega (arith, h, long, end)))),
      (λ _. refl),
    )
