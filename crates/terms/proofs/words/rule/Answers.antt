use Rattle.std.proofs.Common.{◌≡◌, ◌∙◌, ℕ, List, [], ◌∷◌, codes, refl, sym, ap, arith}
use Rattle.std.specs.Fmt.{decimal}
use Rattle.terms.specs.Texts.{command_words}
use Rattle.terms.proofs.Faults.{same_error}
use Rattle.terms.proofs.CommandLemmas.{listing-is, no_amount}
use Rattle.terms.specs.Commands.{parts_in}
use Rattle.terms.proofs.words.rule.Goals as goal

pub returns-in_err-cap-clause-refused : goal.returns-in_err-cap-clause-refused
unfolding parts_in
returns-in_err-cap-clause-refused c = λ e.
    no_amount (codes "rule") c.args.values.now 5 _ refl
    (c.in_err-cap.ensures.refused (same_error _ c.in_err-cap.field-0.0 _ c.from_residual-in_err-cap.ensures.1 e))

six_words : (a b c d e f : List ℕ) (u v w x y z : ℕ) → a ≡ decimal u → b ≡ decimal v → c ≡ decimal w → d ≡ decimal x → e ≡ decimal y → f ≡ decimal z
    → codes "rule" ∷ decimal u ∷ decimal v ∷ decimal w ∷ decimal x ∷ decimal y ∷ decimal z ∷ [] ≡ codes "rule" ∷ a ∷ b ∷ c ∷ d ∷ e ∷ f ∷ []
six_words a b c d e f u v w x y z ha hb hc hd he hf = rw (ha, hb, hc, hd, he, hf) refl

pub returns-clause-read : goal.returns-clause-read
unfolding command_words
returns-clause-read c =
    let kind = c.in_ok-number.ensures.read in
    let copy_kind = c.in_ok-number-2.ensures.read in
    let period = c.in_ok-number-3.ensures.read in
    let renewals = c.in_ok-number-4.ensures.read in
    let rate = c.in_ok-rate.ensures.read in
    let cap = c.in_ok-cap.ensures.read in (
      ((omega arith, (omega arith, (omega arith, (omega arith, (omega arith, (omega arith, tt)))))), (tt, (tt, (tt, (tt, (rate.0, (cap.0, tt))))))),
      six_words _ _ _ _ _ _ _ _ _ _ _ _ (kind.1 ∙ ap decimal (sym c.new-kind.ensures)) (copy_kind.1 ∙ ap decimal (sym c.new-copy_kind.ensures))
          (period.1 ∙ ap decimal (sym c.new-period.ensures)) (renewals.1 ∙ ap decimal (sym c.new-renewals.ensures)) rate.1 cap.1
          ∙ ap (λ ws. codes "rule" ∷ ws) (sym (listing-is 6 0 c.args.values.now _ (omega arith))),
    )
