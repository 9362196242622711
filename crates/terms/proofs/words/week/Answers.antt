use Rattle.std.proofs.Common.{◌≡◌, ◌∙◌, ℕ, List, [], ◌∷◌, codes, refl, sym, ap, arith}
use Rattle.std.specs.Fmt.{decimal}
use Rattle.terms.specs.Texts.{command_words}
use Rattle.terms.proofs.CommandLemmas.{listing-is}
use Rattle.terms.proofs.words.week.Goals as goal

two_words : (a b m : List ℕ) (n : ℕ) → a ≡ decimal n → b ≡ m → codes "week" ∷ decimal n ∷ m ∷ [] ≡ codes "week" ∷ a ∷ b ∷ []
two_words a b m n ha hb = rw (ha, hb) refl

pub returns-clause-read : goal.returns-clause-read
unfolding command_words
returns-clause-read c =
    let branch = c.in_ok-number.ensures.read in
    let week = c.in_ok-week.ensures.read in (
      ((omega arith, (week.0, tt)), (tt, (tt, tt))),
      two_words _ _ _ _ (branch.1 ∙ ap decimal (sym c.new-branch.ensures)) week.1
          ∙ ap (λ ws. codes "week" ∷ ws) (sym (listing-is 2 0 c.args.values.now _ (omega arith))),
    )
