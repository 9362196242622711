use Rattle.std.proofs.Common.{◌≡◌, ◌∷◌, ◌++◌, ℕ, List, sym, ap, ◌∙◌}
use Rattle.std.proofs.lemmas.List.{nil_from_length}
use Rattle.std.specs.Prelude.{encode_utf8}
use Rattle.finding.specs.Finding.{folded}
use Rattle.finding.proofs.FoldingLemmas.{folded-nil, folded-letter}
use Rattle.finding.proofs.folding.take_letter.Goals as goal

pub returns-in_err-letter-clause-next : goal.returns-in_err-letter-clause-next
returns-in_err-letter-clause-next c =
    rw c.from_residual.ensures (ap folded (sym c.chars-rest.ensures.rest ∙ nil_from_length _ (c.in_err-letter.ensures).steps.0.0) ∙ folded-nil)

pub returns-clause-next : goal.returns-clause-next
returns-clause-next c =
    let letter = c.in_ok-letter.letter in
    let rest = c.as_str.result.now in
    let parts : c.args.text.now ≡ encode_utf8 letter ++ rest =
    sym c.chars-rest.ensures.rest ∙ (c.in_ok-letter.ensures).steps.0 ∙ ap (λ (t : List ℕ). encode_utf8 letter ++ t) (sym c.as_str.ensures) in
    folded-letter c.args.text.now rest letter c.utf8.text parts ∙ ap (λ (x : ℕ). x ∷ folded rest) (sym c.fold_letter.ensures)
