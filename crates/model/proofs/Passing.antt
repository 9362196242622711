-- What follows if no check fails.
use Rattle.std.proofs.Common.{◌≡◌, ◌==◌, Bool, true, false, List, [], ◌∷◌, refl}
use Rattle.std.specs.Prelude.{Option, Some, None}
use Rattle.terms.specs.Texts.{refusal_number}
use Rattle.terms.specs.declared.refusal.Refusal.{Refusal}
use Rattle.model.specs.Checks.{Check, first_failing}

-- The check with this refusal fails.
abbrev pub fails_with : Refusal → List Check → Bool
fails_with r [] = false
fails_with r (k ∷ ks) = elim (refusal_number k.0 == refusal_number r) [ true ↦ k.1 | false ↦ fails_with r ks ]

passed_at : (r : Refusal) (k : Check) (ks : List Check) → (first_failing ks ≡ None → fails_with r ks ≡ false) → (b : Bool) → k.1 ≡ b
    → ◌≡◌ {A = Option Refusal} (elim b [ true ↦ Some k.0 | false ↦ first_failing ks ]) None → fails_with r (k ∷ ks) ≡ false
passed_at r k ks rest true p e = let no : ⊥ = cc in absurd no
passed_at r k ks rest false p e = by (refusal_number k.0 == refusal_number r)
  where
    by : (same : Bool) → elim same [ true ↦ k.1 | false ↦ fails_with r ks ] ≡ false
    by true = p
    by false = rest e

-- The check with any refusal passes.
pub passed : (ks : List Check) → first_failing ks ≡ None → (r : Refusal) → fails_with r ks ≡ false
passed [] e r = refl
passed (k ∷ ks) e r = passed_at r k ks (λ more. passed ks more r) k.1 refl e
