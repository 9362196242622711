-- Faults of reading words.
use Rattle.std.proofs.Common.{◌≡◌, Result, Err}
use Rattle.terms.specs.declared.words.WordFault.{WordFault}
use Rattle.terms.specs.declared.words.WordFault.TheVariants.{Memory, NotUnderstood}

-- want of memory is no refusal
pub not_refused : {A : Type 0} (fault : WordFault) → fault ≡ Memory → ◌≡◌ {A = Result A WordFault} (Err fault) (Err NotUnderstood) → ⊥
not_refused fault memory refused = let bad : Memory ≡ NotUnderstood = cc in absurd (cc)
