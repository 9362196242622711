-- Ordered rows.
use Rattle.std.proofs.Common.{inl, inr, ◌∙◌, ap, arith}
use Rattle.std.specs.Prelude.{◌≡◌, ◌⊎◌, ◌<◌, ℕ, List, [], ◌∷◌}
use Rattle.std.proofs.lemmas.Cmp.{nat_list_cmp_total}
use Rattle.std.specs.Cmp.Lexicographic.{slice_cmp}
use Rattle.std.specs.List.{AllByRecursion}
use Rattle.std.specs.Ordering.{nat_cmp}
use Rattle.std.specs.declared.cmp.Ordering.TheVariants.{Less}
use Rattle.terms.specs.Callers.{owner_number}
use Rattle.terms.specs.declared.row.KeptRow.{KeptRow}

-- Each row comes before all that follow it.
abbrev pub IsOrdered : {R : Type 0} → (R → R → Type 0) → List R → Type 0
IsOrdered Before [] = Unit {0}
IsOrdered Before (r ∷ rows) = AllByRecursion (λ s. Before r s) rows × IsOrdered Before rows

-- The rows' numbers ascend.
abbrev pub Rise : {R : Type 0} → (R → ℕ) → List R → Type 0
Rise number_of = IsOrdered (λ r s. number_of r < number_of s)

-- A pair of numbers comes before another.
abbrev pub IsPairBefore : ℕ × ℕ → ℕ × ℕ → Type 0
IsPairBefore a b = (a.0 < b.0) ⊎ ((a.0 ≡ b.0) × (a.1 < b.1))

-- The desk's rows come before patrons', these by patron, and one caller's by key, byte by byte.
abbrev pub IsKeptBefore : KeptRow → KeptRow → Type 0
IsKeptBefore r s = (owner_number r.caller < owner_number s.caller) ⊎ ((r.caller ≡ s.caller) × (slice_cmp nat_cmp r.key s.key ≡ Less))

-- ---- these orders are transitive

pub rise-on : {R : Type 0} (number_of : R → ℕ) (r s t : R) → number_of r < number_of s → number_of s < number_of t → number_of r < number_of t
rise-on number_of r s t less more = omega (arith, less, more)

pub pair-on : {R : Type 0} (key_of : R → ℕ × ℕ) (r s t : R) → IsPairBefore (key_of r) (key_of s) → IsPairBefore (key_of s) (key_of t)
    → IsPairBefore (key_of r) (key_of t)
pair-on key_of r s t (inl less) (inl more) = inl (omega (arith, less, more))
pair-on key_of r s t (inl less) (inr tied) = let same = tied.0 in inl (omega (arith, less, same))
pair-on key_of r s t (inr tied) (inl more) = let same = tied.0 in inl (omega (arith, more, same))
pair-on key_of r s t (inr tied) (inr same) = let less = tied.1 in let more = same.1 in inr (tied.0 ∙ same.0, omega (arith, less, more))

pub kept-on : (r s t : KeptRow) → IsKeptBefore r s → IsKeptBefore s t → IsKeptBefore r t
kept-on r s t (inl less) (inl more) = inl (omega (arith, less, more))
kept-on r s t (inl less) (inr tied) = let same = ap owner_number tied.0 in inl (omega (arith, less, same))
kept-on r s t (inr tied) (inl more) = let same = ap owner_number tied.0 in inl (omega (arith, more, same))
kept-on r s t (inr tied) (inr same) = inr (tied.0 ∙ same.0, nat_list_cmp_total.trans r.key s.key t.key tied.1 same.1)
