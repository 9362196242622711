-- Two lists of bytes that agree up to a place.
use Rattle.std.proofs.Common.{◌≡◌, get_or, length, ℕ, ◌<◌, ◌≤◌, List, Bool, true, false, bytes_eq, sym, ap, arith, ⊎_elim}
use Rattle.std.specs.Prelude.{MatchBool}
use Rattle.std.proofs.lemmas.Bool.{cases_Bool}
use Rattle.std.proofs.lemmas.List.{ext_get_or}
use Rattle.std.proofs.lemmas.Slice.Eq.{bytes_eq-Decides}

-- as long, and with the same bytes before the place
pub record Agree (one other : List ℕ) (place : ℕ) : Type 0 where
  pub long : length one ≡ length other
  pub same : (j : ℕ) → j < place → get_or one j 0 ≡ get_or other j 0

same-agrees : (one other : List ℕ) (place : ℕ) → one ≡ other → Agree one other place
same-agrees one other place e = record { long = ap length e; same = λ j l. ap (λ t. get_or t j 0) e }

-- What was found of all places is whether the lists are the same.
pub agree-decides : (r : Bool) (one other : List ℕ) (place : ℕ) → length one ≤ place
    → MatchBool r (Agree one other place) (Agree one other place → ⊥) → r ≡ bytes_eq one other
agree-decides true one other place a h =
    sym ((bytes_eq-Decides one other).1 (ext_get_or 0 one other h.long (λ i l. h.same i (omega arith))))
agree-decides false one other place a h =
    ⊎_elim (λ e. absurd (h (same-agrees one other place ((bytes_eq-Decides one other).0 e)))) (λ e. sym e) (cases_Bool (bytes_eq one other))
