-- A branch has few single closed days.
use Rattle.std.proofs.Common.{◌≡◌, ℕ, ◌==◌, ◌≤◌, Bool, true, false, ◌||◌, List, [], ◌∷◌, length, refl, sym, ◌∙◌, ap, subst}
use Rattle.std.specs.List.{list_any, IsDistinct}
use Rattle.std.proofs.lemmas.Bool.{eqb-true, eq-eqb, or_parts}
use Rattle.std.proofs.lemmas.Cmp.{nat_eq_equiv}
use Rattle.std.proofs.lemmas.Map.Made.{length-from_same_keys}
use Rattle.calendar.specs.Openings.{has_day, has_repeat}
use Rattle.calendar.specs.declared.limits.TheConstants.{MOST_CLOSED_DAYS}
use Rattle.terms.specs.Limits.{ClosesFewDays}
use Rattle.model.specs.Calendar.{is_single}
use Rattle.model.specs.History.{History, singles_of}
use Rattle.model.specs.Invariant.{Invariant}
use Rattle.model.specs.Picture.{picture}
use Rattle.model.specs.Requests.{IsLegal}
use Rattle.model.proofs.Invariants.{legal-Invariant}
use Rattle.model.proofs.SettingLaws.{apart}

pub eq-sym : (x y : ℕ) → (x == y) ≡ (y == x)
eq-sym x y = go (x == y) refl (y == x) refl
  where
    go : (a : Bool) → (x == y) ≡ a → (b : Bool) → (y == x) ≡ b → a ≡ b
    go true p true q = refl
    go false p false q = refl
    go true p false q = let on : (y == x) ≡ true = eq-eqb y x (sym (eqb-true x y p)) in let never : ⊥ = cc in absurd never
    go false p true q = let on : (x == y) ≡ true = eq-eqb x y (sym (eqb-true y x q)) in let never : ⊥ = cc in absurd never

-- Whether a day is among the days, whichever of the two that are compared is named first.
same_any : (x : ℕ) (xs : List ℕ) → list_any (λ y. x == y) xs ≡ has_day xs x
same_any x [] = refl
same_any x (y ∷ xs) = ap (λ b. b || list_any (λ z. x == z) xs) (eq-sym x y) ∙ ap (λ b. (y == x) || b) (same_any x xs)

-- Where no day stands twice, they are different days.
distinct : (xs : List ℕ) → has_repeat xs ≡ false → IsDistinct ◌==◌ xs
unfolding IsDistinct
distinct [] e = tt
distinct (x ∷ xs) e = let parts : (has_day xs x ≡ false) × (has_repeat xs ≡ false) = or_parts _ _ e in (apart x xs parts.0, distinct xs parts.1)

-- A list of the days that a branch has closed singly, each once, is as long as any other.
pub as-many : (H : History) → Invariant H → (b : ℕ) (days : List ℕ) → has_repeat days ≡ false
    → ((d : ℕ) → has_day days d ≡ is_single (singles_of H b) d) → length days ≡ length (singles_of H b)
as-many H inv b days once same =
    length-from_same_keys nat_eq_equiv days (singles_of H b) (distinct days once) (inv.singles_once b)
    (λ q. same_any q days ∙ same q ∙ sym (same_any q (singles_of H b)))

-- No branch is closed singly on more days than it can be.
pub closes-few : (H : History) → IsLegal H → ClosesFewDays (picture H)
closes-few H legal b days once same =
    let inv = legal-Invariant H legal in
    subst (λ n. n ≤ MOST_CLOSED_DAYS) (sym (as-many H inv b days once same)) (inv.few_singles b)
