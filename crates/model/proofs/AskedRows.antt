-- Account lines are shown as they are, and a copy is on the shelf exactly if the tables make no claim on it.
use Rattle.std.proofs.Common.{◌≡◌, ℕ, zero, suc, ◌≤◌, ◌<◌, ◌==◌, Bool, true, false, cond, List, [], ◌∷◌, ◌++◌, refl, sym, ◌∙◌, ap, ap₂, subst, arith}
use Rattle.std.proofs.Common.{map, length, take}
use Rattle.std.specs.Prelude.{Option, Some, None, filter, is_some, option_map, unwrap_or}
use Rattle.std.proofs.lemmas.List.{map-append}
use Rattle.std.proofs.lemmas.List.Elements.{filter-append}
use Rattle.model.specs.History.{History, CopyFacts, numbers_to, copy_of}
use Rattle.model.specs.Places.{Place, Nowhere, Shelf, HoldShelf, Transit, Loan, MissingCopy, WithdrawnCopy, place, home_of}
use Rattle.model.specs.Accounts.{Line, lines, nth_line}
use Rattle.model.specs.Claims.{Claims}
use Rattle.model.specs.Invariant.{Invariant}
use Rattle.model.specs.Picture.{picture}
use Rattle.model.specs.Requests.{IsLegal}
use Rattle.model.specs.AskingLaws.{AccountsAreShown, ShelvesAreUnclaimed}
use Rattle.model.proofs.ClaimsLaw.{claims-place, away-claimed}
use Rattle.model.proofs.Invariants.{legal-Invariant}

-- ---- the lines of an account

-- The line of a number is there, and it is the next of the first ones.
pub line-at : (xs : List Line) (k : ℕ) → k < length xs → (x : Line) × (nth_line xs (suc k) ≡ Some x) × (take (suc k) xs ≡ take k xs ++ x ∷ [])
line-at [] k lt = let never : ⊥ = omega (arith, lt) in absurd never
line-at (x ∷ xs) zero lt = (x, refl, refl)
line-at (x ∷ xs) (suc k) lt = let y = line-at xs k (omega (arith, lt)) in (y.0, y.1, ap (λ ys. x ∷ ys) y.2)

pub take-whole : (xs : List Line) → take (length xs) xs ≡ xs
take-whole [] = refl
take-whole (x ∷ xs) = ap (λ ys. x ∷ ys) (take-whole xs)

-- The line of this number is the patron's.
abbrev is_of : List Line → ℕ → ℕ → Bool
is_of xs p n = unwrap_or (option_map (λ x. x.patron == p) (nth_line xs n)) false

-- One line more is shown exactly if it is the patron's.
one-more : (xs : List Line) (p k : ℕ) (x : Line) → nth_line xs (suc k) ≡ Some x
    → map (nth_line xs) (filter (is_of xs p) (suc k ∷ [])) ≡ map Some (filter (λ y. y.patron == p) (x ∷ []))
one-more xs p k x e = subst (λ b. map (nth_line xs) (cond b (suc k ∷ []) []) ≡ map Some (filter (λ y. y.patron == p) (x ∷ [])))
    (sym (ap (λ o. unwrap_or (option_map (λ y. y.patron == p) o) false) e)) (go (x.patron == p))
  where
    go : (b : Bool) → map (nth_line xs) (cond b (suc k ∷ []) []) ≡ map Some (cond b (x ∷ []) [])
    go true = ap (λ o. o ∷ []) e
    go false = refl

lines-shown : (xs : List Line) (p k : ℕ) → k ≤ length xs
    → map (nth_line xs) (filter (is_of xs p) (numbers_to k)) ≡ map Some (filter (λ y. y.patron == p) (take k xs))
lines-shown xs p zero le = refl
lines-shown xs p (suc k) le =
    let x = line-at xs k (omega (arith, le)) in
    ap (map (nth_line xs)) (filter-append (is_of xs p) (numbers_to k) (suc k ∷ []))
    ∙ map-append (nth_line xs) (filter (is_of xs p) (numbers_to k)) (filter (is_of xs p) (suc k ∷ []))
    ∙ ap₂ (λ a b. a ++ b) (lines-shown xs p k (omega (arith, le))) (one-more xs p k x.0 x.1)
    ∙ sym (ap (λ ys. map Some (filter (λ y. y.patron == p) ys)) x.2
    ∙ ap (map Some) (filter-append (λ y. y.patron == p) (take k xs) (x.0 ∷ []))
    ∙ map-append Some (filter (λ y. y.patron == p) (take k xs)) (filter (λ y. y.patron == p) (x.0 ∷ [])))

pub accounts-are-shown : AccountsAreShown
accounts-are-shown H p =
    lines-shown (lines H) p (length (lines H)) (omega arith)
    ∙ ap (λ ys. map Some (filter (λ y. y.patron == p) ys)) (take-whole (lines H))

-- ---- copies on the shelf

facts : (o : Option CopyFacts) → is_some o ≡ true → (r : CopyFacts) × (o ≡ Some r)
facts (Some r) e = (r, refl)
facts None e = let never : ⊥ = cc in absurd never

module _ (H : History) (c : ℕ) (legal : IsLegal H) (there : is_some (copy_of H c) ≡ true) where
  inv : Invariant H
  inv = legal-Invariant H legal

  shelved : place H c ≡ Shelf (home_of H c) → (q : Place) → Claims (picture H) c q → ⊥
  shelved at q claim =
      let same : q ≡ Shelf (home_of H c) = sym (claims-place H legal c q claim) ∙ at in
      subst (λ p. Claims (picture H) c p) same claim

  unclaimed : (p : Place) → place H c ≡ p → ((q : Place) → Claims (picture H) c q → ⊥) → place H c ≡ Shelf (home_of H c)
  unclaimed (Shelf b) at none = at ∙ ap Shelf (sym (inv.at_home c b at))
  unclaimed (HoldShelf h) at none = absurd (none (HoldShelf h) (away-claimed H legal c (HoldShelf h) at tt))
  unclaimed (Transit g h) at none = absurd (none (Transit g h) (away-claimed H legal c (Transit g h) at tt))
  unclaimed (Loan l) at none = absurd (none (Loan l) (away-claimed H legal c (Loan l) at tt))
  unclaimed MissingCopy at none = absurd (none MissingCopy (away-claimed H legal c MissingCopy at tt))
  unclaimed WithdrawnCopy at none = absurd (none WithdrawnCopy (away-claimed H legal c WithdrawnCopy at tt))
  unclaimed Nowhere at none = let r = facts (copy_of H c) there in absurd ((inv.acquired c r.0 r.1).0 at)

pub shelves-are-unclaimed : ShelvesAreUnclaimed
shelves-are-unclaimed H c legal there = (shelved H c legal there, unclaimed H c legal there (place H c) refl)
