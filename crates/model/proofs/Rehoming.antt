-- Where a copy with a new home goes.
use Rattle.std.proofs.Common.{◌≡◌, ℕ, ◌==◌, Bool, true, false, refl, sym, ◌∙◌}
use Rattle.std.specs.Prelude.{None}
use Rattle.std.proofs.lemmas.Bool.{eqb-true}
use Rattle.model.specs.History.{History}
use Rattle.model.specs.Places.{Place, Shelf, Transit, place, state, is_begun, place_rehomed}

-- Where a copy in this place goes.
abbrev pub rehomed : History → ℕ → Place → Place
rehomed H b p = place_rehomed H (place H) (state H) (is_begun H) b p

-- It stays where it is, or it is in transit to its new home.
pub rehomed-keeps : (H : History) (P : Place → Type 0) (b : ℕ) (p : Place) → P p → P (Transit b None) → P (rehomed H b p)
rehomed-keeps H P b (Shelf g) was new = go (g == b)
  where
    go : (x : Bool) → P (elim x as (λ _. Place) [ true ↦ Shelf g | false ↦ Transit b None ])
    go true = was
    go false = new
rehomed-keeps H P b _ was new = was

-- On a shelf it is at its new home, and was before.
pub rehomed-shelf : (H : History) (b : ℕ) (p : Place) (m : ℕ) → rehomed H b p ≡ Shelf m → (p ≡ Shelf m) × (b ≡ m)
rehomed-shelf H b (Shelf g) m e = go (g == b) refl e
  where
    go : (x : Bool) → (g == b) ≡ x → elim x as (λ _. Place) [ true ↦ Shelf g | false ↦ Transit b None ] ≡ Shelf m → (Shelf g ≡ Shelf m) × (b ≡ m)
    go true d f = let same : g ≡ m = cc in (f, sym (eqb-true g b d) ∙ same)
    go false d f = let never : ⊥ = cc in absurd never
rehomed-shelf H b _ m e = let never : ⊥ = cc in absurd never

-- What is the same on a shelf and in transit for no hold stays.
pub rehomed-as : {B : Type 0} (H : History) (column : Place → B) (b : ℕ) → ((g : ℕ) → column (Transit b None) ≡ column (Shelf g)) → (p : Place)
    → column (rehomed H b p) ≡ column p
rehomed-as {B} H column b same (Shelf g) = go (g == b)
  where
    go : (x : Bool) → column (elim x as (λ _. Place) [ true ↦ Shelf g | false ↦ Transit b None ]) ≡ column (Shelf g)
    go true = refl
    go false = same g
rehomed-as H column b same _ = refl
