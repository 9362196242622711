-- Which copies serve which holds, and what moving one copy preserves.
use Rattle.std.proofs.Common.{◌≡◌, ℕ, ◌==◌, Bool, true, false, ◌⊎◌, ◌≢◌, inl, inr, refl, sym, ◌∙◌}
use Rattle.std.specs.Prelude.{Option, Some}
use Rattle.std.proofs.lemmas.Bool.{eqb-true, eq-eqb}
use Rattle.terms.specs.declared.row.HoldState.{HoldState}
use Rattle.terms.specs.declared.row.HoldState.TheVariants.{Ready}
use Rattle.model.specs.Places.{Place, HoldShelf}
use Rattle.model.specs.Invariant.{Serves, Fits, Bound}

-- A place where a copy serves no hold.
abbrev pub IsFree : Place → Type 0
IsFree p = (h : ℕ) → Serves p h → ⊥

pub ne-eqb : (a b : ℕ) → a ≢ b → (a == b) ≡ false
ne-eqb a b ne = go (a == b) refl
  where
    go : (x : Bool) → (a == b) ≡ x → x ≡ false
    go true e = absurd (ne (eqb-true a b e))
    go false e = refl

pub false-ne : (a b : ℕ) → (a == b) ≡ false → a ≢ b
false-ne a b e same = let yes' : (a == b) ≡ true = eq-eqb a b same in let never : ⊥ = cc in absurd never

-- The places after copy n has gone to q.
abbrev pub moved : ℕ → Place → (ℕ → Place) → ℕ → Place
moved n q places c = elim (n == c) [ true ↦ q | false ↦ places c ]

module _ (goal : ℕ → ℕ) (places : ℕ → Place) (states after : ℕ → Option HoldState) (bound : Bound goal places states) (n : ℕ) (q : Place)
    (others : (d h : ℕ) → n ≢ d → Serves (places d) h → after h ≡ states h)
    (served : (h : ℕ) → Serves q h → Fits goal q h (after h) × ((d : ℕ) → n ≢ d → Serves (places d) h → ⊥))
    (ready : (h : ℕ) → after h ≡ Some Ready → (q ≡ HoldShelf h) ⊎ ((d : ℕ) × (n ≢ d) × (places d ≡ HoldShelf h))) where
  move-once : (c d h : ℕ) → Serves (moved n q places c) h → Serves (moved n q places d) h → c ≡ d
  move-once c d h = go (n == c) (n == d) refl refl
    where
      go : (x y : Bool) → (n == c) ≡ x → (n == d) ≡ y → Serves (elim x as (λ _. Place) [ true ↦ q | false ↦ places c ]) h
          → Serves (elim y as (λ _. Place) [ true ↦ q | false ↦ places d ]) h → c ≡ d
      go true true e f s t = sym (eqb-true n c e) ∙ eqb-true n d f
      go true false e f s t = absurd ((served h s).1 d (false-ne n d f) t)
      go false true e f s t = absurd ((served h t).1 c (false-ne n c e) s)
      go false false e f s t = bound.once c d h s t

  move-fits : (c h : ℕ) → Serves (moved n q places c) h → Fits goal (moved n q places c) h (after h)
  move-fits c h = go (n == c) refl
    where
      go : (x : Bool) → (n == c) ≡ x → Serves (elim x as (λ _. Place) [ true ↦ q | false ↦ places c ]) h
          → Fits goal (elim x as (λ _. Place) [ true ↦ q | false ↦ places c ]) h (after h)
      go true e s = (served h s).0
      go false e s = rw (others c h (false-ne n c e) s) (bound.fits c h s)

  move-kept : (h : ℕ) → after h ≡ Some Ready → (c : ℕ) × (moved n q places c ≡ HoldShelf h)
  move-kept h e = go (ready h e)
    where
      go : (q ≡ HoldShelf h) ⊎ ((d : ℕ) × (n ≢ d) × (places d ≡ HoldShelf h)) → (c : ℕ) × (moved n q places c ≡ HoldShelf h)
      go (inl here) = (n, rw (eq-eqb n n refl, moved) here)
      go (inr there) = (there.0, rw (ne-eqb n there.0 there.1, moved) there.2)

  -- A move of one copy keeps the bindings.
  pub move-bound : Bound goal (moved n q places) after
  move-bound = record { once = move-once; fits = move-fits; kept = move-kept }
