-- Searches among the numbers from 1, and among the copies.
use Rattle.std.proofs.Common.{◌≡◌, ℕ, zero, suc, ◌≤◌, ◌<◌, ◌==◌, Bool, true, false, cond, ◌||◌, ◌⊎◌, inl, inr, List, [], ◌∷◌, ◌++◌, refl, sym, ◌∙◌, ap, arith}
use Rattle.std.specs.Prelude.{Some, filter, find}
use Rattle.std.specs.List.{list_any}
use Rattle.std.proofs.lemmas.List.Elements.{filter-append}
use Rattle.std.proofs.lemmas.Bool.{cases_lt, eqb-true}
use Rattle.model.specs.History.{numbers_to}

-- ---- filter over the numbers from 1 to n

filter_one : (test : ℕ → Bool) (k : ℕ) (b : Bool) → test k ≡ b → filter test (k ∷ []) ≡ cond b (k ∷ []) []
filter_one test k b e = ap (λ x. cond x (k ∷ []) []) e

pub filter-none : (test : ℕ → Bool) (n : ℕ) → ((h : ℕ) → 1 ≤ h → h ≤ n → test h ≡ false) → filter test (numbers_to n) ≡ []
filter-none test zero none = refl
filter-none test (suc n) none =
    filter-append test (numbers_to n) (suc n ∷ [])
    ∙ ap (λ xs. xs ++ filter test (suc n ∷ [])) (filter-none test n (λ h low high. none h low (omega (arith, high))))
    ∙ filter_one test (suc n) false (none (suc n) (omega arith) (omega arith))

pub filter-first : (test : ℕ → Bool) (n k : ℕ) → 1 ≤ k → k ≤ n → test k ≡ true → ((h : ℕ) → 1 ≤ h → h < k → test h ≡ false)
    → (hs : List ℕ) × (filter test (numbers_to n) ≡ k ∷ hs)
filter-first test zero k low high here below = absurd (omega (arith, low, high))
filter-first test (suc n) k low high here below = go (λ le. filter-first test n k low le here below) (cases_lt n k)
  where
    go : (k ≤ n → (hs : List ℕ) × (filter test (numbers_to n) ≡ k ∷ hs)) → (n < k) ⊎ (k ≤ n) → (hs : List ℕ) × (filter test (numbers_to (suc n)) ≡ k ∷ hs)
    go ih (inl lt) =
        let same : suc n ≡ k = omega (arith, lt, high) in
        let here' : test (suc n) ≡ true = rw same here in (
          [],
          filter-append test (numbers_to n) (suc n ∷ [])
              ∙ ap (λ xs. xs ++ filter test (suc n ∷ [])) (filter-none test n (λ h l hi. below h l (omega (arith, hi, lt))))
              ∙ filter_one test (suc n) true here' ∙ ap (λ x. x ∷ []) same,
        )
    go ih (inr le) =
        let rest : (hs : List ℕ) × (filter test (numbers_to n) ≡ k ∷ hs) = ih le in
        (rest.0 ++ filter test (suc n ∷ []), filter-append test (numbers_to n) (suc n ∷ []) ∙ ap (λ xs. xs ++ filter test (suc n ∷ [])) rest.1)

-- ---- find

pub find-same : (f g : ℕ → Bool) → ((x : ℕ) → f x ≡ g x) → (xs : List ℕ) → find f xs ≡ find g xs
find-same f g same [] = refl
find-same f g same (x ∷ xs) = ap (λ b. cond b (Some x) (find f xs)) (same x) ∙ ap (λ o. cond (g x) (Some x) o) (find-same f g same xs)

pub find-passes : (f : ℕ → Bool) (xs : List ℕ) (x : ℕ) → find f xs ≡ Some x → f x ≡ true
find-passes f [] x e = let never : ⊥ = cc in absurd never
find-passes f (y ∷ xs) x e = go (λ q. find-passes f xs x q) (f y) refl e
  where
    go : (find f xs ≡ Some x → f x ≡ true) → (b : Bool) → f y ≡ b → cond b (Some y) (find f xs) ≡ Some x → f x ≡ true
    go ih true p q = let same : y ≡ x = cc in rw (← same) p
    go ih false p q = ih q

-- The only member that passes is found.
pub find-only : (f : ℕ → Bool) (xs : List ℕ) (x : ℕ) → list_any (λ y. x == y) xs ≡ true → f x ≡ true → ((y : ℕ) → f y ≡ true → x ≡ y) → find f xs ≡ Some x
find-only f [] x has here only = let never : ⊥ = cc in absurd never
find-only f (y ∷ xs) x has here only = go (λ q. find-only f xs x q here only) (f y) refl
  where
    or_rest : (b : Bool) → (b || list_any (λ z. x == z) xs) ≡ true → b ≡ false → list_any (λ z. x == z) xs ≡ true
    or_rest true p q = let never : ⊥ = cc in absurd never
    or_rest false p q = p

    ne : f y ≡ false → (x == y) ≡ false
    ne p = other (x == y) refl
      where
        other : (b : Bool) → (x == y) ≡ b → b ≡ false
        other true q = let same : x ≡ y = eqb-true x y q in let no : f x ≡ false = rw same p in let never : ⊥ = cc in absurd never
        other false q = refl

    go : (list_any (λ z. x == z) xs ≡ true → find f xs ≡ Some x) → (b : Bool) → f y ≡ b → cond b (Some y) (find f xs) ≡ Some x
    go ih true p = ap Some (sym (only y p))
    go ih false p = ih (or_rest (x == y) has (ne p))
