-- Members of filtered lists of numbers.
use Rattle.std.proofs.Common.{◌≡◌, ℕ, zero, suc, ◌≤◌, ◌<◌, ◌==◌, Bool, true, false, cond, ◌||◌, ◌⊎◌, inl, inr, List, [], ◌∷◌, refl, sym, ◌∙◌, subst, arith}
use Rattle.std.specs.Prelude.{filter}
use Rattle.std.specs.List.{list_any}
use Rattle.std.proofs.lemmas.Bool.{eqb-true, eq-eqb}
use Rattle.std.proofs.lemmas.List.Folds.{list_any-append}
use Rattle.std.proofs.lemmas.Bool.{cases_lt}
use Rattle.model.specs.History.{numbers_to}

-- The number is in the list.
abbrev pub has : List ℕ → ℕ → Bool
has xs h = list_any (λ g. g == h) xs

pub or-right : (x y : Bool) → y ≡ true → (x || y) ≡ true
or-right true y e = refl
or-right false y e = e

pub or-left : (x y : Bool) → x ≡ true → (x || y) ≡ true
or-left true y e = refl
or-left false y e = let never : ⊥ = cc in absurd never

-- A member of a filtered list passes the test.
pub filter-passes : (test : ℕ → Bool) (h : ℕ) (xs : List ℕ) → has (filter test xs) h ≡ true → test h ≡ true
filter-passes test h [] e = let never : ⊥ = cc in absurd never
filter-passes test h (x ∷ xs) e = go (λ q. filter-passes test h xs q) (test x) refl e
  where
    here : (test x ≡ true) → (has (filter test xs) h ≡ true → test h ≡ true) → (b : Bool) → (x == h) ≡ b → (b || has (filter test xs) h) ≡ true → test h ≡ true
    here p ih true q r = subst (λ y. test y ≡ true) (eqb-true x h q) p
    here p ih false q r = ih r

    go : (has (filter test xs) h ≡ true → test h ≡ true) → (b : Bool) → test x ≡ b → has (cond b (x ∷ filter test xs) (filter test xs)) h ≡ true → test h ≡ true
    go ih true p r = here p ih (x == h) refl r
    go ih false p r = ih r

-- A member of the list that passes the test is in the filtered list.
pub filter-has : (test : ℕ → Bool) (h : ℕ) (xs : List ℕ) → test h ≡ true → has xs h ≡ true → has (filter test xs) h ≡ true
filter-has test h [] p e = let never : ⊥ = cc in absurd never
filter-has test h (x ∷ xs) p e = go (λ q. filter-has test h xs p q) (x == h) refl (test x) refl e
  where
    go : (has xs h ≡ true → has (filter test xs) h ≡ true) → (b : Bool) → (x == h) ≡ b → (y : Bool) → test x ≡ y → (b || has xs h) ≡ true
        → has (cond y (x ∷ filter test xs) (filter test xs)) h ≡ true
    go ih true q true r s = or-left (x == h) _ q
    go ih true q false r s = let on : test x ≡ true = subst (λ y. test y ≡ true) (sym (eqb-true x h q)) p in let never : ⊥ = cc in absurd never
    go ih false q true r s = or-right (x == h) _ (ih s)
    go ih false q false r s = ih s

-- A member of a filtered list is in the list.
pub filter-among : (test : ℕ → Bool) (h : ℕ) (xs : List ℕ) → has (filter test xs) h ≡ true → has xs h ≡ true
filter-among test h [] e = e
filter-among test h (x ∷ xs) e = go (filter-among test h xs) (test x) e
  where
    go : (has (filter test xs) h ≡ true → has xs h ≡ true) → (b : Bool) → has (cond b (x ∷ filter test xs) (filter test xs)) h ≡ true
        → ((x == h) || has xs h) ≡ true
    go ih true r = both (x == h) r
      where
        both : (y : Bool) → (y || has (filter test xs) h) ≡ true → (y || has xs h) ≡ true
        both true q = refl
        both false q = ih q
    go ih false r = or-right (x == h) _ (ih r)

-- Each number from 1 to n is among them.
pub numbers-has : (n h : ℕ) → 1 ≤ h → h ≤ n → has (numbers_to n) h ≡ true
numbers-has zero h low high = let never : ⊥ = omega (arith, low, high) in absurd never
numbers-has (suc n) h low high = list_any-append (λ g. g == h) (numbers_to n) (suc n ∷ []) ∙ go (λ le. numbers-has n h low le) (cases_lt n h)
  where
    last : suc n ≡ h → has (suc n ∷ []) h ≡ true
    last same = or-left (suc n == h) false (eq-eqb (suc n) h same)

    go : (h ≤ n → has (numbers_to n) h ≡ true) → (n < h) ⊎ (h ≤ n) → (has (numbers_to n) h || has (suc n ∷ []) h) ≡ true
    go ih (inl lt) = or-right (has (numbers_to n) h) _ (last (omega (arith, lt, high)))
    go ih (inr le) = or-left _ _ (ih le)
