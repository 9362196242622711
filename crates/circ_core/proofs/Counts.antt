-- Counts of rows are lengths of the model's lists.
use Rattle.std.proofs.Common.{◌≡◌, ℕ, zero, suc, ◌≤◌, ◌<◌, ◌==◌, Bool, true, false, cond, ◌||◌, ◌⊎◌, inl, inr, List, [], ◌∷◌, ◌++◌, length}
use Rattle.std.proofs.Common.{refl, sym, ◌∙◌, arith, append-nil}
use Rattle.std.specs.Prelude.{filter}
use Rattle.std.specs.List.{list_any, IsDistinct, AllByRecursion}
use Rattle.std.proofs.lemmas.Bool.{eqb-true, eq-eqb, or_cases, false_from_ne_true, cases_lt}
use Rattle.std.proofs.lemmas.Cmp.{nat_eq_equiv}
use Rattle.std.proofs.lemmas.Map.Made.{length-from_same_keys}
use Rattle.std.proofs.lemmas.List.Elements.{filter-append}
use Rattle.std.proofs.lemmas.List.Folds.{list_any-append}
use Rattle.circ_core.specs.Views.{IsCount}
use Rattle.model.specs.History.{numbers_to}

-- ---- members of a filter

pub any_filter-some : (f g : ℕ → Bool) (xs : List ℕ) → list_any g (filter f xs) ≡ true → (x : ℕ) × (f x ≡ true) × (g x ≡ true)
any_filter-some f g [] e = let never : ⊥ = cc in absurd never
any_filter-some f g (x ∷ xs) e = go (λ q. any_filter-some f g xs q) (f x) refl e
  where
    or_go : (list_any g (filter f xs) ≡ true → (y : ℕ) × (f y ≡ true) × (g y ≡ true)) → f x ≡ true → (b : Bool) → g x ≡ b
        → (b || list_any g (filter f xs)) ≡ true → (y : ℕ) × (f y ≡ true) × (g y ≡ true)
    or_go ih p true q r = (x, p, q)
    or_go ih p false q r = ih r

    go : (list_any g (filter f xs) ≡ true → (y : ℕ) × (f y ≡ true) × (g y ≡ true)) → (b : Bool) → f x ≡ b
        → list_any g (cond b (x ∷ filter f xs) (filter f xs)) ≡ true → (y : ℕ) × (f y ≡ true) × (g y ≡ true)
    go ih true p q = or_go ih p (g x) refl q
    go ih false p q = ih q

pub any_filter-from : (f g : ℕ → Bool) (xs : List ℕ) (x : ℕ) → list_any (λ y. x == y) xs ≡ true → f x ≡ true → g x ≡ true → list_any g (filter f xs) ≡ true
any_filter-from f g [] x has p q = let never : ⊥ = cc in absurd never
any_filter-from f g (y ∷ xs) x has p q = go (λ r. any_filter-from f g xs x r p q) (x == y) refl has
  where
    later : (b : Bool) → list_any g (filter f xs) ≡ true → list_any g (cond b (y ∷ filter f xs) (filter f xs)) ≡ true
    later true r = or_true (g y) r
      where
        or_true : (a : Bool) → list_any g (filter f xs) ≡ true → (a || list_any g (filter f xs)) ≡ true
        or_true true s = refl
        or_true false s = s
    later false r = r

    go : (list_any (λ z. x == z) xs ≡ true → list_any g (filter f xs) ≡ true) → (b : Bool) → (x == y) ≡ b → (b || list_any (λ z. x == z) xs) ≡ true
        → list_any g (cond (f y) (y ∷ filter f xs) (filter f xs)) ≡ true
    go ih true e r =
        let same : x ≡ y = eqb-true x y e in
        let p' : f y ≡ true = rw same at p in
        let q' : g y ≡ true = rw same at q in
        rw (p', q') refl
    go ih false e r = later (f y) (ih r)

pub numbers_to-has : (n h : ℕ) → 1 ≤ h → h ≤ n → list_any (λ y. h == y) (numbers_to n) ≡ true
numbers_to-has zero h low high = absurd (omega (arith, low, high))
numbers_to-has (suc n) h low high =
    list_any-append (λ y. h == y) (numbers_to n) (suc n ∷ []) ∙ go (λ le. numbers_to-has n h low le) (cases_lt n h)
  where
    or_left' : (a b : Bool) → a ≡ true → (a || b) ≡ true
    or_left' true b e = refl
    or_left' false b e = let never : ⊥ = cc in absurd never

    or_right' : (a b : Bool) → b ≡ true → (a || b) ≡ true
    or_right' true b e = refl
    or_right' false b e = e

    go : (h ≤ n → list_any (λ y. h == y) (numbers_to n) ≡ true) → (n < h) ⊎ (h ≤ n)
        → (list_any (λ y. h == y) (numbers_to n) || list_any (λ y. h == y) (suc n ∷ [])) ≡ true
    go ih (inl lt) = let same : h ≡ suc n = omega (arith, lt, high) in or_right' _ _ (or_left' (h == suc n) false (eq-eqb h (suc n) same))
    go ih (inr le) = or_left' _ _ (ih le)

pub numbers_to-below : (n h : ℕ) → list_any (λ y. h == y) (numbers_to n) ≡ true → h ≤ n
numbers_to-below zero h e = let never : ⊥ = cc in absurd never
numbers_to-below (suc n) h e = go (λ q. numbers_to-below n h q) (or_cases _ _ (sym (list_any-append (λ y. h == y) (numbers_to n) (suc n ∷ [])) ∙ e))
  where
    last : (b : Bool) → (h == suc n) ≡ b → (b || false) ≡ true → h ≤ suc n
    last true p q = let same : h ≡ suc n = eqb-true h (suc n) p in omega (arith, same)
    last false p q = let never : ⊥ = cc in absurd never

    go : (list_any (λ y. h == y) (numbers_to n) ≡ true → h ≤ n) → (list_any (λ y. h == y) (numbers_to n) ≡ true)
        ⊎ (list_any (λ y. h == y) (suc n ∷ []) ≡ true) → h ≤ suc n
    go ih (inl q) = let le : h ≤ n = ih q in omega (arith, le)
    go ih (inr q) = last (h == suc n) refl q

-- ---- filters of the numbers are distinct

distinct-snoc : (xs : List ℕ) (k : ℕ) → IsDistinct ◌==◌ xs → ((x : ℕ) → list_any (λ y. x == y) xs ≡ true → (x == k) ≡ false) → IsDistinct ◌==◌ (xs ++ k ∷ [])
unfolding IsDistinct
distinct-snoc [] k d ne = (tt, tt)
distinct-snoc (x ∷ xs) k d ne =
    (all-snoc xs d.0 (ne x (rw (eq-eqb x x refl) refl)), distinct-snoc xs k d.1 (λ y e. ne y (or_later y (y == x) e)))
  where
    or_later : (y : ℕ) (b : Bool) → list_any (λ z. y == z) xs ≡ true → (b || list_any (λ z. y == z) xs) ≡ true
    or_later y true e = refl
    or_later y false e = e

    all-snoc : (ys : List ℕ) → AllByRecursion (λ y. (x == y) ≡ false) ys → (x == k) ≡ false → AllByRecursion (λ y. (x == y) ≡ false) (ys ++ k ∷ [])
    all-snoc [] a e = (e, tt)
    all-snoc (y ∷ ys) a e = (a.0, all-snoc ys a.1 e)

any_filter-any : (f g : ℕ → Bool) (xs : List ℕ) → list_any g (filter f xs) ≡ true → list_any g xs ≡ true
any_filter-any f g [] e = e
any_filter-any f g (x ∷ xs) e = go (λ q. any_filter-any f g xs q) (f x) e
  where
    or_later : (b : Bool) → list_any g xs ≡ true → (b || list_any g xs) ≡ true
    or_later true q = refl
    or_later false q = q

    or_same : (list_any g (filter f xs) ≡ true → list_any g xs ≡ true) → (b : Bool) → (b || list_any g (filter f xs)) ≡ true → (b || list_any g xs) ≡ true
    or_same ih true q = refl
    or_same ih false q = ih q

    go : (list_any g (filter f xs) ≡ true → list_any g xs ≡ true) → (b : Bool) → list_any g (cond b (x ∷ filter f xs) (filter f xs)) ≡ true
        → (g x || list_any g xs) ≡ true
    go ih true q = or_same ih (g x) q
    go ih false q = or_later (g x) (ih q)

pub distinct-numbers : (f : ℕ → Bool) (n : ℕ) → IsDistinct ◌==◌ (filter f (numbers_to n))
unfolding IsDistinct
distinct-numbers f zero = tt
distinct-numbers f (suc n) = rw (filter-append f (numbers_to n) (suc n ∷ [])) (go (f (suc n)) (distinct-numbers f n))
  where
    below : (x : ℕ) → list_any (λ y. x == y) (filter f (numbers_to n)) ≡ true → (x == suc n) ≡ false
    below x e = false_from_ne_true (x == suc n) (λ same.
        let is : x ≡ suc n = eqb-true x (suc n) same in
        let le : x ≤ n = numbers_to-below n x (any_filter-any f (λ y. x == y) (numbers_to n) e) in
        omega (arith, is, le))

    go : (b : Bool) → IsDistinct ◌==◌ (filter f (numbers_to n)) → IsDistinct ◌==◌ (filter f (numbers_to n) ++ cond b (suc n ∷ []) [])
    go true d = distinct-snoc (filter f (numbers_to n)) (suc n) d below
    go false d = rw append-nil d

-- ---- counts

-- The number of keys that pass is the length of the filter that keeps just these.
pub count-length : (P : ℕ → Type 0) (f : ℕ → Bool) (m n : ℕ) → ((k : ℕ) → P k → (f k ≡ true) × (1 ≤ k) × (k ≤ m)) → ((k : ℕ) → f k ≡ true → P k)
    → IsCount P n → n ≡ length (filter f (numbers_to m))
count-length P f m n to from w =
    sym w.count ∙ length-from_same_keys nat_eq_equiv w.keys (filter f (numbers_to m)) w.once (distinct-numbers f m)
    (λ q. both q (list_any (λ y. q == y) w.keys) (list_any (λ y. q == y) (filter f (numbers_to m))) refl refl)
  where
    in_keys : (q : ℕ) → list_any (λ y. q == y) w.keys ≡ true → list_any (λ y. q == y) (filter f (numbers_to m)) ≡ true
    in_keys q e = let p : (f q ≡ true) × (1 ≤ q) × (q ≤ m) = to q (w.sound q e) in
        any_filter-from f (λ y. q == y) (numbers_to m) q (numbers_to-has m q p.1 p.2) p.0 (eq-eqb q q refl)

    in_filter : (q : ℕ) → list_any (λ y. q == y) (filter f (numbers_to m)) ≡ true → list_any (λ y. q == y) w.keys ≡ true
    in_filter q e =
        let who : (y : ℕ) × (f y ≡ true) × ((q == y) ≡ true) = any_filter-some f (λ y. q == y) (numbers_to m) e in
        let is : q ≡ who.0 = eqb-true q who.0 who.2 in
        w.whole q (from q (rw is who.1))

    both : (q : ℕ) (a b : Bool) → list_any (λ y. q == y) w.keys ≡ a → list_any (λ y. q == y) (filter f (numbers_to m)) ≡ b
        → list_any (λ y. q == y) w.keys ≡ list_any (λ y. q == y) (filter f (numbers_to m))
    both q true b e d = e ∙ sym (in_keys q e)
    both q false true e d = in_filter q d ∙ sym d
    both q false false e d = e ∙ sym d
