-- Ordered rows, one more at a time.
use Rattle.std.proofs.Common.{◌≡◌, ℕ, zero, suc, ◌+◌, ◌-◌, ◌<◌, ◌≤◌, List, [], ◌∷◌, length, take, get_or, refl, sym, ◌∙◌, subst, arith}
use Rattle.std.specs.List.{AllByRecursion}
use Rattle.terms.specs.Orders.{IsOrdered}

all-at : {R : Type 0} (P : R → Type 0) (rows : List R) (k j : ℕ) (d : R) → j < k → j < length rows → AllByRecursion P (take k rows) → P (get_or rows j d)
all-at P [] k j d less lt all = absurd (omega (arith, lt))
all-at P (r ∷ rows) zero j d less lt all = absurd (omega (arith, less))
all-at P (r ∷ rows) (suc k) zero d less lt all = all.0
all-at P (r ∷ rows) (suc k) (suc j) d less lt all = all-at P rows k j d (omega (arith, less)) (omega (arith, lt)) all.1

all-more : {R : Type 0} (P : R → Type 0) (rows : List R) (k : ℕ) (d : R) → k < length rows → AllByRecursion P (take k rows)
    → P (get_or rows k d) → AllByRecursion P (take (suc k) rows)
all-more P [] k d lt all is = absurd (omega (arith, lt))
all-more P (r ∷ rows) zero d lt all is = (is, tt)
all-more P (r ∷ rows) (suc k) d lt all is = (all.0, all-more P rows k d (omega (arith, lt)) all.1 is)

-- One row is in order.
pub one-ordered : {R : Type 0} (Before : R → R → Type 0) (rows : List R) → IsOrdered Before (take 1 rows)
one-ordered Before [] = tt
one-ordered Before (r ∷ rows) = (tt, tt)

-- A row that the last one comes before.
pub more-ordered : {R : Type 0} (Before : R → R → Type 0) → ((r s t : R) → Before r s → Before s t → Before r t)
    → (rows : List R) (n : ℕ) (d : R) → suc n < length rows
    → IsOrdered Before (take (suc n) rows) → Before (get_or rows n d) (get_or rows (suc n) d) → IsOrdered Before (take (suc (suc n)) rows)
more-ordered Before on [] n d lt order less = absurd (omega (arith, lt))
more-ordered Before on (r ∷ []) n d lt order less = absurd (omega (arith, lt))
more-ordered Before on (r ∷ s ∷ rows) zero d lt order less = ((less, tt), (tt, tt))
more-ordered Before on (r ∷ s ∷ rows) (suc n) d lt order less = (
  all-more (Before r) (s ∷ rows) (suc n) d (omega (arith, lt)) order.0
      (on r (get_or (s ∷ rows) n d) (get_or (s ∷ rows) (suc n) d) (all-at (Before r) (s ∷ rows) (suc n) n d (omega arith) (omega (arith, lt)) order.0) less),
  more-ordered Before on (s ∷ rows) n d (omega (arith, lt)) order.1 less,
)

all-get : {R : Type 0} (P : R → Type 0) (rows : List R) (j : ℕ) (d : R) → j < length rows → AllByRecursion P rows → P (get_or rows j d)
all-get P [] j d lt all = absurd (omega (arith, lt))
all-get P (r ∷ rows) zero d lt all = all.0
all-get P (r ∷ rows) (suc j) d lt all = all-get P rows j d (omega (arith, lt)) all.1

-- Each row comes before each later one.
pub ordered-at : {R : Type 0} (Before : R → R → Type 0) (rows : List R) (i j : ℕ) (d : R) → i < j → j < length rows → IsOrdered Before rows
    → Before (get_or rows i d) (get_or rows j d)
ordered-at Before [] i j d less lt order = absurd (omega (arith, lt))
ordered-at Before (r ∷ rows) i zero d less lt order = absurd (omega (arith, less))
ordered-at Before (r ∷ rows) zero (suc j) d less lt order = all-get (Before r) rows j d (omega (arith, lt)) order.0
ordered-at Before (r ∷ rows) (suc i) (suc j) d less lt order = ordered-at Before rows i j d (omega (arith, less)) (omega (arith, lt)) order.1

all-as : {R : Type 0} (P Q : R → Type 0) → ((r : R) → P r → Q r) → (rows : List R) → AllByRecursion P rows → AllByRecursion Q rows
all-as P Q to [] all = tt
all-as P Q to (r ∷ rows) all = (to r all.0, all-as P Q to rows all.1)

-- What is in one order is in another that follows from it.
pub ordered-as : {R : Type 0} (Before After : R → R → Type 0) → ((r s : R) → Before r s → After r s) → (rows : List R)
    → IsOrdered Before rows → IsOrdered After rows
ordered-as Before After to [] order = tt
ordered-as Before After to (r ∷ rows) order = (all-as (Before r) (After r) (to r) rows order.0, ordered-as Before After to rows order.1)

-- ---- neighbours, as they are read

module _ {R : Type 0} (Before : R → R → Type 0) (rows : List R) (at : ℕ) (x y : R) (from : 1 ≤ at) (lt : at < length rows)
    (here : x ≡ get_or rows (at - 1) x) (next : y ≡ get_or rows at y) where
  get-same : (rows : List R) (k : ℕ) (d e : R) → k < length rows → get_or rows k d ≡ get_or rows k e
  get-same [] k d e lt = absurd (omega (arith, lt))
  get-same (r ∷ rows) zero d e lt = refl
  get-same (r ∷ rows) (suc k) d e lt = get-same rows k d e (omega (arith, lt))

  at-is : at ≡ suc (at - 1)
  at-is = omega (arith, from)

  next-is : y ≡ get_or rows (suc (at - 1)) x
  next-is = next ∙ get-same rows at y x lt ∙ subst (λ (k : ℕ). get_or rows at x ≡ get_or rows k x) at-is refl

  -- The first comes before the second, where all are in order.
  pub neighbours-before : IsOrdered Before rows → Before x y
  neighbours-before order =
      subst (λ (r : R). Before r y) (sym here) (subst (λ (r : R). Before (get_or rows (at - 1) x) r) (sym next-is)
      (ordered-at Before rows (at - 1) (suc (at - 1)) x (omega arith) (omega (arith, lt, from)) order))

  -- One row more is in order, where it does.
  pub next-ordered : ((r s t : R) → Before r s → Before s t → Before r t) → IsOrdered Before (take at rows) → Before x y → IsOrdered Before (take (at + 1) rows)
  next-ordered on order less =
      subst (λ (k : ℕ). IsOrdered Before (take k rows)) (let is : suc (suc (at - 1)) ≡ at + 1 = omega (arith, from) in is)
      (more-ordered Before on rows (at - 1) x (omega (arith, lt, from)) (subst (λ (k : ℕ). IsOrdered Before (take k rows)) at-is order)
      (subst (λ (r : R). Before r (get_or rows (suc (at - 1)) x)) here (subst (λ (r : R). Before x r) next-is less)))
