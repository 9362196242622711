-- Row changes, by what the history sets and makes.
use Rattle.std.proofs.Common.{◌≡◌, ℕ, suc, ◌==◌, Bool, true, false, cond, ◌&&◌, refl, ap, arith}
use Rattle.std.specs.Prelude.{Option, Some, None, option_map, not, is_none, is_some}
use Rattle.std.specs.Option.{option_or}
use Rattle.std.proofs.lemmas.Bool.{eqb-true, and_parts, false_from_ne_true}
use Rattle.terms.specs.Pictures.{put, put_pair}

-- ---- numbers and Options

pub is_none-map : {A B : Type 0} (f : A → B) (o : Option A) → is_none (option_map f o) ≡ is_none o
is_none-map f (Some x) = refl
is_none-map f None = refl

pub none-map : {A B : Type 0} (f : A → B) (o : Option A) → is_none (option_map f o) ≡ not (is_some o)
none-map f (Some x) = refl
none-map f None = refl

pub is_none-None : {A : Type 0} (o : Option A) → is_none o ≡ true → o ≡ None
is_none-None None e = refl
is_none-None (Some x) e = let never : ⊥ = cc in absurd never

pub some-is : {A : Type 0} (o : Option A) → not (is_some o) ≡ false → (x : A) × (o ≡ Some x)
some-is (Some x) e = (x, refl)
some-is None e = let never : ⊥ = cc in absurd never

pub there-is : {A : Type 0} (o : Option A) → is_none o ≡ false → (x : A) × (o ≡ Some x)
there-is (Some x) e = (x, refl)
there-is None e = let never : ⊥ = cc in absurd never

pub option_map-is : {A B : Type 0} (f : A → B) (o : Option A) (y : B) → option_map f o ≡ Some y → (x : A) × (o ≡ Some x) × (f x ≡ y)
option_map-is f (Some x) y e = (x, refl, cc)
option_map-is f None y e = let never : ⊥ = cc in absurd never

pub and-true : (b : Bool) → (b && true) ≡ b
and-true true = refl
and-true false = refl

pub is_suc : (n : ℕ) → (suc n == 0) ≡ false
is_suc n = false_from_ne_true (suc n == 0) (λ e. let same : suc n ≡ 0 = eqb-true _ _ e in omega (arith, same))

-- ---- one table

-- A row that is set, new or replaced.
pub put_set : {A B : Type 0} (row : ℕ → A → B) (facts : ℕ → Option A) (k : ℕ) (x : A) (n : ℕ)
    → put (λ m. option_map (row m) (facts m)) k (Some (row k x)) n ≡ option_map (row n) (cond (k == n) (Some x) (facts n))
put_set {A} {B} row facts k x n = go (k == n) refl
  where
    go : (b : Bool) → (k == n) ≡ b
        → ◌≡◌ {A = Option B} (elim b [ true ↦ Some (row k x) | false ↦ option_map (row n) (facts n) ]) (option_map (row n) (cond b (Some x) (facts n)))
    go true e = ap (λ m. Some (row m x)) (eqb-true k n e)
    go false e = refl

-- A row that is there, some of whose columns are set.
pub put_amended : {A B : Type 0} (row : ℕ → A → B) (facts : ℕ → Option A) (k : ℕ) (f : A → A) (x : A) (n : ℕ) → facts k ≡ Some x
    → put (λ m. option_map (row m) (facts m)) k (Some (row k (f x))) n ≡ option_map (row n) (cond (k == n) (option_map f (facts n)) (facts n))
put_amended {A} {B} row facts k f x n some = go (k == n) refl
  where
    go : (b : Bool) → (k == n) ≡ b
        → ◌≡◌ {A = Option B} (elim b [ true ↦ Some (row k (f x)) | false ↦ option_map (row n) (facts n) ])
        (option_map (row n) (cond b (option_map f (facts n)) (facts n)))
    go true e =
        let same : k ≡ n = eqb-true k n e in
        let some' : facts n ≡ Some x = rw same at some in
        rw (same, some') refl
    go false e = refl

-- The same for a key of two numbers.
pub put_pair_set : {A B : Type 0} (row : ℕ → ℕ → A → B) (facts : ℕ → ℕ → Option A) (j k : ℕ) (x : A) (m n : ℕ)
    → put_pair (λ a b. option_map (row a b) (facts a b)) j k (Some (row j k x)) m n ≡ option_map (row m n) (cond ((j == m) && (k == n)) (Some x) (facts m n))
put_pair_set {A} {B} row facts j k x m n = go ((j == m) && (k == n)) refl
  where
    go : (b : Bool) → ((j == m) && (k == n)) ≡ b
        → ◌≡◌ {A = Option B} (elim b [ true ↦ Some (row j k x) | false ↦ option_map (row m n) (facts m n) ])
        (option_map (row m n) (cond b (Some x) (facts m n)))
    go true e =
        let both : ((j == m) ≡ true) × ((k == n) ≡ true) = and_parts _ _ e in
        let first : j ≡ m = eqb-true j m both.0 in
        let second : k ≡ n = eqb-true k n both.1 in
        rw (first, second) refl
    go false e = refl

or_none : {A B : Type 0} (f : A → B) (o : Option A) → option_map f o ≡ option_map f (option_or o None)
or_none f (Some y) = refl
or_none f None = refl

-- A row that is made where there was none.
pub put_new : {A B : Type 0} (row : ℕ → A → B) (facts : ℕ → Option A) (k : ℕ) (x : A) (z : B) (n : ℕ) → facts k ≡ None → z ≡ row k x
    → put (λ m. option_map (row m) (facts m)) k (Some z) n ≡ option_map (row n) (option_or (facts n) (cond (k == n) (Some x) None))
put_new {A} {B} row facts k x z n none same = go (k == n) refl
  where
    go : (b : Bool) → (k == n) ≡ b
        → ◌≡◌ {A = Option B} (elim b [ true ↦ Some z | false ↦ option_map (row n) (facts n) ]) (option_map (row n) (option_or (facts n) (cond b (Some x) None)))
    go true e =
        let here : k ≡ n = eqb-true k n e in
        let none' : facts n ≡ None = rw here at none in
        let z' : z ≡ row n x = rw here at same in
        rw (none', z') refl
    go false e = or_none (row n) (facts n)

-- A row that is there and stays.
pub keep_old : {A B : Type 0} (row : ℕ → A → B) (facts : ℕ → Option A) (k : ℕ) (x y : A) (n : ℕ) → facts k ≡ Some y
    → option_map (row n) (facts n) ≡ option_map (row n) (option_or (facts n) (cond (k == n) (Some x) None))
keep_old {A} {B} row facts k x y n some = go (k == n) refl
  where
    go : (b : Bool) → (k == n) ≡ b → option_map (row n) (facts n) ≡ option_map (row n) (option_or (facts n) (cond b (Some x) None))
    go true e = let same : k ≡ n = eqb-true k n e in let some' : facts n ≡ Some y = rw same at some in rw some' refl
    go false e = or_none (row n) (facts n)
