-- The tills of all branches add up to the till of the day.
use Rattle.std.proofs.Common.{◌≡◌, ℕ, ◌+◌, ◌≤◌, ◌==◌, Bool, true, false, cond, ◌&&◌, ◌||◌, List, [], ◌∷◌, refl, sym, ◌∙◌, ap, arith}
use Rattle.std.specs.Prelude.{Option, Some, None, is_none, option_map, filter, sum_by}
use Rattle.std.proofs.lemmas.Bool.{eqb-true, eq-eqb}
use Rattle.std.proofs.lemmas.List.Sums.{sum_by-cons}
use Rattle.terms.specs.declared.row.Sort.{Sort}
use Rattle.terms.specs.declared.row.Sort.TheVariants.{Fine, Price, Payment, Waiver, Charge}
use Rattle.model.specs.History.{History, branches, BranchFacts, branch_of}
use Rattle.model.specs.Accounts.{Note, Line, lines}
use Rattle.model.specs.Asking.{rising}
use Rattle.model.specs.AskingLaws.{Rises, AreRising}
use Rattle.model.specs.CounterLaws.{Counters}
use Rattle.model.specs.Picture.{branch_columns}
use Rattle.model.specs.Reports.{is_sort, is_made_at}
use Rattle.model.specs.Requests.{IsLegal}
use Rattle.model.proofs.Asking.{lists-rise}
use Rattle.model.proofs.Bindings.{clash}
use Rattle.model.proofs.Members.{has}
use Rattle.model.proofs.Notes.{AreNoted, legal-noted}
use Rattle.model.proofs.Settings.{branches-shown}
use Rattle.model.proofs.Staying.{IsThere}

-- ---- sums

-- Among numbers that rise, an amount that only one of them has is counted once.
abbrev counted : ℕ → ℕ → List ℕ → ℕ
counted m n bs = sum_by (λ b. cond (m == b) n 0) bs

counted-none : (m n a : ℕ) (bs : List ℕ) → Rises a bs → m ≤ a → counted m n bs ≡ 0
counted-none m n a [] up le = refl
counted-none m n a (b ∷ bs) up le = sum_by-cons (λ c. cond (m == c) n 0) b bs ∙ go (m == b) refl (counted-none m n b bs up.1 (omega (arith, up.0, le)))
  where
    go : (x : Bool) → (m == b) ≡ x → counted m n bs ≡ 0 → cond x n 0 + counted m n bs ≡ 0
    go true e none = let same : m ≡ b = eqb-true m b e in let never : ⊥ = omega (arith, same, up.0, le) in absurd never
    go false e none = omega (arith, none)

rising-tail : (b : ℕ) (bs : List ℕ) → Rises b bs → AreRising bs
rising-tail b [] up = tt
rising-tail b (c ∷ bs) up = up.1

counted-once : (m n : ℕ) (bs : List ℕ) → AreRising bs → has bs m ≡ true → counted m n bs ≡ n
counted-once m n [] up in-it = let never : ⊥ = cc in absurd never
counted-once m n (b ∷ bs) up in-it =
    sum_by-cons (λ c. cond (m == c) n 0) b bs ∙ go (counted-once m n bs (rising-tail b bs up)) (b == m) refl in-it
  where
    here : (x : Bool) → (m == b) ≡ x → b ≡ m → cond x n 0 + counted m n bs ≡ n
    here true e same = let none = counted-none m n b bs up (omega (arith, same)) in omega (arith, none)
    here false e same = absurd (clash _ (eq-eqb m b (sym same)) e)

    later : (has bs m ≡ true → counted m n bs ≡ n) → (x : Bool) → (m == b) ≡ x → (b == m) ≡ false → has bs m ≡ true
        → cond x n 0 + counted m n bs ≡ n
    later rest true e off more = absurd (clash _ (eq-eqb b m (sym (eqb-true m b e))) off)
    later rest false e off more = let once = rest more in omega (arith, once)

    go : (has bs m ≡ true → counted m n bs ≡ n) → (x : Bool) → (b == m) ≡ x → (x || has bs m) ≡ true → cond (m == b) n 0 + counted m n bs ≡ n
    go rest true e more = here (m == b) refl (eqb-true b m e)
    go rest false e more = later rest (m == b) refl e more

added-up : (f g : ℕ → ℕ) (bs : List ℕ) → sum_by (λ b. f b + g b) bs ≡ sum_by f bs + sum_by g bs
added-up f g [] = refl
added-up f g (b ∷ bs) = omega (arith, sum_by-cons (λ c. f c + g c) b bs, sum_by-cons f b bs, sum_by-cons g b bs, added-up f g bs)

all-none : (bs : List ℕ) → sum_by (λ b. 0) bs ≡ 0
all-none [] = refl
all-none (b ∷ bs) = omega (arith, sum_by-cons (λ (c : ℕ). 0) b bs, all-none bs)

sum-same : (f g : ℕ → ℕ) (bs : List ℕ) → ((b : ℕ) → f b ≡ g b) → sum_by f bs ≡ sum_by g bs
sum-same f g bs same i = sum_by (λ b. same b i) bs

-- One line more counts if it passes the test.
one-more : (test : Line → Bool) (x : Line) (xs : List Line)
    → sum_by (λ y. y.amount) (filter test (x ∷ xs)) ≡ cond (test x) x.amount 0 + sum_by (λ y. y.amount) (filter test xs)
one-more test x xs = go (test x)
  where
    go : (b : Bool) → sum_by (λ (y : Line). y.amount) (cond b (x ∷ filter test xs) (filter test xs)) ≡ cond b x.amount 0 + sum_by (λ (y : Line). y.amount) (filter test xs)
    go true = sum_by-cons (λ (y : Line). y.amount) x (filter test xs)
    go false = omega arith

-- ---- the lines of a day

module _ (bs : List ℕ) (up : AreRising bs) (d : ℕ) (s : Sort) where
  abbrev at_branch : List Line → ℕ → ℕ
  at_branch xs b = sum_by (λ x. x.amount) (filter (λ x. (x.day == d) && (is_sort x.sort s && is_made_at b x.note)) xs)

  abbrev without_note : List Line → ℕ
  without_note xs = sum_by (λ x. x.amount) (filter (λ x. (x.day == d) && (is_sort x.sort s && is_none x.note)) xs)

  abbrev in_all : List Line → ℕ
  in_all xs = sum_by (λ x. x.amount) (filter (λ x. (x.day == d) && is_sort x.sort s) xs)

  -- Each branch that a note names is among the branches.
  abbrev AreAmong : List Line → Type 0
  AreAmong [] = Unit {0}
  AreAmong (x ∷ xs) = ((k : Note) → x.note ≡ Some k → has bs k.branch ≡ true) × AreAmong xs

  -- A line that counts does so at its own branch, or among those without a note.
  one-line : (n : ℕ) (remark : Option Note) → ((k : Note) → remark ≡ Some k → has bs k.branch ≡ true) → (a b : Bool)
      → sum_by (λ c. cond (a && (b && is_made_at c remark)) n 0) bs + cond (a && (b && is_none remark)) n 0 ≡ cond (a && b) n 0
  one-line n (Some k) among true true = let once = counted-once k.branch n bs up (among k refl) in omega (arith, once)
  one-line n None among true true = let none = all-none bs in omega (arith, none)
  one-line n remark among true false = let none = all-none bs in omega (arith, none)
  one-line n remark among false b = let none = all-none bs in omega (arith, none)

  adds-up : (xs : List Line) → AreAmong xs → sum_by (at_branch xs) bs + without_note xs ≡ in_all xs
  adds-up [] among = let none = all-none bs in omega (arith, none)
  adds-up (x ∷ xs) among =
      let each = sum-same (at_branch (x ∷ xs)) (λ b. cond ((x.day == d) && (is_sort x.sort s && is_made_at b x.note)) x.amount 0 + at_branch xs b) bs
      (λ b. one-more (λ y. (y.day == d) && (is_sort y.sort s && is_made_at b y.note)) x xs) in
      let split = added-up (λ b. cond ((x.day == d) && (is_sort x.sort s && is_made_at b x.note)) x.amount 0) (at_branch xs) bs in
      let rest = one-more (λ y. (y.day == d) && (is_sort y.sort s && is_none y.note)) x xs in
      let whole = one-more (λ y. (y.day == d) && is_sort y.sort s) x xs in
      let one = one-line x.amount x.note among.0 (x.day == d) (is_sort x.sort s) in
      let before = adds-up xs among.1 in
      omega (arith, each, split, rest, whole, one, before)

-- ---- the law

is-charge : (s : Sort) → is_sort s Charge ≡ true → s ≡ Charge
is-charge Charge e = refl
is-charge Fine e = let never : ⊥ = cc in absurd never
is-charge Price e = let never : ⊥ = cc in absurd never
is-charge Payment e = let never : ⊥ = cc in absurd never
is-charge Waiver e = let never : ⊥ = cc in absurd never

-- No charge is without a note.
all-noted : (H : History) (d : ℕ) (xs : List Line) → AreNoted H xs
    → sum_by (λ x. x.amount) (filter (λ x. (x.day == d) && (is_sort x.sort Charge && is_none x.note)) xs) ≡ 0
all-noted H d [] noted = refl
all-noted H d (x ∷ xs) noted =
    one-more (λ y. (y.day == d) && (is_sort y.sort Charge && is_none y.note)) x xs
    ∙ go (x.day == d) (is_sort x.sort Charge) refl x.note refl (all-noted H d xs noted.1)
  where
    go : (a b : Bool) → is_sort x.sort Charge ≡ b → (remark : Option Note) → x.note ≡ remark
        → sum_by (λ y. y.amount) (filter (λ y. (y.day == d) && (is_sort y.sort Charge && is_none y.note)) xs) ≡ 0
        → cond (a && (b && is_none remark)) x.amount 0 + sum_by (λ y. y.amount) (filter (λ y. (y.day == d) && (is_sort y.sort Charge && is_none y.note)) xs) ≡ 0
    go false b e remark f none = omega (arith, none)
    go true false e remark f none = omega (arith, none)
    go true true e (Some k) f none = omega (arith, none)
    go true true e None f none = let has-one = noted.0.charge (is-charge x.sort e) in let never : ⊥ = cc in absurd never

module _ (H : History) (legal : IsLegal H) where
  branch-among : (b : ℕ) → IsThere (branch_of H b) → has (rising (branches H)) b ≡ true
  branch-among b there = go (branch_of H b) refl there
    where
      go : (o : Option BranchFacts) → branch_of H b ≡ o → IsThere o → has (rising (branches H)) b ≡ true
      go (Some r) at e = (branches-shown H b).1 (branch_columns H b r, ap (option_map (branch_columns H b)) at)
      go None at e = let never : ⊥ = cc in absurd never

  among : (d : ℕ) (s : Sort) (xs : List Line) → AreNoted H xs → AreAmong (rising (branches H)) ((lists-rise H).branches) d s xs
  among d s [] noted = tt
  among d s (x ∷ xs) noted = (λ k at. branch-among k.branch (noted.0.branch k at), among d s xs noted.1)

pub counters : Counters
counters H d legal =
    let noted = legal-noted H legal in
    let up = (lists-rise H).branches in
    let paid = adds-up (rising (branches H)) up d Payment (lines H) (among H legal d Payment (lines H) noted) in
    let charged = adds-up (rising (branches H)) up d Charge (lines H) (among H legal d Charge (lines H) noted) in
    let none = all-noted H d (lines H) noted in
    record { payments = paid; charges = omega (arith, charged, none) }
