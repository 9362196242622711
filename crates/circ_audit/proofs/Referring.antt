-- Rows that pass a test, one by one, and laws in an order.
use Rattle.std.proofs.Common.{◌≡◌, ◌⊎◌, ℕ, ◌+◌, ◌<◌, ◌≤◌, Bool, true, false, List, length, take, get_or, Option, refl, sym, subst, inl, inr, arith}
use Rattle.std.proofs.lemmas.Bool.{cases_lt}
use Rattle.circ_audit.specs.References.{ArePassed}
use Rattle.circ_audit.specs.Sound.{IsLeastBroken, FailsFirst, IsFirstAmong}
use Rattle.circ_audit.specs.Spans.{first_after, is_after, is_passed, HoldsAfter, FailsAfter}
use Rattle.circ_audit.proofs.Firsts.{fails-same, passed-if, passed-right, row-breaks, row-keeps, least-unique}

module _ {R : Type 0} (last_of : R → ℕ) (passes : R → Bool) (i : ℕ) (first : Option ℕ) (rows : List R) (r : R) (lt : i < length rows)
    (is : r ≡ get_or rows i r) (before : FailsFirst (ArePassed last_of passes (take i rows)) first) where
  -- One row more.
  pub passed-more : FailsFirst (ArePassed last_of passes (take (i + 1) rows)) (first_after (passes r) (last_of r) first)
  passed-more = go (passes r) refl
    where
      go : (b : Bool) → passes r ≡ b → FailsFirst (ArePassed last_of passes (take (i + 1) rows)) (first_after b (last_of r) first)
      go true e = row-keeps rows i r lt is (λ n q. last_of q ≡ n → passes q ≡ true) first (λ m same. e) before
      go false e =
          row-breaks rows i r lt is (λ n q. last_of q ≡ n → passes q ≡ true) first (last_of r) (λ m other same. absurd (other (sym same)))
          (λ pass. let yes : passes r ≡ true = pass refl in let never : ⊥ = cc in never) before

-- Where the rows that don't come after a number pass as they are.
pub passed-after : {R : Type 0} (last_of : R → ℕ) (passes : R → Bool) (rows : List R) (after first : Option ℕ)
    → FailsFirst (ArePassed last_of (λ r. is_passed after (last_of r) (passes r)) rows) first → FailsAfter after (ArePassed last_of passes rows) first
passed-after {R} last_of passes rows after first =
    fails-same (ArePassed last_of (λ r. is_passed after (last_of r) (passes r)) rows) (HoldsAfter after (ArePassed last_of passes rows)) first back on
  where
    back : (m : ℕ) → HoldsAfter after (ArePassed last_of passes rows) m → ArePassed last_of (λ r. is_passed after (last_of r) (passes r)) rows m
    back m law k d lt same =
        passed-if after (last_of (get_or rows k d)) (passes (get_or rows k d))
        (λ is. law (subst (λ (n : ℕ). is_after after n ≡ true) same is) k d lt same)

    on : (m : ℕ) → ArePassed last_of (λ r. is_passed after (last_of r) (passes r)) rows m → HoldsAfter after (ArePassed last_of passes rows) m
    on m all is k d lt same =
        passed-right after (last_of (get_or rows k d)) (passes (get_or rows k d)) (subst (λ (n : ℕ). is_after after n ≡ true) (sym same) is) (all k d lt same)

-- ---- laws in an order

module _ {A : Type 0} (place_of : A → ℕ) (Law : A → ℕ → Type 0) (same_place : (a b : A) → place_of a ≡ place_of b → a ≡ b) where
  -- Where one is the first that fails, not all hold.
  pub among-broken : (a : A) (n : ℕ) → IsFirstAmong place_of Law a n → ((b : A) (m : ℕ) → Law b m) → ⊥
  among-broken a n first all = first.least.broken (all a n)

  -- Only one is the first, with one number.
  pub among-unique : (a b : A) (n m : ℕ) → IsFirstAmong place_of Law a n → IsFirstAmong place_of Law b m → (a ≡ b) × (n ≡ m)
  among-unique a b n m one other = go (cases_lt (place_of a) (place_of b)) (cases_lt (place_of b) (place_of a))
    where
      go : (place_of a < place_of b) ⊎ (place_of b ≤ place_of a) → (place_of b < place_of a) ⊎ (place_of a ≤ place_of b) → (a ≡ b) × (n ≡ m)
      go (inl less) _ = absurd (one.least.broken (other.before a less n))
      go (inr _) (inl more) = absurd (other.least.broken (one.before b more m))
      go (inr from) (inr to) =
          let same : a ≡ b = same_place a b (omega (arith, from, to)) in
          (same, least-unique (Law b) n m (subst (λ c. IsLeastBroken (Law c) n) same one.least) other.least)
