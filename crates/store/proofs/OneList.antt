-- The rows of a table that pass, each once and in order, are one list.
use Rattle.std.proofs.Common.{◌≡◌, ℕ, ◌<◌, inl, inr, List, [], ◌∷◌, refl, sym, ◌∙◌, subst, arith}
use Rattle.std.specs.Prelude.{Option}
use Rattle.sqlite_rules.specs.Lists.{Has}
use Rattle.sqlite_rules.proofs.ListLemmas.{has_contained, contains_had, all_has}
use Rattle.circ_tables.specs.Reading.{Table}
use Rattle.store.specs.Lists.{AreRows, AreAllOf}
use Rattle.terms.specs.Orders.{IsOrdered, IsPairBefore}
use Rattle.terms.specs.Pictures.{Picture}

module _ {R : Type 0} (Before : R → R → Type 0) (never : (r s : R) → Before r s → Before s r → ⊥) where
  -- A row of those that come after it isn't that one.
  apart : (x r : R) (rows : List R) → IsOrdered Before (x ∷ rows) → Has rows r → r ≡ x → ⊥
  apart x r rows order there same =
      let less : Before x r = all_has (Before x) rows r order.0 there in
      let own : Before x x = subst (Before x) same less in
      never x x own own

  one_list : (xs ys : List R) → IsOrdered Before xs → IsOrdered Before ys → ((r : R) → Has xs r → Has ys r) → ((r : R) → Has ys r → Has xs r) → xs ≡ ys
  one_list [] [] up down to from = refl
  one_list [] (y ∷ ys) up down to from = absurd (from y (inl refl))
  one_list (x ∷ xs) [] up down to from = absurd (to x (inl refl))
  one_list (x ∷ xs) (y ∷ ys) up down to from = go (to x (inl refl)) (from y (inl refl)) (one_list xs ys up.1 down.1)
    where
      tail_to : x ≡ y → (r : R) → Has xs r → Has ys r
      tail_to same r there = at (to r (inr there))
        where
          at : Has (y ∷ ys) r → Has ys r
          at (inr later) = later
          at (inl is) = absurd (apart x r xs up there (is ∙ sym same))

      tail_from : x ≡ y → (r : R) → Has ys r → Has xs r
      tail_from same r there = at (from r (inr there))
        where
          at : Has (x ∷ xs) r → Has xs r
          at (inr later) = later
          at (inl is) = absurd (apart y r ys down there (is ∙ same))

      go : Has (y ∷ ys) x → Has (x ∷ xs) y → (((r : R) → Has xs r → Has ys r) → ((r : R) → Has ys r → Has xs r) → xs ≡ ys) → x ∷ xs ≡ y ∷ ys
      go (inl same) there rest = let tails : xs ≡ ys = rest (tail_to same) (tail_from same) in λ i. same i ∷ tails i
      go (inr later) (inl same) rest = absurd (apart y x ys down later (sym same))
      go (inr later) (inr there) rest = absurd (never y x (all_has (Before y) ys x down.0 later) (all_has (Before x) xs y up.0 there))

  pub one_all : {K : Type 0} (t : Table K R) (key_of : R → K) (P : Picture) (xs ys : List R) → AreAllOf t key_of Before P xs
      → AreAllOf t key_of Before P ys → xs ≡ ys
  one_all t key_of P xs ys first other =
      one_list xs ys first.order other.order
      (λ r there. has_contained ys r (other.whole (key_of r) r (first.sound r (contains_had xs r there))))
      (λ r there. has_contained xs r (first.whole (key_of r) r (other.sound r (contains_had ys r there))))

pub one_rows : {R : Type 0} (number_of : R → ℕ) (t : ℕ → Option R) (Passes : R → Type 0) (xs ys : List R) → AreRows t number_of Passes xs
    → AreRows t number_of Passes ys → xs ≡ ys
one_rows number_of t Passes xs ys first other =
    one_list (λ r s. number_of r < number_of s) (λ r s less more. omega (arith, less, more)) xs ys first.rise other.rise
    (λ r there. let it = first.sound r (contains_had xs r there) in has_contained ys r (other.whole (number_of r) r it.0 it.1))
    (λ r there. let it = other.sound r (contains_had ys r there) in has_contained xs r (first.whole (number_of r) r it.0 it.1))

-- Of two pairs one comes before the other.
pub pair_never : (a b : ℕ × ℕ) → IsPairBefore a b → IsPairBefore b a → ⊥
pair_never a b (inl less) (inl more) = omega (arith, less, more)
pair_never a b (inl less) (inr tied) = let same = tied.0 in omega (arith, less, same)
pair_never a b (inr tied) (inl more) = let same = tied.0 in omega (arith, more, same)
pair_never a b (inr tied) (inr other) = let less = tied.1 in let more = other.1 in omega (arith, less, more)
