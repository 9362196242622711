-- The numbers of schemas that have a table.
use Rattle.std.specs.Prelude.{ℕ, zero, suc, ◌≤◌}
use Rattle.std.proofs.Math.Bridge.{le_by_compare, IsLe, no_suc-le-zero}
use Rattle.std.proofs.Math.Nat.{le_of_suc-le, le_of_suc-le-suc}
use Rattle.terms.specs.declared.limits.TheConstants.{SCHEMA}
use Rattle.circ_tables.specs.Shape.{HasTable}

-- The newest schema has them all.
pub has_first : HasTable 1 SCHEMA
unfolding IsLe
has_first = (le_by_compare 1 4 tt, le_by_compare 4 4 tt)

pub has_second : HasTable 2 SCHEMA
unfolding IsLe
has_second = (le_by_compare 2 4 tt, le_by_compare 4 4 tt)

pub has_third : HasTable 3 SCHEMA
unfolding IsLe
has_third = (le_by_compare 3 4 tt, le_by_compare 4 4 tt)

pub has_fourth : HasTable 4 SCHEMA
unfolding IsLe
has_fourth = (le_by_compare 4 4 tt, le_by_compare 4 4 tt)

-- What holds of the schemas with tables since a schema, one by one, holds of each with them.
pub since_first : (Is : ℕ → Type 0) → Is 1 → Is 2 → Is 3 → Is 4 → (n : ℕ) → HasTable 1 n → Is n
since_first Is first second third fourth zero has = absurd (no_suc-le-zero has.0)
since_first Is first second third fourth (suc zero) has = first
since_first Is first second third fourth (suc (suc zero)) has = second
since_first Is first second third fourth (suc (suc (suc zero))) has = third
since_first Is first second third fourth (suc (suc (suc (suc zero)))) has = fourth
since_first Is first second third fourth (suc (suc (suc (suc (suc n))))) has =
    absurd (no_suc-le-zero (le_of_suc-le-suc (le_of_suc-le-suc (le_of_suc-le-suc (le_of_suc-le-suc has.1)))))

pub since_second : (Is : ℕ → Type 0) → Is 2 → Is 3 → Is 4 → (n : ℕ) → HasTable 2 n → Is n
since_second Is second third fourth n has =
    since_first (λ m. 2 ≤ m → Is m) (λ few. absurd (no_suc-le-zero (le_of_suc-le-suc few))) (λ _. second) (λ _. third) (λ _. fourth) n
    (le_of_suc-le has.0, has.1) has.0

pub since_third : (Is : ℕ → Type 0) → Is 3 → Is 4 → (n : ℕ) → HasTable 3 n → Is n
since_third Is third fourth n has = since_second (λ m. 3 ≤ m → Is m) (λ few. absurd (no_suc-le-zero (le_of_suc-le-suc (le_of_suc-le-suc few))))
    (λ _. third) (λ _. fourth) n (le_of_suc-le has.0, has.1) has.0

pub since_fourth : (Is : ℕ → Type 0) → Is 4 → (n : ℕ) → HasTable 4 n → Is n
since_fourth Is fourth n has =
    since_third (λ m. 4 ≤ m → Is m) (λ few. absurd (no_suc-le-zero (le_of_suc-le-suc (le_of_suc-le-suc (le_of_suc-le-suc few)))))
    (λ _. fourth) n (le_of_suc-le has.0, has.1) has.0
