-- The first rows of a table that pass, by key.
use Rattle.std.specs.Prelude.{◌≡◌, ◌⊎◌, ◌≤◌, ℕ, ℤ, List, length, Bool, true, Some}
use Rattle.sqlite.specs.Order.{Row, column}
use Rattle.sqlite.specs.declared.types.Value.TheVariants.{Int, Text}
use Rattle.sqlite_value.specs.declared.keys.Collation.TheVariants.{Binary}
use Rattle.sqlite_trees.specs.Tree.{IsAscending}
use Rattle.sqlite_rules.specs.Lists.{Has}
use Rattle.sqlite_sql.specs.Ops.{binary, is_true}
use Rattle.sqlite_sql.specs.declared.ops.BinaryOp.TheVariants.{Compare}
use Rattle.sqlite_sql.specs.declared.ops.CompareOp.TheVariants.{Ge, Gt}
use Rattle.sql_maps.specs.Maps.{Map, FirstBelow}

-- the first rows of the map that pass, each once and in order: either all of them, or this many with all
-- others after them
pub record FirstRowsBy (Before : Row → Row → Type 0) (most : ℕ) (m : Map) (good : Row → Bool) (out : List Row) : Type 0 where
  pub sound : (v : Row) → Has out v → (k : Row) × (m k ≡ Some v) × (good v ≡ true)
  pub whole : (k v : Row) → m k ≡ Some v → good v ≡ true → Has out v ⊎ ((length out ≡ most) × ((w : Row) → Has out w → Before w v))
  pub rises : IsAscending Before out
  pub few : length out ≤ most

-- by key, if that is the first column
abbrev pub FirstRows : ℕ → Map → (Row → Bool) → List Row → Type 0
FirstRows = FirstRowsBy FirstBelow

-- what WHERE reads of a row if a column must be above a number, not below it, or after a text
abbrev pub above_at : ℕ → ℤ → Row → Bool
above_at at n v = is_true (binary (Compare Gt Binary) (column v at) (Int n))

abbrev pub least_at : ℕ → ℤ → Row → Bool
least_at at n v = is_true (binary (Compare Ge Binary) (column v at) (Int n))

abbrev pub past_at : ℕ → List ℕ → Row → Bool
past_at at t v = is_true (binary (Compare Gt Binary) (column v at) (Text t))
