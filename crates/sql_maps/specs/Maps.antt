-- A database table as a map from keys to rows.
use Rattle.std.specs.Prelude.{◌≡◌, ◌≢◌, ◌⊎◌, ◌≤◌, ℕ, ℤ, List, [], ◌∷◌, length, map, Bool, true, false, None, Some, Option, bytes_eq, ◌&&◌}
use Rattle.std.specs.Prelude.{◌==◌, if◌then◌else◌, slice_get, IsTrue}
use Rattle.std.specs.List.{list_all, range_with_len}
use Rattle.std.specs.Ordering.{int_eq, ordering_then}
use Rattle.std.specs.declared.cmp.Ordering.TheVariants.{Less}
use Rattle.sqlite.specs.State.{State}
use Rattle.sqlite.specs.Schema.{Schema}
use Rattle.sqlite.specs.Effect.{Database, IsDatabase}
use Rattle.sqlite.specs.Order.{Row, column}
use Rattle.sqlite.specs.Table.{Table}
use Rattle.sqlite.specs.declared.types.Value.TheVariants.{Null, Int, Text}
use Rattle.sqlite_value.specs.declared.value.Value.{Value}
use Rattle.sqlite_value.specs.declared.keys.Collation.TheVariants.{Binary}
use Rattle.sqlite_value.specs.Order.{value_cmp}
use Rattle.sqlite_trees.specs.declared.store.Shape.TheVariants as shape
use Rattle.sqlite_trees.specs.View.{IsShaped}
use Rattle.sqlite_trees.specs.Tree.{IsAscending}
use Rattle.sqlite_schema.specs.Names.{place_of}
use Rattle.sqlite_schema.specs.Rules.{equal}
use Rattle.sqlite_rules.specs.Lists.{Has}
use Rattle.sqlite_sql.specs.Ops.{binary, is_true}
use Rattle.sqlite_sql.specs.declared.ops.BinaryOp.TheVariants.{Is, Compare}
use Rattle.sqlite_sql.specs.declared.ops.CompareOp.TheVariants.{Le, Lt}

-- the key values of a stored row, and its columns as declared
abbrev pub key_at : Table → Row → Row
key_at table row = map (column row) table.primary

abbrev pub cells : Table → Row → Row
cells table row = map (λ at. column row (place_of table at)) (range_with_len 0 (length table.columns))

-- a whole number or a text
abbrev pub is_plain : Value → Bool
is_plain (Int n) = true
is_plain (Text t) = true
is_plain _ = false

-- the same whole number or the same text
abbrev pub same_value : Value → Value → Bool
same_value (Int m) (Int n) = int_eq m n
same_value (Text s) (Text t) = bytes_eq s t
same_value _ _ = false

abbrev pub same_key : Row → Row → Bool
same_key [] [] = true
same_key (a ∷ more) (b ∷ others) = same_value a b && same_key more others
same_key _ _ = false

-- a map from keys to rows
abbrev pub Map : Type 0
Map = Row → Option Row

abbrev pub put : Map → Row → Row → Map
put m k v j = if same_key j k then Some v else m j

abbrev pub take_out : Map → Row → Map
take_out m k j = if same_key j k then None else m j

-- the rows of the table are the map's
pub record IsMap (table : Table) (rows : List Row) (m : Map) : Type 0 where
  pub shaped : IsShaped shape.Table rows
  pub plain : (r : Row) → Has rows r → list_all is_plain (key_at table r) ≡ true
  pub sound : (r : Row) → Has rows r → m (key_at table r) ≡ Some (cells table r)
  pub whole : (k v : Row) → m k ≡ Some v → (r : Row) × Has rows r × (key_at table r ≡ k) × (cells table r ≡ v)
  pub alone : (r s : Row) → Has rows r → Has rows s → key_at table r ≡ key_at table s → r ≡ s

-- the maps of all tables of a schema, by place
abbrev pub Maps : Type 0
Maps = ℕ → Map

abbrev pub put_at : Maps → ℕ → Row → Row → Maps
put_at maps at k v i j = if i == at then put (maps at) k v j else maps i j

abbrev pub take_at : Maps → ℕ → Row → Maps
take_at maps at k i j = if i == at then take_out (maps at) k j else maps i j

-- no table has a row
abbrev pub no_maps : Maps
no_maps i j = None

-- no table has a row from this place on
abbrev pub IsFreeFrom : ℕ → Maps → Type 0
IsFreeFrom place maps = (at : ℕ) → place ≤ at → (k : Row) → maps at k ≡ None

-- the database is sound and has this schema, and its tables hold the maps
pub record Holds (schema : Schema) (db : Database) (maps : Maps) : Type 0 where
  pub sound : IsDatabase db
  pub schema_is : db.schema ≡ schema
  pub tables : (at : ℕ) (table : Table) → slice_get schema.tables at ≡ Some table → IsMap table (db.trees table.tree) (maps at)

-- the effect of one write inside a transaction: the maps change, nothing is committed, and the transaction
-- goes on
pub record Steps (schema : Schema) (old new : State) (change : Maps → Maps) : Type 0 where
  pub maps : (maps : Maps) → Holds schema old.now maps → Holds schema new.now (change maps)
  pub is_inside : IsTrue new.in_transaction
  pub committed : new.committed ≡ old.committed

-- the same if the schema changes: each table keeps its rows, and new ones have none
pub record Moves (before after : Schema) (old new : State) : Type 0 where
  pub maps : (maps : Maps) → IsFreeFrom (length before.tables) maps → Holds before old.now maps → Holds after new.now maps
  pub is_inside : IsTrue new.in_transaction
  pub committed : new.committed ≡ old.committed

-- the row with the lowest key among those of the map that pass
abbrev pub First : Map → (Row → Bool) → List Row → Type 0
First m good [] = (k v : Row) → m k ≡ Some v → good v ≡ false
First m good (v ∷ more) =
    ((k : Row) × (m k ≡ Some v)) × (good v ≡ true)
    × ((k w : Row) → m k ≡ Some w → good w ≡ true → (w ≡ v) ⊎ (value_cmp (column v 0) (column w 0) ≡ Less)) × (more ≡ [])

-- the first column of one is below the other's
abbrev pub FirstBelow : Row → Row → Type 0
FirstBelow v w = value_cmp (column v 0) (column w 0) ≡ Less

-- the row before all others among those of the map that satisfy a fact
abbrev pub FirstOfBy : (Row → Row → Type 0) → Map → (Row → Type 0) → List Row → Type 0
FirstOfBy Before m Good [] = (k v : Row) → m k ≡ Some v → ¬ Good v
FirstOfBy Before m Good (v ∷ more) = ((k : Row) × (m k ≡ Some v)) × Good v × ((k w : Row) → m k ≡ Some w → Good w → (w ≡ v) ⊎ Before v w) × (more ≡ [])

-- by key, if that is the first column
abbrev pub FirstOf : Map → (Row → Type 0) → List Row → Type 0
FirstOf = FirstOfBy FirstBelow

-- the rows of the map that pass, each once, in order
pub record ListedBy (Before : Row → Row → Type 0) (m : Map) (good : Row → Bool) (out : List Row) : Type 0 where
  pub sound : (v : Row) → Has out v → (k : Row) × (m k ≡ Some v) × (good v ≡ true)
  pub whole : (k v : Row) → m k ≡ Some v → good v ≡ true → Has out v
  pub rises : IsAscending Before out

-- the second column of one is below the other's; the first two together
abbrev pub SecondBelow : Row → Row → Type 0
SecondBelow v w = value_cmp (column v 1) (column w 1) ≡ Less

abbrev pub PairBelow : Row → Row → Type 0
PairBelow v w = ordering_then (value_cmp (column v 0) (column w 0)) (value_cmp (column v 1) (column w 1)) ≡ Less

-- by key, if that is the first column
abbrev pub Listed : Map → (Row → Bool) → List Row → Type 0
Listed = ListedBy FirstBelow

-- how many rows of the map pass: the number of their keys
pub record Count (m : Map) (good : Row → Bool) (n : ℕ) : Type 0 where
  pub keys : List Row
  pub sound : (k : Row) → Has keys k → (v : Row) × (m k ≡ Some v) × (good v ≡ true)
  pub whole : (k v : Row) → m k ≡ Some v → good v ≡ true → Has keys k
  pub distinct : IsAscending (λ a b. a ≢ b) keys
  pub many : n ≡ length keys

-- what WHERE reads of a row, column by column
abbrev pub equals_at : ℕ → ℤ → Row → Bool
equals_at at n v = equal Binary (column v at) (Int n)

abbrev pub null_at : ℕ → Row → Bool
null_at at v = is_true (binary (Is Binary) (column v at) Null)

abbrev pub most_at : ℕ → ℤ → Row → Bool
most_at at n v = is_true (binary (Compare Le Binary) (column v at) (Int n))

abbrev pub below_at : ℕ → ℤ → Row → Bool
below_at at n v = is_true (binary (Compare Lt Binary) (column v at) (Int n))
