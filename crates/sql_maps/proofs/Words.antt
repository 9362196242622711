-- Words that only the lemmas use, no contract.
use Rattle.std.specs.Prelude.{◌≡◌, ◌≢◌, ◌⊎◌, ℕ, List, [], ◌∷◌, Bool, false, None, Some, negsuc, pos, Result, Ok, Err, min, ⊤}
use Rattle.sqlite.specs.declared.error.Error.{Error}
use Rattle.sqlite.specs.declared.error.Error.TheVariants.{QueryReturnedNoRows}
use Rattle.sqlite.specs.declared.types.Value.TheVariants.{Null, Int}
use Rattle.sqlite.specs.Order.{Row}
use Rattle.sqlite.specs.Table.{Table}
use Rattle.sqlite.specs.Term.{Term, lit, col}
use Rattle.sqlite.specs.Query.{Query, inner, end}
use Rattle.sqlite_value.specs.Keys.{ascending}
use Rattle.sqlite_value.specs.declared.keys.Key.{Key}
use Rattle.sqlite_value.specs.declared.keys.Collation.TheVariants.{Binary}
use Rattle.sqlite_sql.specs.declared.aggregate.AggregateOp.TheVariants.{CountRows}
use Rattle.sqlite_rules.specs.Lists.{Has}
use Rattle.sql_maps.specs.Maps.{key_at, cells, Map, Maps, First, Count}

-- a query on one table
abbrev pub over : ℕ → List Term → List Term → Query
over tree tests shows = record {
  from = inner tree end;
  filter = tests;
  group = None;
  project = shows;
  distinct = false;
  collations = [];
  order = [];
  limit = lit (Int (negsuc 0));
  offset = lit (Int (pos 0));
}

-- the same query, in the order of the rowids, and no more rows than this
abbrev pub in_order : ℕ → List Term → List Term → Term → Query
in_order tree tests shows most = record (over tree tests shows) { order = (col 1 0, ascending Binary) ∷ []; limit = most }

-- the same query, in the order of these columns
abbrev pub in_order_of : ℕ → List Term → List Term → List (Term × Key) → Query
in_order_of tree tests shows order = record (over tree tests shows) { order = order }

-- the same, and no more rows than this
abbrev pub in_order_up_to : ℕ → List Term → List Term → List (Term × Key) → Term → Query
in_order_up_to tree tests shows order most = record (over tree tests shows) { order = order; limit = most }

-- how many rows pass
abbrev pub counting : ℕ → List Term → Query
counting tree tests = record (over tree tests (col 1 0 ∷ [])) {
  group = Some (record {
    keys = [];
    collations = [];
    aggregates
        = record { op = CountRows; distinct = false; collation = Binary; argument = lit Null } ∷ [];
    having = [];
  });
}

-- one row came in, in place of the one that had its key
pub record Puts (table : Table) (old new : List Row) (k v : Row) : Type 0 where
  pub row : Row
  pub here : Has new row
  pub keyed : key_at table row ≡ k
  pub shows : cells table row ≡ v
  pub rest : (x : Row) → Has new x → (x ≡ row) ⊎ (Has old x × (key_at table x ≢ key_at table row))
  pub kept : (x : Row) → Has old x → key_at table x ≢ key_at table row → Has new x

-- the row with this key is gone
pub record Takes (table : Table) (old new : List Row) (k : Row) : Type 0 where
  pub rest : (x : Row) → Has new x → Has old x × (key_at table x ≢ k)
  pub kept : (x : Row) → Has old x → key_at table x ≢ k → Has new x

-- the row of the key, or that there is none
abbrev pub Gives : Maps → ℕ → Row → Result Row Error → Type 0
Gives maps at k (Ok row) = maps at k ≡ Some row
Gives maps at k (Err e) = e ≡ QueryReturnedNoRows → maps at k ≡ None

abbrev pub GivesFirst : Map → (Row → Bool) → Result Row Error → Type 0
GivesFirst m good (Ok row) = First m good (row ∷ [])
GivesFirst m good (Err e) = e ≡ QueryReturnedNoRows → First m good []

abbrev pub GivesCount : Map → (Row → Bool) → Result Row Error → Type 0
GivesCount m good (Ok row) = (n : ℕ) × Count m good n × (row ≡ Int (pos (min n 9223372036854775807)) ∷ [])
GivesCount m good (Err e) = ⊤
