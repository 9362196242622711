-- Tables and indexes of the shapes that the lemmas cover: STRICT, with a key of one whole number or of two
-- columns.
use Rattle.std.specs.Prelude.{ℕ, List, [], ◌∷◌, Some, None, true, false, map}
use Rattle.sqlite.specs.Collation.TheVariants.{Binary}
use Rattle.sqlite.specs.declared.types.Value.TheVariants.{Null}
use Rattle.sqlite.specs.Table.{Table}
use Rattle.sqlite.specs.Schema.{Schema}
use Rattle.sqlite.specs.Kind.{Kind}
use Rattle.sqlite_schema.specs.declared.schema.Index.{Index}
use Rattle.sqlite_schema.specs.declared.schema.Column.{Column}
use Rattle.sqlite_value.specs.Keys.{plain}

-- a NOT NULL column, and one that may be NULL
abbrev pub need : Kind → List ℕ → Column
need kind name = record { name = name; kind = kind; is_strict = true; not_null = true; default = Null; collation = Binary }

abbrev pub may : Kind → List ℕ → Column
may kind name = record { name = name; kind = kind; is_strict = true; not_null = false; default = Null; collation = Binary }

-- a table keyed by its first column, which is its rowid
abbrev pub single : List ℕ → ℕ → List Column → List (List ℕ) → Table
single name tree columns uniques = record {
  name = name;
  tree = tree;
  columns = columns;
  key = Some 0;
  primary = 0 ∷ [];
  uniques = uniques;
  orders = map (λ _. plain) uniques;
  checks = [];
  references = [];
  computed = [];
  stamps = record { places = []; terms = []; formats = [] };
  is_counted = false;
}

-- a table keyed by its first two columns
abbrev pub double : List ℕ → ℕ → List Column → Table
double name tree columns = record {
  name = name;
  tree = tree;
  columns = columns;
  key = None;
  primary = 1 ∷ 2 ∷ [];
  uniques = (1 ∷ 2 ∷ []) ∷ [];
  orders = plain ∷ [];
  checks = [];
  references = [];
  computed = [];
  stamps = record { places = []; terms = []; formats = [] };
  is_counted = false;
}

-- an index that isn't unique, before it is made
abbrev pub index_on : List ℕ → List ℕ → Index
index_on name columns = record { name = name; tree = 0; table = 0; columns = columns; order = plain; is_unique = false }

-- a database without tables
abbrev pub no_schema : Schema
no_schema = record { tables = []; indexes = []; views = [] }
