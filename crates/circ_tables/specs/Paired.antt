-- What has to be computed of the texts of a table keyed by two columns. It is the same list for each table.
use Rattle.std.proofs.Common.{sym, subst}
use Rattle.std.specs.Prelude.{◌≡◌, ◌+◌, ◌-◌, ℕ, refl, List, [], ◌∷◌, ◌++◌, length, map, Some}
use Rattle.std.specs.List.{range_with_len}
use Rattle.sqlite.specs.Order.{Row, column}
use Rattle.sqlite.specs.Table.{Table}
use Rattle.sqlite.specs.Schema.{Schema}
use Rattle.sqlite.specs.declared.types.Value.TheVariants.{Null}
use Rattle.sqlite.specs.Term.{Term, lit, col, op2}
use Rattle.sqlite.specs.Command.{Command}
use Rattle.sqlite.specs.Command.TheVariants.{Select, Delete, InsertOr}
use Rattle.sqlite.specs.Source.TheVariants.{Values}
use Rattle.sqlite_schema.specs.declared.command.Conflict.TheVariants.{Abort}
use Rattle.sqlite_sql.specs.declared.ops.BinaryOp.TheVariants.{Compare}
use Rattle.sqlite_sql.specs.declared.ops.CompareOp.TheVariants.{Eq}
use Rattle.sqlite_value.specs.declared.keys.Collation.TheVariants.{Binary}
use Rattle.sqlite_value.specs.declared.keys.Key.{Key}
use Rattle.sqlite_value.specs.Keys.{ascending, plain}
use Rattle.sqlite_schema.specs.declared.schema.Index.{Index}
use Rattle.sqlite_schema.specs.declared.schema.Keys.{Keys}
use Rattle.sqlite_schema.specs.Rules.{agree}
use Rattle.sqlite_rules.specs.Action.{works}
use Rattle.sqlite_rules.specs.Keys.{conflicts}
use Rattle.sqlite_tied.specs.Listing.{each_column}
use Rattle.sql_maps.specs.Maps.{cells}
use Rattle.sql_maps.proofs.Words.{over, in_order_of}
use Rattle.sql_maps.proofs.AnswerLemmas.{shown_of}
use Rattle.sql_maps.proofs.WriteLemmas.{Fixed, id_test}
use Rattle.circ_tables.specs.Numbered.{IsRun, IsRead, grown, schema_grown}
use Rattle.circ_tables.specs.Shape.{schema_at, HasTable, later_tables, later_indexes}
use Rattle.circ_tables.specs.TableSchemas.{since_first}
use Rattle.circ_tables.specs.Texts.{kept_columns, names_of, put_text, take_text, get_text, all_text}

-- The key equals the first and second parameters.
abbrev pub by_key : List Term
by_key = op2 (Compare Eq Binary) (col 1 1) (col 0 0) ∷ op2 (Compare Eq Binary) (col 1 2) (col 0 1) ∷ []

-- The order of the keys.
abbrev pub by_pair : List (Term × Key)
by_pair = (col 1 1, ascending Binary) ∷ (col 1 2, ascending Binary) ∷ []

-- The values that a put stores, and those that it shows of an existing row.
abbrev pub put_terms : Table → List Term
put_terms t = lit Null ∷ map (col 0) (range_with_len 0 (length t.columns))

abbrev pub put_shows : Table → List Term
put_shows t =
    let kept = kept_columns (length t.columns) t.primary in
    col 1 0 ∷ col 1 0 ∷ (map (col 1) (range_with_len 1 kept) ++ map (col 0) (range_with_len kept (length t.columns - kept)))

abbrev pub put_of : ℕ → Table → Command
put_of at t =
    InsertOr at Abort (Values (put_terms t) (length t.columns + 1))
    (record { target = Some t.primary; update = Some (record { lets = []; body = over t.tree (id_test (length t.columns)) (put_shows t) }) } ∷ [])

pub record IsPaired (s : Schema) (at : ℕ) (t : Table) : Type 0 where
  pub fixed : Fixed s at t
  pub primary : t.primary ≡ 1 ∷ 2 ∷ []
  pub first_cell : (r : Row) → column (cells t r) 0 ≡ column r 1
  pub second_cell : (r : Row) → column (cells t r) 1 ≡ column r 2
  pub shows : (given r : Row) → shown_of (each_column 1 t) given r ≡ cells t r
  pub put : IsRun s (put_text t) (put_of at t)
  pub take : IsRun s (take_text t) (Delete at (record { lets = []; body = over t.tree by_key (col 1 0 ∷ []) }))
  pub get : IsRead s (get_text t) (Select (record { lets = []; body = over t.tree by_key (each_column 1 t) }) (names_of t))
  pub all : IsRead s (all_text t) (Select (record { lets = []; body = in_order_of t.tree [] (each_column 1 t) by_pair }) (names_of t))

-- No foreign key acts.
abbrev pub IsCalm : Schema → Type 0
IsCalm s = (keys : Keys) (depth tree : ℕ) (olds news : List Row) → works s keys depth tree olds news ≡ []

-- A clause on a table's key meets only the rows with the key.
abbrev pub IsAimed : Schema → Table → Type 0
IsAimed s t = (r new : Row) → conflicts (Some t.primary) s.indexes t new r ≡ agree plain t.primary r t.primary new

pub are_calm : (n : ℕ) → HasTable 1 n → IsCalm (schema_at n)
are_calm = since_first (λ n. IsCalm (schema_at n)) (λ keys depth tree olds news. refl) (λ keys depth tree olds news. refl) (λ keys depth tree olds news. refl)
    (λ keys depth tree olds news. refl)

-- What holds of the texts in each schema that begins with the tables of step 1 holds in every numbered
-- schema.
pub in_each : (at : ℕ) (t : Table)
    → ((more : List Table) (others : List Index) → IsCalm (grown more others) → IsAimed (grown more others) t
    → IsPaired (grown more others) at t)
    → ((n : ℕ) → HasTable 1 n → IsAimed (schema_at n) t) → (n : ℕ) → HasTable 1 n → IsPaired (schema_at n) at t
in_each at t is aimed n has =
    let same = schema_grown n in
    subst (λ s. IsPaired s at t) (sym same)
    (is (later_tables n) (later_indexes n) (subst IsCalm same (are_calm n has)) (subst (λ s. IsAimed s t) same (aimed n has)))
