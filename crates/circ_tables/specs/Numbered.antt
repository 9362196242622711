-- What has to be computed of the texts of a table keyed by one number. It is the same list of `refl` for each
-- table, and holds of each schema that begins with the tables up to this one.
use Rattle.std.specs.Prelude.{codes, true, refl, None, ◌≡◌, ◌+◌, ◌-◌, ◌≤◌, ℕ, zero, suc, pos, negsuc, false, List, [], ◌∷◌, ◌++◌, length}
use Rattle.std.specs.Prelude.{map, slice_get, Option, Some}
use Rattle.std.proofs.Common.{sym, subst}
use Rattle.std.specs.List.{range_with_len}
use Rattle.sqlite.specs.Order.{Row, column}
use Rattle.sqlite.specs.Table.{Table}
use Rattle.sqlite.specs.Schema.{Schema}
use Rattle.sqlite.specs.declared.types.Value.TheVariants.{Null, Int, Text}
use Rattle.sqlite.specs.Term.{Term, lit, col, op2}
use Rattle.sqlite.specs.Command.{Command}
use Rattle.sqlite.specs.Command.TheVariants.{Select, Delete, InsertOr}
use Rattle.sqlite.specs.Source.TheVariants.{Values}
use Rattle.sqlite.specs.Given.{IsPlain}
use Rattle.sqlite.specs.Listing.{understood, reads_listing}
use Rattle.sqlite_schema.specs.declared.command.Conflict.TheVariants.{Abort}
use Rattle.sqlite_schema.specs.declared.schema.Index.{Index}
use Rattle.sqlite_sql.specs.declared.ops.BinaryOp.TheVariants.{Compare}
use Rattle.sqlite_sql.specs.declared.ops.CompareOp.TheVariants.{Eq, Ge}
use Rattle.sqlite.specs.Kind.TheVariants.{Integer, Text as TextKind}
use Rattle.sqlite_value.specs.declared.value.Value.{Value}
use Rattle.sqlite_value.specs.declared.keys.Collation.TheVariants.{Binary}
use Rattle.sqlite_value.specs.declared.keys.Key.{Key}
use Rattle.sqlite_value.specs.Keys.{ascending}
use Rattle.sqlite_tied.specs.Listing.{each_column}
use Rattle.sqlite.proofs.Callers.{command_of}
use Rattle.sql_maps.specs.Maps.{Map, Maps, cells}
use Rattle.sql_maps.proofs.Words.{over, in_order, in_order_up_to, counting}
use Rattle.sql_maps.proofs.AnswerLemmas.{shown_of}
use Rattle.sql_maps.proofs.FillLemmas.{suits_kind}
use Rattle.sql_maps.proofs.WriteLemmas.{Fills, id_test}
use Rattle.circ_tables.specs.Texts.{names_of, put_text, take_text, get_text, all_text, first_text, batch_text}
use Rattle.terms.specs.Limits.{InLimits}
use Rattle.terms.specs.declared.limits.TheConstants.{SCHEMA}
use Rattle.terms.specs.Pictures.{Picture, put as put_in}
use Rattle.circ_tables.specs.Cells.{number, optional, optional_text, number_key}
use Rattle.circ_tables.specs.Encoding.{Encodes, IsEncoded, Any, with_map}
use Rattle.circ_tables.specs.Reading as typed
use Rattle.circ_tables.specs.Selections.{least_after}
use Rattle.circ_tables.specs.declared.by_number.Texts.{Texts}
use Rattle.circ_tables.specs.declared.by_number.TheConstants.{BATCH_ROWS}
use Rattle.circ_tables.specs.Shape.{schema_at, HasTable, first, later_tables, later_indexes}

-- The key equals the first parameter; or is not below it.
abbrev pub by_key : List Term
by_key = op2 (Compare Eq Binary) (col 1 0) (col 0 0) ∷ []

abbrev pub from_key : List Term
from_key = op2 (Compare Ge Binary) (col 1 0) (col 0 0) ∷ []

abbrev pub by_number : List (Term × Key)
by_number = (col 1 0, ascending Binary) ∷ []

-- The values that a put stores, and those that it shows of an existing row.
abbrev pub put_terms : Table → List Term
put_terms t = col 0 0 ∷ lit Null ∷ map (col 0) (range_with_len 1 (length t.columns - 1))

abbrev pub put_shows : Table → List Term
put_shows t = col 1 0 ∷ col 1 0 ∷ lit Null ∷ map (col 0) (range_with_len 1 (length t.columns - 1))

abbrev pub put_of : ℕ → Table → Command
put_of at t =
    InsertOr at Abort (Values (put_terms t) (length t.columns + 1))
    (record { target = Some t.primary; update = Some (record { lets = []; body = over t.tree (id_test (length t.columns)) (put_shows t) }) } ∷ [])

-- A batch of the rows that pass; the number that pass.
abbrev pub batch_of : Table → List Term → Command
batch_of t tests = Select (record { lets = []; body = in_order_up_to t.tree tests (each_column 1 t) by_number (lit (Int (pos BATCH_ROWS))) }) (names_of t)

abbrev pub count_of : Table → List Term → Command
count_of t tests = Select (record { lets = []; body = counting t.tree tests }) (codes "COUNT(*)" ∷ [])

-- A batch is asked for from the start, or after a number.
abbrev pub next_text : Table → Option ℕ → List ℕ
next_text t None = first_text t
next_text t (Some n) = batch_text t

abbrev pub next_given : Option ℕ → List Value
next_given None = []
next_given (Some n) = Int (least_after n) ∷ []

-- A text is understood as this command.
pub record IsRun (s : Schema) (text : List ℕ) (command : Command) : Type 0 where
  pub command_is : command_of (understood s text) ≡ command
  pub bare : IsPlain (understood s text)

pub record IsRead (s : Schema) (text : List ℕ) (command : Command) : Type 0 where
  pub command_is : command_of (understood s text) ≡ command
  pub bare : IsPlain (understood s text)
  pub unlisted : reads_listing s text ≡ false

pub record IsNumbered (s : Schema) (at : ℕ) (t : Table) : Type 0 where
  pub listed : slice_get s.tables at ≡ Some t
  pub primary : t.primary ≡ 0 ∷ []
  pub uncounted : t.is_counted ≡ false
  pub key_cell : (r : Row) → column (cells t r) 0 ≡ column r 0
  pub shows : (given r : Row) → shown_of (each_column 1 t) given r ≡ cells t r
  pub put : IsRun s (put_text t) (put_of at t)
  pub take : IsRun s (take_text t) (Delete at (record { lets = []; body = over t.tree by_key (col 1 0 ∷ []) }))
  pub get : IsRead s (get_text t) (Select (record { lets = []; body = over t.tree by_key (each_column 1 t) }) (names_of t))
  pub all : IsRead s (all_text t) (Select (record { lets = []; body = in_order t.tree [] (each_column 1 t) (lit (Int (negsuc 0))) }) (names_of t))
  pub first : IsRead s (first_text t) (batch_of t [])
  pub batch : IsRead s (batch_text t) (batch_of t from_key)

-- The six texts are the table's.
pub record AreTexts (t : Table) (texts : Texts) : Type 0 where
  pub put : texts.put.now ≡ put_text t
  pub take : texts.take.now ≡ take_text t
  pub get : texts.get.now ≡ get_text t
  pub all : texts.all.now ≡ all_text t
  pub first : texts.first.now ≡ first_text t
  pub batch : texts.batch.now ≡ batch_text t

-- A table of typed rows keyed by one number, in the newest schema: its texts in each schema that has it, and
-- the relation of its rows to SQL and the picture. A row can be read back from its columns, and it has a
-- place in the picture.
pub record IsNumberTable {R : Type 0} (t : typed.Table ℕ R) (number_of : R → ℕ) : Type 0 where
  pub newest : HasTable t.since SCHEMA
  pub texts : (n : ℕ) → HasTable t.since n → IsNumbered (schema_at n) t.place t.shape
  pub keyed : (k : ℕ) → t.key k ≡ number_key k
  pub first_cell : (r : R) → column (t.cells r) 0 ≡ number (number_of r)
  pub from_one : (r : R) → t.IsLegal r → 1 ≤ number_of r
  pub fills : (r : R) → Fills t.shape (t.cells r) (put_terms t.shape) (put_shows t.shape) (length t.shape.columns + 1)
      (length t.shape.columns) (number_key (number_of r)) (t.cells r)
  pub back : Row → R
  pub back_is : (r : R) → t.IsLegal r → back (t.cells r) ≡ r
  pub rows_are : (maps : Maps) (P : Picture) → Encodes maps P → IsEncoded Any number_key t.cells (maps t.place) (t.rows P)
  pub legal : (P : Picture) → InLimits P → (k : ℕ) (r : R) → t.rows P k ≡ Some r → (number_of r ≡ k) × t.IsLegal r
  pub with_rows : Picture → (ℕ → Option R) → Picture
  pub set_is : (P : Picture) (k : ℕ) (row : Option R) → t.set P k row ≡ with_rows P (put_in (t.rows P) k row)
  pub framed : (maps : Maps) (P : Picture) (m : Map) (u : ℕ → Option R) → Encodes maps P → IsEncoded Any number_key t.cells m u
      → Encodes (with_map maps t.place m) (with_rows P u)

-- A schema that begins with the tables and indexes of another; or with those of step 1.
abbrev pub grown_from : Schema → List Table → List Index → Schema
grown_from s more others = record { tables = s.tables ++ more; indexes = s.indexes ++ others; views = [] }

abbrev pub grown : List Table → List Index → Schema
grown = grown_from first

-- Every numbered schema begins with those of step 1.
pub schema_grown : (n : ℕ) → schema_at n ≡ grown (later_tables n) (later_indexes n)
schema_grown zero = refl
schema_grown (suc zero) = refl
schema_grown (suc (suc zero)) = refl
schema_grown (suc (suc (suc zero))) = refl
schema_grown (suc (suc (suc (suc n)))) = refl

-- So what holds of each schema that does holds of every numbered one.
pub in_each : (at : ℕ) (t : Table) → ((more : List Table) (others : List Index) → IsNumbered (grown more others) at t) → (n : ℕ)
    → HasTable 1 n → IsNumbered (schema_at n) at t
in_each at t is n has = subst (λ s. IsNumbered s at t) (sym (schema_grown n)) (is (later_tables n) (later_indexes n))

-- A column's content, as it is read back.
abbrev pub nat_of : Value → ℕ
nat_of (Int (pos n)) = n
nat_of _ = 0

abbrev pub text_of : Value → List ℕ
text_of (Text t) = t
text_of _ = []

abbrev pub option_of : Value → Option ℕ
option_of (Int (pos n)) = Some n
option_of _ = None

pub option_back : (o : Option ℕ) → option_of (optional o) ≡ o
option_back None = refl
option_back (Some n) = refl

pub optional_suits : (o : Option ℕ) → suits_kind Integer (optional o) ≡ true
optional_suits None = refl
optional_suits (Some n) = refl

abbrev pub option_text_of : Value → Option (List ℕ)
option_text_of (Text t) = Some t
option_text_of _ = None

pub option_text_back : (o : Option (List ℕ)) → option_text_of (optional_text o) ≡ o
option_text_back None = refl
option_text_back (Some t) = refl

pub optional_text_suits : (o : Option (List ℕ)) → suits_kind TextKind (optional_text o) ≡ true
optional_text_suits None = refl
optional_text_suits (Some t) = refl
