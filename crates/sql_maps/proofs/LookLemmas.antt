-- Look-ups by columns that aren't keys.
use Rattle.std.proofs.Common.{arith, ◌≤◌, None, ◌≡◌, ℕ, pos, negsuc, Bool, false, List, [], ◌∷◌, map, filter, length, min, slice_get}
use Rattle.std.proofs.Common.{Option, Some, Ok, Err, Result, codes, refl, sym, ap, subst, ◌∙◌}
use Rattle.std.specs.Prelude.{take, IfOk}
use Rattle.sqlite.specs.declared.types.Value.TheVariants.{Int}
use Rattle.sqlite.specs.Order.{Row, column}
use Rattle.sqlite.specs.Table.{Table}
use Rattle.sqlite.specs.Schema.{Schema}
use Rattle.sqlite.specs.Term.{Term, lit}
use Rattle.sqlite_trees.specs.Tree.{rowid}
use Rattle.sqlite.specs.Listing.{understood, reads_listing}
use Rattle.sqlite.specs.Command.{Command}
use Rattle.sqlite.specs.Command.TheVariants.{Select}
use Rattle.sqlite.specs.Given.{IsPlain}
use Rattle.std.specs.Option.{option_to_list}
use Rattle.sqlite.specs.State.{State, QueriesRow, Shown, IsUnchanged}
use Rattle.sqlite.specs.declared.error.Error.TheVariants.{QueryReturnedNoRows}
use Rattle.sql_maps.specs.Calls.{FindsRow}
use Rattle.sqlite.specs.declared.error.Error.{Error}
use Rattle.sqlite.proofs.Callers.{command_of, reads_as, first_as}
use Rattle.sqlite_tied.specs.Listing.{each_column}
use Rattle.sql_maps.specs.Maps.{cells, key_at, Maps, Holds, First, Listed, Count}
use Rattle.sql_maps.proofs.Words.{in_order, counting, GivesFirst, GivesCount}
use Rattle.sql_maps.proofs.AnswerLemmas.{passes, shown_of}
use Rattle.sql_maps.proofs.ReadLemmas.{none_shown, row_unchanged, shown_unchanged}
use Rattle.sql_maps.proofs.SelectLemmas.{ordered, counted, first_is, listed_is, count_is}

-- all columns of the rows that pass, by the rowid
abbrev pub look : Table → List Term → Term → List (List ℕ) → Command
look table tests most names = Select (record { lets = []; body = in_order table.tree tests (each_column 1 table) most }) names

-- what has to be computed of the text of a look-up
pub record Looks (schema : Schema) (at : ℕ) (table : Table) (tests : List Term) (most : Term) (names : List (List ℕ)) (text : List ℕ) : Type 0 where
  pub listed : slice_get schema.tables at ≡ Some table
  pub command : command_of (understood schema text) ≡ look table tests most names
  pub bare : IsPlain (understood schema text)
  pub unlisted : reads_listing schema text ≡ false
  pub single : (r : Row) → key_at table r ≡ rowid r ∷ []
  pub key_cell : (r : Row) → column (cells table r) 0 ≡ rowid r
  pub as_cells : (given : Row) (l : List Row) → map (shown_of (each_column 1 table) given) l ≡ map (cells table) l

module _ (schema : Schema) (at : ℕ) (table : Table) (tests : List Term) (names : List (List ℕ)) (text : List ℕ) (given : Row)
    (good : Row → Bool) (reads : (r : Row) → passes tests given r ≡ good (cells table r)) where
  pub first_gives : Looks schema at table tests (lit (Int (pos 1))) names text → (old new : State) (r : Result Row Error)
      → QueriesRow text given old new r → (maps : Maps) → Holds schema old.now maps → GivesFirst (maps at) good r
  first_gives looks old new (Ok row) h maps held =
      let is = held.tables at table looks.listed in
      let first = (first_as text given old new schema held.schema_is _ looks.command looks.bare looks.unlisted row h).1 in
      let out = ordered table.tree tests (each_column 1 table) (lit (Int (pos 1))) old.now.trees given (row ∷ first.0) is.shaped.0 first.1 in
      let all = first_is table (old.now.trees table.tree) (maps at) is (passes tests given) good reads looks.single looks.key_cell
      (row ∷ first.0) (out ∙ ap (take 1) (looks.as_cells given _)) in
      (all.0, all.1, all.2, refl)
  first_gives looks old new (Err e) h maps held = λ none.
      let is = held.tables at table looks.listed in
      let empty = none_shown text given old new schema held.schema_is looks.bare (subst (λ x. QueriesRow text given old new (Err x)) none h) in
      let read = reads_as text given old new schema held.schema_is _ looks.command looks.bare looks.unlisted [] empty in
      let out = ordered table.tree tests (each_column 1 table) (lit (Int (pos 1))) old.now.trees given [] is.shaped.0 read.answer in
      first_is table (old.now.trees table.tree) (maps at) is (passes tests given) good reads looks.single looks.key_cell []
      (out ∙ ap (take 1) (looks.as_cells given _))

  pub list_gives : Looks schema at table tests (lit (Int (negsuc 0))) names text → (old new : State) (rows : List Row)
      → Shown text given old new rows → (maps : Maps) → Holds schema old.now maps → Listed (maps at) good rows
  list_gives looks old new rows h maps held =
      let is = held.tables at table looks.listed in
      let read = reads_as text given old new schema held.schema_is _ looks.command looks.bare looks.unlisted rows h in
      let out = ordered table.tree tests (each_column 1 table) (lit (Int (negsuc 0))) old.now.trees given rows is.shaped.0 read.answer in
      listed_is table (old.now.trees table.tree) (maps at) is (passes tests given) good reads looks.single looks.key_cell rows (out ∙ looks.as_cells given _)

  pub count_gives : (listed : slice_get schema.tables at ≡ Some table)
      (command : command_of (understood schema text) ≡ Select (record { lets = []; body = counting table.tree tests })
      (codes "COUNT(*)" ∷ [])) (bare : IsPlain (understood schema text)) (unlisted : reads_listing schema text ≡ false)
      (single : (r : Row) → key_at table r ≡ rowid r ∷ []) (key_cell : (r : Row) → column (cells table r) 0 ≡ rowid r) (old new : State)
      (r : Result Row Error) → QueriesRow text given old new r → (maps : Maps) → Holds schema old.now maps → GivesCount (maps at) good r
  count_gives listed command bare unlisted single key_cell old new (Ok row) h maps held =
      let is = held.tables at table listed in
      let first = (first_as text given old new schema held.schema_is _ command bare unlisted row h).1 in
      let out = counted table.tree tests old.now.trees given (row ∷ first.0) first.1 in
      let same : row ≡ Int (pos (min (length (filter (passes tests given) (old.now.trees table.tree))) 9223372036854775807)) ∷ [] = cc in
      (_, count_is table (old.now.trees table.tree) (maps at) is (passes tests given) good reads single key_cell, same)
  count_gives listed command bare unlisted single key_cell old new (Err e) h maps held = tt

  -- the row that a text found first, or none
  pub first_found : Looks schema at table tests (lit (Int (pos 1))) names text → (old new : State) (o : Option Row)
      → FindsRow text given old new o → (maps : Maps) → Holds schema old.now maps
      → First (maps at) good (option_to_list o) × IsUnchanged old new
  first_found looks old new (Some row) h maps held =
      (first_gives looks old new (Ok row) h maps held, row_unchanged text given old new schema held.schema_is looks.bare row h)
  first_found looks old new None h maps held = (
    first_gives looks old new (Err QueryReturnedNoRows) h maps held refl,
    shown_unchanged text given old new schema held.schema_is looks.bare [] (none_shown text given old new schema held.schema_is looks.bare h),
  )

  pub list_found : Looks schema at table tests (lit (Int (negsuc 0))) names text → (old new : State) (rows : List Row)
      → Shown text given old new rows → (maps : Maps) → Holds schema old.now maps
      → Listed (maps at) good rows × IsUnchanged old new
  list_found looks old new rows h maps held =
      (list_gives looks old new rows h maps held, shown_unchanged text given old new schema held.schema_is looks.bare rows h)

  -- a count that fits 32 bits
  pub count_found : (listed : slice_get schema.tables at ≡ Some table)
      (command : command_of (understood schema text) ≡ Select (record { lets = []; body = counting table.tree tests })
      (codes "COUNT(*)" ∷ [])) (bare : IsPlain (understood schema text))
      (unlisted : reads_listing schema text ≡ false) (single : (r : Row) → key_at table r ≡ rowid r ∷ [])
      (key_cell : (r : Row) → column (cells table r) 0 ≡ rowid r) (old new : State)
      → (n : ℕ) → (row : Row) × FindsRow text given old new (Some row) × (column row 0 ≡ Int (pos n)) × (n ≤ 4294967295) → (maps : Maps)
      → Holds schema old.now maps → Count (maps at) good n × IsUnchanged old new
  count_found listed command bare unlisted single key_cell old new n found maps held =
      let all = count_gives listed command bare unlisted single key_cell old new (Ok found.0) found.1 maps held in
      let first : Int (pos n) ≡ Int (pos (min all.0 9223372036854775807)) = sym found.2 ∙ ap (λ r. column r 0) all.2 in
      let same : n ≡ min all.0 9223372036854775807 = cc in
      let few : n ≤ 4294967295 = found.3 in
      let is : all.0 ≡ n = omega arith in
      (subst (Count (maps at) good) is all.1, row_unchanged text given old new schema held.schema_is bare found.0 found.1)

pub ok_then : {A E : Type 0} {P Q : A → Type 0} (r : Result A E) → ((a : A) → P a → Q a) → IfOk r P → IfOk r Q
ok_then (Ok a) f h = f a h
ok_then (Err e) f h = tt
