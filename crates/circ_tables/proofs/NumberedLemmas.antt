-- What holds of any table keyed by one number.
use Rattle.std.proofs.Common.{arith, negsuc, min, Ok, ◌≤◌, ◌<◌, ◌≡◌, inl, inr, ℕ, pos, Bool, true, false, not, ◌==◌, ◌&&◌, ◌||◌, zero, suc}
use Rattle.std.proofs.Common.{◌≢◌, ◌+◌, length, cond, List, [], ◌∷◌, ◌++◌, map, Option, Some, None, Result, refl, sym, ap, subst, ◌∙◌}
use Rattle.std.proofs.Common.{true≢false}
use Rattle.std.specs.Prelude.{bytes_eq, is_some, option_map, slice_get}
use Rattle.std.specs.List.{list_all, list_any, flat_map, filter_map}
use Rattle.std.proofs.lemmas.Bool.{cases_Bool, and_parts, ne_eqb}
use Rattle.std.proofs.lemmas.Bool.Decides.{Decides-eqb}
use Rattle.sqlite.specs.Effect.{Database}
use Rattle.sqlite.specs.Held.{Held, state}
use Rattle.sqlite.specs.Store.{Ghosts}
use Rattle.sqlite.specs.declared.transaction.Transaction.{Transaction}
use Rattle.sqlite.specs.declared.types.Value.TheVariants.{Int}
use Rattle.sqlite.specs.Given.{IsPlain}
use Rattle.sqlite.specs.Listing.{understood}
use Rattle.sqlite.specs.Order.{Row, column}
use Rattle.sqlite.specs.Schema.{Schema}
use Rattle.sqlite.specs.Program.{IsProgramAnswer}
use Rattle.sqlite.specs.State.{State, HasCleanDisk, IsUnchanged, Shown}
use Rattle.sqlite.specs.Command.{Command}
use Rattle.sqlite.specs.Term.{Term, lit}
use Rattle.sqlite.specs.Table as sql
use Rattle.sqlite_schema.specs.declared.schema.Index.{Index}
use Rattle.sqlite_schema.specs.declared.schema.Reference.{Reference}
use Rattle.sqlite_schema.specs.declared.schema.Keys.{Keys}
use Rattle.sqlite_schema.specs.Rules.{agree, guards}
use Rattle.sqlite_value.specs.Keys.{plain}
use Rattle.sqlite_rules.specs.Action.{work_for}
use Rattle.sqlite_rules.specs.Keys.{conflicts, shares}
use Rattle.sqlite_tied.specs.Listing.{each_column}
use Rattle.sql_maps.specs.Calls.{FindsRow}
use Rattle.sqlite.proofs.Callers.{reads_as}
use Rattle.sql_maps.specs.Maps.{Map, Maps, Holds, IsMap, Steps, First, Count, Listed, cells, key_at, put as put_map, put_at, take_at, take_out}
use Rattle.sql_maps.specs.Batches.{FirstRows}
use Rattle.sql_maps.proofs.AnswerLemmas.{shown_of, passes}
use Rattle.sql_maps.proofs.CallLemmas.{put_steps, take_steps}
use Rattle.sql_maps.proofs.FindLemmas.{finds_one}
use Rattle.sql_maps.proofs.LookLemmas.{Looks, look, first_found, list_found, count_found, count_gives}
use Rattle.sql_maps.proofs.BatchLemmas.{batch_found}
use Rattle.sql_maps.proofs.ReadLemmas.{get_row, got as got_some, got_none, shown_unchanged}
use Rattle.sql_maps.proofs.UniqueLemmas.{or_false, alone_by_rowid}
use Rattle.sql_maps.proofs.Words.{over}
use Rattle.sql_maps.proofs.WriteLemmas.{Fixed}
use Rattle.terms.specs.Pictures.{Picture, put as put_in}
use Rattle.terms.specs.declared.fault.Fault.{Fault}
use Rattle.terms.specs.declared.limits.TheConstants.{SCHEMA}
use Rattle.circ_tables.specs.Cells.{number_key}
use Rattle.circ_tables.specs.Encoding.{Any, IsEncoded, Draws, Encodes, with_map}
use Rattle.circ_tables.specs.Numbered.{IsNumbered, IsNumberTable, IsRead, batch_of, count_of, by_key, from_key, by_number, next_text}
use Rattle.circ_tables.specs.Numbered.{next_given, put_terms, put_shows}
use Rattle.circ_tables.specs.Puts.{Runs, PutsRow, TakesRow}
use Rattle.circ_tables.specs.Reading.{Table, FirstEntry, AllEntries, EntriesInside, CountShown, Gets, Selects, Counts, Lists, ListsInside}
use Rattle.circ_tables.specs.Reading.{TellsRowInside, WorksInside}
use Rattle.circ_tables.specs.Selections.{is_any, is_next}
use Rattle.circ_tables.specs.Shape.{schema, schema_at, HasTable}
use Rattle.circ_tables.specs.Texts.{names_of, put_text, take_text, get_text, all_text}
use Rattle.circ_tables.specs.declared.by_number.TheConstants.{BATCH_ROWS}
use Rattle.circ_tables.proofs.EncodingLemmas.{put_encoded, take_encoded, number_same}
use Rattle.circ_tables.proofs.InverseLemmas.{told}
use Rattle.circ_tables.proofs.BatchLemmas.{there}
use Rattle.circ_tables.proofs.PutLemmas.{apart, puts_of}
use Rattle.circ_tables.proofs.QueryLemmas.{shown_mode}
use Rattle.circ_tables.proofs.ReadingLemmas.{gets_of, selects_of, counts_of, lists_of, lists_inside}
use Rattle.circ_tables.proofs.ShownLemmas.{are_encoded}

-- ---- a schema with no foreign key, and no index on a rowid

abbrev has_none : List Reference → Bool
has_none [] = true
has_none (ref ∷ more) = false

abbrev is_free : sql.Table → Bool
is_free t = has_none t.references

abbrev aims_past : Index → Bool
aims_past i = not (bytes_eq (0 ∷ []) i.columns)

none_set_off : (s : Schema) (keys : Keys) (depth tree : ℕ) (olds news : List Row) (tables : List sql.Table) → list_all is_free tables ≡ true
    → flat_map (λ (child : sql.Table). filter_map (work_for s keys depth tree olds news child) child.references) tables ≡ []
none_set_off s keys depth tree olds news [] h = refl
none_set_off s keys depth tree olds news (t ∷ more) h =
    let parts = and_parts (is_free t) (list_all is_free more) h in
    ap (λ l. l ++ flat_map (λ (child : sql.Table). filter_map (work_for s keys depth tree olds news child) child.references) more)
    (none (t.references) parts.0) ∙ none_set_off s keys depth tree olds news more parts.1
  where
    none : (refs : List Reference) → has_none refs ≡ true → filter_map (work_for s keys depth tree olds news t) refs ≡ []
    none [] h = refl
    none (r ∷ rs) h = absurd (true≢false (sym h))

none_shared : (t : sql.Table) (new r : Row) (indexes : List Index) → list_all aims_past indexes ≡ true
    → list_any (shares (Some (0 ∷ [])) t new r) indexes ≡ false
none_shared t new r [] h = refl
none_shared t new r (i ∷ more) h =
    let parts = and_parts (aims_past i) (list_all aims_past more) h in
    ap (λ b. b || list_any (shares (Some (0 ∷ [])) t new r) more)
    (off (guards i t) (bytes_eq (0 ∷ []) i.columns) (agree i.order i.columns r i.columns new) parts.0)
    ∙ none_shared t new r more parts.1
  where
    off : (a b c : Bool) → not b ≡ true → (a && b && c) ≡ false
    off true true c h = absurd (true≢false (sym h))
    off true false c h = refl
    off false true c h = refl
    off false false c h = refl

fixed_of : (s : Schema) (at : ℕ) (t : sql.Table) → list_all is_free s.tables ≡ true → list_all aims_past s.indexes ≡ true → IsNumbered s at t → Fixed s at t
fixed_of s at t free past is = record {
  listed = is.listed;
  uncounted = is.uncounted;
  calm = λ keys depth tree olds news. none_set_off s keys depth tree olds news s.tables free;
  target = λ r new. subst (λ p. conflicts (Some p) s.indexes t new r ≡ agree plain p r p new) (sym is.primary)
      (ap (λ b. agree plain (0 ∷ []) r (0 ∷ []) new || b) (none_shared t new r s.indexes past) ∙ or_false _);
  alone = λ db fits x y hx hy same. alone_by_rowid x y (subst (λ p. agree plain p x p y ≡ true) is.primary same);
}

-- so is the schema of each number
free_all : (n : ℕ) → list_all is_free (schema_at n).tables ≡ true
free_all zero = refl
free_all (suc zero) = refl
free_all (suc (suc zero)) = refl
free_all (suc (suc (suc zero))) = refl
free_all (suc (suc (suc (suc n)))) = refl

past_all : (n : ℕ) → list_all aims_past (schema_at n).indexes ≡ true
past_all zero = refl
past_all (suc zero) = refl
past_all (suc (suc zero)) = refl
past_all (suc (suc (suc zero))) = refl
past_all (suc (suc (suc (suc n)))) = refl

pub fixed_in : (n at : ℕ) (t : sql.Table) → IsNumbered (schema_at n) at t → Fixed (schema_at n) at t
fixed_in n at t = fixed_of (schema_at n) at t (free_all n) (past_all n)

-- ---- a table of typed rows

-- the map at the place is this one, and all others are as they were
same_map : (maps : Maps) (at : ℕ) (m : Map) → with_map maps at m at ≡ m
same_map maps zero m = refl
same_map maps (suc at) m = same_map (λ j. maps (suc j)) at m

other_map : (maps : Maps) (at : ℕ) (m : Map) (i : ℕ) → i ≢ at → with_map maps at m i ≡ maps i
other_map maps zero m zero h = absurd (h refl)
other_map maps zero m (suc i) h = refl
other_map maps (suc at) m zero h = refl
other_map maps (suc at) m (suc i) h = other_map (λ j. maps (suc j)) at m i (λ e. h (ap suc e))

changed_at : (maps : Maps) (at : ℕ) (m : Map) (i : ℕ) (j : Row) → cond (i == at) (m j) (maps i j) ≡ with_map maps at m i j
changed_at maps at m i j = elim (cases_Bool (i == at)) [
  | inl hit ↦ ap (λ b. cond b (m j) (maps i j)) hit
      ∙ sym (ap (λ (w : Map). w j) (subst (λ n. with_map maps at m n ≡ m) (sym ((Decides-eqb i at).0 hit)) (same_map maps at m)))
  | inr miss ↦ ap (λ b. cond b (m j) (maps i j)) miss
      ∙ sym (ap (λ (w : Map). w j) (other_map maps at m i (λ e. true≢false (sym ((Decides-eqb i at).1 e) ∙ miss))))
]

set_one : {A : Type 0} (t : ℕ → A) (at : ℕ) (x : A) (k : ℕ) → put_in t at x k ≡ cond (at == k) x (t k)
set_one t at x k = elim (cases_Bool (at == k)) [ inl hit ↦ rw (hit, put_in) refl | inr miss ↦ rw (miss, put_in) refl ]

module _ {R : Type 0} {t : Table ℕ R} {number_of : R → ℕ} (is : IsNumberTable t number_of) where
  -- its texts in the newest schema
  abbrev texts : IsNumbered schema t.place t.shape
  texts = is.texts SCHEMA is.newest

  fixed : (n : ℕ) → HasTable t.since n → Fixed (schema_at n) t.place t.shape
  fixed n has = fixed_in n t.place t.shape (is.texts n has)

  plain_of : {text : List ℕ} {command : Command} → IsRead schema text command → (s : Schema) → s ≡ schema → IsPlain (understood s text)
  plain_of {text} read s e = subst (λ z. IsPlain (understood z text)) (sym e) read.bare

  as_cells : (given : Row) (l : List Row) → map (shown_of (each_column 1 t.shape) given) l ≡ map (cells t.shape) l
  as_cells given l i = map (λ r. texts.shows given r i) l

  single : (r : Row) → key_at t.shape r ≡ column r 0 ∷ []
  single r = ap (map (column r)) texts.primary

  got : (k : ℕ) (old new : State) (o : Option Row) → FindsRow (get_text t.shape) (number_key k) old new o → (maps : Maps)
      → Holds schema old.now maps → (maps t.place (t.key k) ≡ o) × IsUnchanged old new
  got k old new o finds maps holds =
      subst (λ j. (maps t.place j ≡ o) × IsUnchanged old new) (sym (is.keyed k))
      (get_row schema t.place t.shape texts.listed by_key (each_column 1 t.shape) (number_key k) (number_key k)
      (finds_one t.shape (Int (pos k)) texts.primary refl) (texts.shows (number_key k)) (names_of t.shape) (get_text t.shape)
      texts.get.command_is texts.get.bare texts.get.unlisted old new o finds maps holds)

  -- the row of a number
  pub gets_row : (k : ℕ) → {S : Type 0} (g : Ghosts S) (old new : Held S) (result : Result (Option R) Fault)
      → FirstEntry t.cells t.IsLegal (get_text t.shape) (number_key k) g old new result → Gets t k g old new result
  gets_row k g old new result entry =
      gets_of t (told is) (get_text t.shape) (plain_of texts.get) k (number_key k) (got k)
      (λ maps P encodes. subst (λ j. maps t.place j ≡ option_map t.cells (t.rows P k)) (sym (is.keyed k))
      ((is.rows_are maps P encodes).there k tt))
      (λ P legal r there. (is.legal P legal k r there).1) g old new result entry

  -- whether a number has a row, from the rows that its text shows
  some_mapped : {A B : Type 0} (f : A → B) (o : Option A) → is_some (option_map f o) ≡ is_some o
  some_mapped f None = refl
  some_mapped f (Some a) = refl

  module _ (k : ℕ) where
    at_key : (db : Database) (m : Map) → IsMap t.shape (db.trees t.shape.tree) m → (rows : List Row)
        → IsProgramAnswer [] (over t.shape.tree by_key (each_column 1 t.shape)) db.trees (number_key k) rows
        → not (length rows == 0) ≡ is_some (m (number_key k))
    at_key db m is [] answer = ap is_some (sym (got_none schema t.place t.shape texts.listed by_key (each_column 1 t.shape) (number_key k) (number_key k)
        (finds_one t.shape (Int (pos k)) texts.primary refl) (texts.shows (number_key k)) (names_of t.shape) db.trees m is answer))
    at_key db m is (v ∷ more) answer = ap not (ne_eqb (length (v ∷ more)) 0 (λ same. omega (arith, same))) ∙ ap is_some (sym (got_some schema t.place t.shape texts.listed by_key (each_column 1 t.shape) (number_key k) (number_key k)
        (finds_one t.shape (Int (pos k)) texts.primary refl) (texts.shows (number_key k)) (names_of t.shape) db.trees m (v ∷ more) is answer v (inl refl)))

    key_shown : (old new : State) (rows : List Row) → Shown (get_text t.shape) (number_key k) old new rows → (maps : Maps) → Holds schema old.now maps
        → (not (length rows == 0) ≡ is_some (maps t.place (t.key k))) × IsUnchanged old new
    key_shown old new rows shown maps holds =
        let read = reads_as (get_text t.shape) (number_key k) old new schema holds.schema_is _ texts.get.command_is texts.get.bare texts.get.unlisted rows shown in (
          at_key old.now (maps t.place) (holds.tables t.place t.shape texts.listed) rows read.answer
              ∙ ap (λ j. is_some (maps t.place j)) (sym (is.keyed k)),
          shown_unchanged (get_text t.shape) (number_key k) old new schema holds.schema_is texts.get.bare rows shown,
        )

    pub tells_row : {S : Type 0} (g : Ghosts S) (old new : Transaction S) (rows : List Row) (there : Bool) → there ≡ not (length rows == 0)
        → WorksInside g old new
        → (HasCleanDisk (state g new.conn.now) → Shown (get_text t.shape) (number_key k) (state g old.conn.now) (state g new.conn.now) rows)
        → TellsRowInside t k g old new (Ok there)
    tells_row g old new rows there same works shown = record {
      works = works;
      inside = λ clean begun. shown_mode (get_text t.shape) (number_key k) (state g old.conn.now) (state g new.conn.now) rows (shown clean) ∙ begun;
      tells = λ clean maps holds.
          let both = key_shown (state g old.conn.now) (state g new.conn.now) rows (shown clean) maps holds in
          (same ∙ both.0, both.1);
      shows = λ clean P p.
          let both = key_shown (state g old.conn.now) (state g new.conn.now) rows (shown clean) p.maps p.holds in
          let kept = ap (λ j. is_some (p.maps t.place j)) (is.keyed k) ∙ ap is_some ((is.rows_are p.maps P p.encodes).there k tt)
          ∙ some_mapped t.cells (t.rows P k) in
          (same ∙ both.0 ∙ kept, both.1);
      fault = tt;
    }

  -- ---- rows that pass a test: the first one, all of them, a batch of them, and how many they are
  module _ (tests : List Term) (text : List ℕ) (given : Row) (good : Row → Bool) (reads : (r : Row) → passes tests given r ≡ good (cells t.shape r)) where
    looks : (most : Term) → IsRead schema text (look t.shape tests most (names_of t.shape)) → Looks schema t.place t.shape tests most (names_of t.shape) text
    looks most read = record {
      listed = texts.listed;
      command = read.command_is;
      bare = read.bare;
      unlisted = read.unlisted;
      single
          = single;
      key_cell = texts.key_cell;
      as_cells = as_cells;
    }

    pub selects_by : IsRead schema text (look t.shape tests (lit (Int (pos 1))) (names_of t.shape))
        → {S : Type 0} (g : Ghosts S) (old new : Held S) (result : Result (Option R) Fault)
        → FirstEntry t.cells t.IsLegal text given g old new result
        → Selects t (λ maps. First (maps t.place) good) g old new result
    selects_by read =
        selects_of t text (plain_of read) given (λ maps. First (maps t.place) good)
        (first_found schema t.place t.shape tests (names_of t.shape) text given good reads (looks (lit (Int (pos 1))) read))
        (λ maps v found. found.0) (are_encoded is)

    pub lists_by : IsRead schema text (look t.shape tests (lit (Int (negsuc 0))) (names_of t.shape))
        → {S L : Type 0} (items : L → List R) (g : Ghosts S) (old new : Held S) (result : Result L Fault)
        → AllEntries items t.cells t.IsLegal text given g old new result
        → Lists t items (λ m. Listed m good) g old new result
    lists_by read items =
        lists_of t items text (plain_of read) given (λ m. Listed m good)
        (list_found schema t.place t.shape tests (names_of t.shape) text given good reads (looks (lit (Int (negsuc 0))) read))
        (λ m rows listed v there. let at = listed.sound v there in (at.0, at.1)) (are_encoded is)

    found_by : (s : Schema) → slice_get s.tables t.place ≡ Some t.shape → IsRead s text (batch_of t.shape tests)
        → (old new : State) (rows : List Row) → Shown text given old new rows → (maps : Maps) → Holds s old.now maps
        → FirstRows BATCH_ROWS (maps t.place) good rows × IsUnchanged old new
    found_by s listed read =
        batch_found s t.place t.shape tests by_number BATCH_ROWS (names_of t.shape) text given good reads (λ x y _ _ less. rw less refl)
        (record {
          listed = listed;
          command = read.command_is;
          bare = read.bare;
          unlisted = read.unlisted;
          single = single;
          key_cell
              = texts.key_cell;
          as_cells = as_cells;
          cut = λ given l. refl;
        })

    pub batches_by : IsRead schema text (batch_of t.shape tests)
        → {S L : Type 0} (items : L → List R) (g : Ghosts S) (old new : Held S) (result : Result L Fault)
        → AllEntries items t.cells t.IsLegal text given g old new result
        → Lists t items (λ m. FirstRows BATCH_ROWS m good) g old new result
    batches_by read items =
        lists_of t items text (plain_of read) given (λ m. FirstRows BATCH_ROWS m good) (found_by schema texts.listed read)
        (λ m rows first v has. there BATCH_ROWS m good rows first v has) (are_encoded is)

    batches_inside : ((n : ℕ) → HasTable t.since n → IsRead (schema_at n) text (batch_of t.shape tests))
        → {S L : Type 0} (items : L → List R) (g : Ghosts S) (old new : Transaction S) (result : Result L Fault)
        → EntriesInside items t.cells t.IsLegal text given g old new result
        → ListsInside t items (λ m. FirstRows BATCH_ROWS m good) g old new result
    batches_inside read items = lists_inside t items text given (λ m. FirstRows BATCH_ROWS m good)
        (λ n has. found_by (schema_at n) (is.texts n has).listed (read n has))
        (λ m rows first v has. there BATCH_ROWS m good rows first v has)

    -- a count that is no number of 32 bits is greater
    count_many : IsRead schema text (count_of t.shape tests) → (old new : State) → (row : Row) × FindsRow text given old new (Some row)
        × (0 < length row → (n : ℕ) → n ≤ 4294967295 → column row 0 ≢ Int (pos n)) → (maps : Maps) → Holds schema old.now maps
        → (n : ℕ) × Count (maps t.place) good n × (4294967295 < n)
    count_many read old new found maps held =
        let all = count_gives schema t.place t.shape tests [] text given good reads texts.listed read.command_is read.bare read.unlisted
        single texts.key_cell old new (Ok found.0) found.1 maps held in
        let many : all.0 ≤ 4294967295 → ⊥ = λ few.
        let same : min all.0 9223372036854775807 ≡ all.0 = omega arith in
        let is : column found.0 0 ≡ Int (pos all.0) = ap (λ r. column r 0) all.2 ∙ ap (λ n. Int (pos n)) same in
        let wide : length found.0 ≡ 1 = ap length all.2 in
        found.2 (omega arith) all.0 few is in
        (all.0, all.1, omega arith)

    pub counts_by : IsRead schema text (count_of t.shape tests) → {S : Type 0} (g : Ghosts S) (old new : Held S) (result : Result ℕ Fault)
        → CountShown text given g old new result → Counts t good g old new result
    counts_by read =
        counts_of t text (plain_of read) given good
        (count_found schema t.place t.shape tests [] text given good reads texts.listed read.command_is read.bare read.unlisted single
        texts.key_cell) (count_many read)

  -- all rows
  pub lists_all : {S L : Type 0} (items : L → List R) (g : Ghosts S) (old new : Held S) (result : Result L Fault)
      → AllEntries items t.cells t.IsLegal (all_text t.shape) [] g old new result → Lists t items (λ m. Listed m is_any) g old new result
  lists_all = lists_by [] (all_text t.shape) [] is_any (λ r. refl) texts.all

  -- the first batch, or the one after a number
  abbrev next_tests : Option ℕ → List Term
  next_tests None = []
  next_tests (Some n) = from_key

  next_passes : (after : Option ℕ) (r : Row) → passes (next_tests after) (next_given after) r ≡ is_next after (cells t.shape r)
  next_passes None r = refl
  next_passes (Some n) r = rw (texts.key_cell r) refl

  next_read : (s : Schema) → IsNumbered s t.place t.shape → (after : Option ℕ) → IsRead s (next_text t.shape after) (batch_of t.shape (next_tests after))
  next_read s of None = of.first
  next_read s of (Some n) = of.batch

  pub lists_next : (after : Option ℕ) → {S L : Type 0} (items : L → List R) (g : Ghosts S) (old new : Held S) (result : Result L Fault)
      → AllEntries items t.cells t.IsLegal (next_text t.shape after) (next_given after) g old new result
      → Lists t items (λ m. FirstRows BATCH_ROWS m (is_next after)) g old new result
  lists_next after = batches_by (next_tests after) (next_text t.shape after) (next_given after) (is_next after) (next_passes after) (next_read schema texts after)

  -- the same inside a transaction
  pub inside_next : (after : Option ℕ)
      → {S L : Type 0} (items : L → List R) (g : Ghosts S) (old new : Transaction S) (result : Result L Fault)
      → EntriesInside items t.cells t.IsLegal (next_text t.shape after) (next_given after) g old new result
      → ListsInside t items (λ m. FirstRows BATCH_ROWS m (is_next after)) g old new result
  inside_next after = batches_inside (next_tests after) (next_text t.shape after) (next_given after) (is_next after) (next_passes after)
      (λ n has. next_read (schema_at n) (is.texts n has) after)

  -- the picture after a change of the map at the place
  drawn : (n : ℕ) (old new : State) (change : Maps → Maps) (m : Map → Map) (u : Picture → ℕ → Option R)
      → ((maps : Maps) → change maps ≡ with_map maps t.place (m (maps t.place)))
      → ((maps : Maps) (P : Picture) → Encodes maps P → IsEncoded Any number_key t.cells (m (maps t.place)) (u P))
      → Steps (schema_at n) old new change → Draws n old new (λ P. is.with_rows P (u P))
  drawn n old new change m u same encoded steps = record {
    picture = λ P p. record {
      maps = change p.maps;
      holds = steps.maps p.maps p.holds;
      encodes = subst (λ maps. Encodes maps (is.with_rows P (u P))) (sym (same p.maps))
          (is.framed p.maps P (m (p.maps t.place)) (u P) p.encodes (encoded p.maps P p.encodes));
    };
    is_inside = steps.is_inside;
    committed = steps.committed;
  }

  -- a row is put
  pub puts_row : (row : R) → {S T : Type 0} (g : Ghosts S) (old new : Transaction S) (result : Result T Fault)
      → Runs (put_text t.shape) (t.cells row) g old new result → PutsRow t (number_of row) row g old new result
  puts_row row g old new result runs =
      let at = number_of row in
      puts_of _ _ _ _
      (λ n has a b done. subst (λ k. Steps (schema_at n) a b (λ maps. put_at maps t.place k (t.cells row))) (sym (is.keyed at))
      (put_steps (schema_at n) (apart n) t.place t.shape (fixed n has) (t.cells row) (put_terms t.shape) (put_shows t.shape)
      (length t.shape.columns + 1) (length t.shape.columns) (number_key at) (t.cells row) (is.fills row) (put_text t.shape)
      (is.texts n has).put.command_is (is.texts n has).put.bare a b done.0 done.1))
      (λ n has a b any st. subst (Draws n a b) (λ i P. sym (is.set_is P at (Some row)) i)
      (drawn n a b (λ maps. put_at maps t.place (number_key at) (t.cells row)) (λ w. put_map w (number_key at) (t.cells row))
      (λ P. put_in (t.rows P) at (Some row))
      (λ maps p i j. changed_at maps t.place (put_map (maps t.place) (number_key at) (t.cells row)) i j p)
      (λ maps P encodes. put_encoded Any number_key t.cells (maps t.place) (t.rows P) at tt row (put_in (t.rows P) at (Some row))
      (λ k. at == k) (λ k _. number_same at k) (set_one (t.rows P) at (Some row)) (is.rows_are maps P encodes))
      (subst (λ k. Steps (schema_at n) a b (λ maps. put_at maps t.place k (t.cells row))) (is.keyed at) st)))
      runs

  -- a row is taken
  pub takes_row : (at : ℕ) → {S T : Type 0} (g : Ghosts S) (old new : Transaction S) (result : Result T Fault)
      → Runs (take_text t.shape) (number_key at) g old new result → TakesRow t at g old new result
  takes_row at g old new result runs =
      puts_of _ _ _ _
      (λ n has a b done. subst (λ k. Steps (schema_at n) a b (λ maps. take_at maps t.place k)) (sym (is.keyed at))
      (take_steps (schema_at n) t.place t.shape (fixed n has) by_key (number_key at) (number_key at)
      (finds_one t.shape (Int (pos at)) texts.primary refl) (apart n) (take_text t.shape) (is.texts n has).take.command_is
      (is.texts n has).take.bare a b done.0 done.1))
      (λ n has a b any st. subst (Draws n a b) (λ i P. sym (is.set_is P at None) i)
      (drawn n a b (λ maps. take_at maps t.place (number_key at)) (λ w. take_out w (number_key at)) (λ P. put_in (t.rows P) at None)
      (λ maps p i j. changed_at maps t.place (take_out (maps t.place) (number_key at)) i j p)
      (λ maps P encodes. take_encoded Any number_key t.cells (maps t.place) (t.rows P) at tt (put_in (t.rows P) at None) (λ k. at == k)
      (λ k _. number_same at k) (set_one (t.rows P) at None) (is.rows_are maps P encodes))
      (subst (λ k. Steps (schema_at n) a b (λ maps. take_at maps t.place k)) (is.keyed at) st)))
      runs
