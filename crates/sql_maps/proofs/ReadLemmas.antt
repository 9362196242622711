-- What a query on one table says of its map.
use Rattle.std.proofs.Common.{◌≡◌, ◌≢◌, inl, inr, ℕ, false, List, [], ◌∷◌, slice_get, Option, Some, None, Ok, Err, refl, sym, ap, subst, ◌∙◌}
use Rattle.sqlite.specs.Order.{Row}
use Rattle.sqlite.specs.Term.{Term}
use Rattle.sqlite.specs.Table.{Table}
use Rattle.sqlite.specs.Schema.{Schema}
use Rattle.sqlite_trees.specs.declared.error.StoreError.{StoreError}
use Rattle.sqlite_trees.specs.declared.error.StoreError.TheVariants.{OutOfMemory, Io, Corrupt, Full, Broken, Unstorable}
use Rattle.sqlite.specs.Tree.{Trees}
use Rattle.sqlite_rules.specs.Lists.{Has}
use Rattle.sqlite.specs.Command.{Command}
use Rattle.sqlite.specs.Command.TheVariants.{Select, Rows}
use Rattle.sqlite.specs.Program.{IsProgramAnswer}
use Rattle.sqlite.specs.Effect.{Database, RefusesToRead}
use Rattle.sqlite.specs.Given.{IsPlain}
use Rattle.sqlite.specs.Listing.{understood, reads_listing}
use Rattle.sqlite.specs.declared.error.Error.{Error}
use Rattle.sqlite.specs.declared.error.Error.TheVariants.{QueryReturnedNoRows}
use Rattle.sqlite.specs.declared.rows.Row.{Row as TheRow}
use Rattle.std.specs.Prelude.{IfOk, IfErr}
use Rattle.std.proofs.Common.{Result, Vec, Global}
use Rattle.sqlite.specs.State.{State, Shown, ShowsRows, QueriesRow, FailsToQuery, FailsToShow, IsNotRun, IsUnchanged, store_error, Survives, CommitsShowing}
use Rattle.sqlite.specs.Clock.{timed}
use Rattle.sqlite.proofs.Callers.{command_of, reads_as, first_as, never_commits}
use Rattle.sqlite.proofs.StateLemmas.{survives_weaker}
use Rattle.sql_maps.specs.Calls.{FindsRow, Keeps, IsKeptOrUndone}
use Rattle.sql_maps.specs.Maps.{cells, IsMap, Map, Maps, Holds}
use Rattle.sql_maps.proofs.Words.{over}
use Rattle.sql_maps.proofs.AnswerLemmas.{shown_of, answer_has, has_answer}
use Rattle.sql_maps.proofs.FindLemmas.{Finds}

pub unchanged_keeps : (old new : State) → IsUnchanged old new → Keeps old new
unchanged_keeps old new same = record { now = same.0.now_is; committed = same.0.committed_is; mode = same.0.mode }

module _ (sql : List ℕ) (params : Row) (old new : State) (schema : Schema) (has : old.now.schema ≡ schema) (bare : IsPlain (understood schema sql)) where
  -- a query leaves the connection as it was
  pub shown_unchanged : (rows : List Row) → Shown sql params old new rows → IsUnchanged old new
  unfolding Shown
  shown_unchanged rows h =
      let known = sym h.1.is ∙ ap (λ s. understood s sql) has in
      let none = (subst IsPlain (sym known) bare).0 in
      (subst (ShowsRows old new sql h.0 (timed params h.0.formats h.1.now) rows) none h.2).3

  pub row_unchanged : (row : Row) → QueriesRow sql params old new (Ok row) → IsUnchanged old new
  unfolding QueriesRow
  row_unchanged row (inl h) = h.1
  row_unchanged row (inr h) = shown_unchanged h.0 h.1

  no_store_error : (e : StoreError) → QueryReturnedNoRows ≢ store_error e
  no_store_error OutOfMemory h = cc
  no_store_error Io h = cc
  no_store_error Corrupt h = cc
  no_store_error Full h = cc
  no_store_error Broken h = cc
  no_store_error Unstorable h = cc

  no_refusal : (limit : Option ℕ) (command : Command) (db : Database) (given : Row) → ¬ RefusesToRead limit command db given QueryReturnedNoRows
  no_refusal limit (Select q names) db given (inl h) = let e = h.0 in cc
  no_refusal limit (Select q names) db given (inr (inl h)) = let e = h.0 in cc
  no_refusal limit (Select q names) db given (inr (inr h)) = let e = h.0 in cc
  no_refusal limit (Rows values width names) db given h = let e = h.0 in cc
  no_refusal limit _ db given h = let e = h in cc

  -- the error that there is no row is given only where the answer is empty
  never_refused : ¬ FailsToQuery sql params old new QueryReturnedNoRows
  unfolding FailsToQuery IsNotRun
  never_refused (inl (inl (inl h, same))) = let e = h.2 in cc
  never_refused (inl (inl (inr (c, is, inl h), same))) = let e = h.1 in cc
  never_refused (inl (inl (inr (c, is, inr (inl h)), same))) = let e = h.1 in cc
  never_refused (inl (inl (inr (c, is, inr (inr h)), same))) = let e = h.1 in cc
  never_refused (inl (inr fails)) = no_store_error fails.0 fails.1
  never_refused (inr (c, it, shows)) =
      let known = sym it.is ∙ ap (λ s. understood s sql) has in
      let none = (subst IsPlain (sym known) bare).0 in
      let h = subst (FailsToShow old new sql c (timed params c.formats it.now) QueryReturnedNoRows) none shows in
      no_refusal old.step_limit c.command h.0 (timed params c.formats it.now) h.2

  pub none_shown : QueriesRow sql params old new (Err QueryReturnedNoRows) → Shown sql params old new []
  unfolding QueriesRow
  none_shown (inl h) = absurd (never_refused h)
  none_shown (inr h) = h.1

  -- a text that only reads leaves all as it was, or the store failed and the transaction is undone
  query_left : (e : Error) → FailsToQuery sql params old new e → IsKeptOrUndone old new
  unfolding FailsToQuery IsNotRun
  query_left e (inl (inl refused)) = inl (unchanged_keeps old new refused.1)
  query_left e (inl (inr fails)) = inr fails.3
  query_left e (inr (c, it, shows)) =
      let known = sym it.is ∙ ap (λ s. understood s sql) has in
      let none = (subst IsPlain (sym known) bare).0 in
      let h = subst (FailsToShow old new sql c (timed params c.formats it.now) e) none shows in
      inl (unchanged_keeps old new h.3)

  pub row_left : (r : Result Row Error) → QueriesRow sql params old new r → IsKeptOrUndone old new
  unfolding QueriesRow
  row_left (Ok row) h = inl (unchanged_keeps old new (row_unchanged row h))
  row_left (Err e) (inl h) = query_left e h
  row_left (Err e) (inr h) = inl (unchanged_keeps old new (shown_unchanged [] h.1))

  pub all_left : (r : Result (Vec TheRow Global) Error) → IfOk r (λ rows. Shown sql params old new rows.items)
      → IfErr r (FailsToQuery sql params old new) → IsKeptOrUndone old new
  all_left (Ok rows) h f = inl (unchanged_keeps old new (shown_unchanged rows.items h))
  all_left (Err e) h f = query_left e f

module _ (schema : Schema) (at : ℕ) (table : Table) (listed : slice_get schema.tables at ≡ Some table) (tests shows : List Term)
    (params k : Row) (finds : Finds table tests params k)
    (shows_cells : (r : Row) → shown_of shows params r ≡ cells table r) (names : List (List ℕ)) where
  abbrev pub get_command : Command
  get_command = Select (record { lets = []; body = over table.tree tests shows }) names

  -- each row that is shown is the map's
  pub got : (db : Trees) (m : Map) (out : List Row) → IsMap table (db table.tree) m
      → IsProgramAnswer [] (over table.tree tests shows) db params out → (v : Row) → Has out v → m k ≡ Some v
  got db m out is answer v there =
      let r = answer_has table.tree tests shows db params out answer v there in
      ap m (sym (finds.hit r.0 (is.plain r.0 r.1) r.2)) ∙ is.sound r.0 r.1 ∙ ap Some (sym (shows_cells r.0) ∙ sym r.3)

  -- and where none is shown the map has none
  pub got_none : (db : Trees) (m : Map) → IsMap table (db table.tree) m → IsProgramAnswer [] (over table.tree tests shows) db params [] → m k ≡ None
  got_none db m is answer = go (m k) refl
    where
      go : (o : Option Row) → m k ≡ o → o ≡ None
      go None e = refl
      go (Some v) e = let r = is.whole k v e in absurd (has_answer table.tree tests shows db params [] answer r.0 r.1 (finds.hits r.0 r.2))

  module _ (sql : List ℕ) (is : command_of (understood schema sql) ≡ get_command) (bare : IsPlain (understood schema sql))
      (unlisted : reads_listing schema sql ≡ false) (old new : State) where
    pub get_some : (row : Row) → QueriesRow sql params old new (Ok row) → (maps : Maps) → Holds schema old.now maps → (maps at k ≡ Some row)
        × IsUnchanged old new
    get_some row h maps holds =
        let first = (first_as sql params old new schema holds.schema_is get_command is bare unlisted row h).1 in (
          got old.now.trees (maps at) (row ∷ first.0) (holds.tables at table listed) first.1 row (inl refl),
          row_unchanged sql params old new schema holds.schema_is bare row h,
        )

    pub get_no : QueriesRow sql params old new (Err QueryReturnedNoRows) → (maps : Maps) → Holds schema old.now maps → (maps at k ≡ None) × IsUnchanged old new
    get_no h maps holds =
        let none = none_shown sql params old new schema holds.schema_is bare h in
        let read = reads_as sql params old new schema holds.schema_is get_command is bare unlisted [] none in
        (got_none old.now.trees (maps at) (holds.tables at table listed) read.answer, shown_unchanged sql params old new schema holds.schema_is bare [] none)

    pub get_row : (o : Option Row) → FindsRow sql params old new o → (maps : Maps) → Holds schema old.now maps → (maps at k ≡ o) × IsUnchanged old new
    get_row (Some row) h maps holds = get_some row h maps holds
    get_row None h maps holds = get_no h maps holds

-- a text that only reads commits nothing
pub commits_nothing : (sql : List ℕ) (params : Row) (old new : State) → IsPlain (understood old.now.schema sql)
    → Survives old new (CommitsShowing sql params old) → Survives old new (λ _. ⊥)
commits_nothing sql params old new bare = survives_weaker old new _ _ (λ _ db. never_commits sql params old db bare)
