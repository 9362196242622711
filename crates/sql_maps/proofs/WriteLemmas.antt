-- What an upsert and a delete by key do, for any table.
use Rattle.std.proofs.Common.{◌≡◌, ◌≢◌, ◌⊎◌, inl, inr, ℕ, ◌/◌, ℤ, true, false, List, [], ◌∷◌, ◌++◌, map, drop, length, slice_get, Option}
use Rattle.std.proofs.Common.{Some, None, Ok, Err, Result, refl, sym, ap, subst, ◌∙◌, true≢false}
use Rattle.std.specs.Prelude.{if◌then◌else◌}
use Rattle.std.specs.List.{AllByRecursion, list_all}
use Rattle.std.proofs.lemmas.Bool.{and_parts, and_from, false_from_ne_true}
use Rattle.sqlite.specs.declared.types.Value.TheVariants.{Int}
use Rattle.sqlite_value.specs.declared.value.Value.{Value}
use Rattle.sqlite.specs.Order.{Row, column}
use Rattle.sqlite_value.specs.Keys.{plain}
use Rattle.sqlite_value.specs.declared.keys.Collation.TheVariants.{Binary}
use Rattle.sqlite.specs.Term.{Term, col, op2}
use Rattle.sqlite_sql.specs.declared.ops.BinaryOp.TheVariants.{Compare}
use Rattle.sqlite_sql.specs.declared.ops.CompareOp.TheVariants.{Eq}
use Rattle.sqlite.specs.Table.{Table}
use Rattle.sqlite.specs.Schema.{Schema}
use Rattle.sqlite_trees.specs.declared.store.Shape as shape
use Rattle.sqlite_trees.specs.Tree.{Trees, rowid, put_row}
use Rattle.sqlite_trees.specs.View.{IsShaped, is_int}
use Rattle.sqlite_schema.specs.declared.schema.Keys.{Keys}
use Rattle.sqlite_schema.specs.declared.command.Conflict.TheVariants.{Abort}
use Rattle.sqlite_schema.specs.declared.command.Upsert.{Upsert}
use Rattle.sqlite_schema.specs.declared.program.Program.{Program}
use Rattle.sqlite_schema.specs.Rules.{equal, differ, agree, Fits}
use Rattle.sqlite_rules.specs.Lists.{Has}
use Rattle.sqlite_rules.specs.Keys.{conflicts, AreConflicts}
use Rattle.sqlite_rules.specs.Edit.{Edit, id_in, edit_of, taken_by, with_rowid, Applies, without_all, put_all, are_fresh, have_rowids}
use Rattle.sqlite_rules.specs.Calls.{ids_of}
use Rattle.sqlite_rules.specs.Cast.{cast_row}
use Rattle.sqlite_rules.specs.Action.{works}
use Rattle.sqlite_rules.specs.declared.error.Rowids.TheVariants.{Given}
use Rattle.sqlite_rules.proofs.TableLemmas.{has_put, put_has, put_all_has, put_all_keeps, put_all_adds, without_all_has, int_is}
use Rattle.sqlite_trees.proofs.TreeLemmas.{IsShaped-put_row}
use Rattle.sqlite.proofs.Callers.{one_step, command_of, statement_of, runs_as, IsPlain}
use Rattle.sqlite.specs.Listing.{understood}
use Rattle.sqlite.specs.Command.{Command}
use Rattle.sqlite.specs.Command.TheVariants.{InsertOr}
use Rattle.sqlite.specs.Source.TheVariants.{Values}
use Rattle.sqlite.specs.State.{State, Executes, Shows, mode_of}
use Rattle.sqlite.specs.Does.{Does, Tally}
use Rattle.sqlite_schema.specs.declared.schema.Keys.TheVariants.{Enforced}
use Rattle.sqlite.specs.Rows.{Puts as PutsOne, Edited, Task, Tries, TriesEach, Updates, Clears, Written, rowids_for, stamped, shown, Counts}
use Rattle.sqlite.specs.Rows.{InsertsOr, count_of, nothing, joined, higher}
use Rattle.sqlite.specs.Effect.{value_rows, Database, IsDatabase}
use Rattle.sql_maps.specs.Maps.{key_at, cells, is_plain}
use Rattle.sql_maps.proofs.Words.{over, Puts}
use Rattle.sql_maps.proofs.AnswerLemmas.{passes, shown_of, answer_has, has_answer}
use Rattle.sql_maps.proofs.KeyLemmas.{agree_same, same_agree, equal_same, same_equal, not_differ}
use Rattle.sql_maps.proofs.RowsLemmas.{left_apart, left_has, numbered_given, shaped_left, shaped_put, rowid_is, is_rowid, int_at, one_row, int_plain}
use Rattle.sqlite_rules.proofs.ProbeLemmas.{has_mapped, mapped_has}
use Rattle.sqlite.specs.Program.{IsProgramAnswer}

-- a part that gave a value did not stop on the way
pub went : {B E R : Type 0} {b : B} {Stops : E → Type 0} → ((stop : E) × Stops stop × (Ok b ≡ Err stop)) ⊎ R → R
went (inl stopped) = absurd (let e = stopped.2 in cc)
went (inr on) = on

pub same_value : {B E : Type 0} {a b : B} → ◌≡◌ {A = Result B E} (Ok a) (Ok b) → a ≡ b
same_value e = cc

-- what the schema has to say of the table
pub record Fixed (schema : Schema) (at : ℕ) (table : Table) : Type 0 where
  pub listed : slice_get schema.tables at ≡ Some table
  pub uncounted : table.is_counted ≡ false
  -- no foreign key acts
  pub calm : (keys : Keys) (depth tree : ℕ) (olds news : List Row) → works schema keys depth tree olds news ≡ []
  -- the rows that a clause on the key meets are those with the key
  pub target : (r new : Row) → conflicts (Some table.primary) schema.indexes table new r ≡ agree plain table.primary r table.primary new
  -- no two rows have one key
  pub alone : (db : Trees) → Fits schema db → (x y : Row) → Has (db table.tree) x → Has (db table.tree) y
      → agree plain table.primary x table.primary y ≡ true → differ (rowid x) (rowid y) ≡ false

-- the upsert of one row, by the terms that it computes
pub record Fills (table : Table) (params : Row) (terms shows : List Term) (width : ℕ) (id_place : ℕ) (k v : Row) : Type 0 where
  pub source : Row
  -- the row as it is stored at a rowid
  pub stored : ℤ → Row
  pub plain_key : list_all is_plain k ≡ true
  pub once : value_rows (stamped table params) width (length terms / width) terms ≡ source ∷ []
  pub chosen : (top : ℤ) (rows : List Row) → (id : ℤ) × (with_rowid (rowids_for table top) rows (cast_row table source) ≡ stored id)
      × (key_at table (stored id) ≡ k)
  pub id_at : (there : Value) (rest : Row) → column (params ++ there ∷ rest) id_place ≡ there
  pub again : (id : ℤ) (there : Value) (r new : Row) → rowid r ≡ Int id → key_at table r ≡ k
      → cast_row table (drop 1 (shown_of shows (params ++ there ∷ shown table new) r)) ≡ stored id
  -- what is read of the old row before the cast
  pub first : (there : Value) (r new : Row) → id_in (rowid (shown_of shows (params ++ there ∷ shown table new) r)) ≡ id_in (rowid r)
  pub same_key : (id : ℤ) (r : Row) → rowid r ≡ Int id → key_at table r ≡ k → key_at table (stored id) ≡ k
  pub firm : (id : ℤ) → cast_row table (stored id) ≡ stored id
  pub cells_are : (id : ℤ) → key_at table (stored id) ≡ k → cells table (stored id) ≡ v
  pub id_is : (id : ℤ) → rowid (stored id) ≡ Int id

-- what a write of one table left
pub record Leaves (schema : Schema) (table : Table) (db next : Trees) : Type 0 where
  pub shaped : IsShaped shape.TheVariants.Table (db table.tree) → IsShaped shape.TheVariants.Table (next table.tree)
  pub others : AllByRecursion (λ t. t.tree ≢ table.tree → next t.tree ≡ db t.tree) schema.tables

abbrev pub id_test : ℕ → List Term
id_test place = op2 (Compare Eq Binary) (col 1 0) (col 0 place) ∷ []

module _ (schema : Schema) (at : ℕ) (table : Table) (fixed : Fixed schema at table) where
  pub edit_done : (keys : Keys) (db next : Trees) (edit : Edit) → Edited schema keys db edit (Ok next) → Applies schema keys db edit next
  edit_done keys db next edit h = one_step schema keys db next edit (fixed.calm keys 0 edit.table.tree (taken_by db edit) edit.news) h

  pub inserted : (keys : Keys) (db next : Trees) (new : Row) (k v : Row) → cast_row table new ≡ new → key_at table new ≡ k → cells table new ≡ v
      → ((x : Row) → Has (db table.tree) x → key_at table x ≢ key_at table new)
      → Edited schema keys db (edit_of db table [] Given 0 (new ∷ [])) (Ok next) → Puts table (db table.tree) (next table.tree) k v
      × Leaves schema table db next
  inserted keys db next new k v firm keyed is apart h =
      let a = edit_done keys db next (edit_of db table [] Given 0 (new ∷ [])) h in
      let rows : next table.tree ≡ put_row new (db table.tree) = a.rows ∙ ap (λ r. put_row r (db table.tree)) firm in
      let int : is_int (rowid new) ≡ true = ap (λ r. is_int (rowid r)) (sym firm) ∙ (and_parts _ _ a.keyed).0 in
      let fresh : are_fresh (db table.tree) (new ∷ []) ≡ true = ap (λ r. are_fresh (db table.tree) (r ∷ [])) (sym firm) ∙ a.fresh in (
        record {
          row = new;
          keyed = keyed;
          here = subst (λ l. Has l new) (sym rows) (has_put new (db table.tree));
          shows = is;
          rest = λ x h. elim (put_has new (db table.tree) x (subst (λ l. Has l x) rows h)) [ inl same ↦ inl same | inr there ↦ inr (there, apart x there) ];
          kept = λ x there _. subst (λ l. Has l x) (sym rows) (put_all_keeps (new ∷ []) (db table.tree) x fresh there);
        },
        record {
          shaped = λ s. subst (IsShaped shape.TheVariants.Table) (sym rows) (IsShaped-put_row new (db table.tree) int s);
          others = a.tables;
        },
      )

  module _ (params : Row) (terms shows : List Term) (width id_place : ℕ) (k v : Row) (fills : Fills table params terms shows width id_place k v) where
    abbrev abbrev_given : Value → Row → Row
    abbrev_given there new = params ++ there ∷ shown table new

    pub replaced : (keys : Keys) (db next : Trees) (old new : Row) (rows : List Row) → IsShaped shape.TheVariants.Table (db table.tree)
        → Has (db table.tree) old → key_at table old ≡ k
        → IsProgramAnswer [] (over table.tree (id_test id_place) shows) db (abbrev_given (rowid old) new) rows
        → Edited schema keys db (edit_of db table (ids_of rows) Given 1 rows) (Ok next) → Puts table (db table.tree) (next table.tree) k v
        × Leaves schema table db next
    replaced keys db next old new rows shaped there key answer h =
        let params' = abbrev_given (rowid old) new in
        let id = id_in (rowid old) in
        let int = int_at (db table.tree) old shaped there in
        let id_is : rowid old ≡ Int id = int_is (rowid old) int in
        let made = λ (s : Row). cast_row table (drop 1 s) in
        let a = edit_done keys db next (edit_of db table (ids_of rows) Given 1 rows) h in
        let left = without_all (db table.tree) (ids_of rows) in
        let news = map made rows in
        let same_news = numbered_given left news in
        let fresh : are_fresh left news ≡ true = ap (are_fresh left) (sym same_news) ∙ a.fresh in
        let keyed : have_rowids news ≡ true = ap have_rowids (sym same_news) ∙ a.keyed in
        let trees : next table.tree ≡ put_all left news = a.rows ∙ ap (put_all left) same_news in
        let row = fills.stored id in
        let row_key : key_at table row ≡ k = fills.same_key id old id_is key in
        -- the row that the query found is the old one
        let found : (s : Row) → Has rows s → s ≡ shown_of shows params' old = λ s in_rows.
        let it = answer_has table.tree (id_test id_place) shows db params' rows answer s in_rows in
        let same : it.0 ≡ old = one_row (db table.tree) it.0 old shaped.0 it.1 there (picked it.0 old new (int_at (db table.tree) it.0 shaped it.1) int it.2) in
        it.3 ∙ ap (shown_of shows params') same in
        let one : Has rows (shown_of shows params' old) = has_answer table.tree (id_test id_place) shows db params' rows answer old there (picks old new int) in
        let is_row : made (shown_of shows params' old) ≡ row = fills.again id (rowid old) old new id_is key in
        let new_is : (x : Row) → Has news x → x ≡ row = λ x h. let it = has_mapped made rows x h in it.2 ∙ ap made (found it.0 it.1) ∙ is_row in
        let has_new : Has news row = subst (Has news) is_row (mapped_has made rows (shown_of shows params' old) one) in
        let ids_is : (i : ℤ) → Has (ids_of rows) i → i ≡ id = λ i h. let it = has_mapped (λ r. id_in (rowid r)) rows i h in
        it.2 ∙ ap (λ r. id_in (rowid r)) (found it.0 it.1) ∙ fills.first (rowid old) old new in
        let has_id : Has (ids_of rows) id =
        subst (Has (ids_of rows)) (fills.first (rowid old) old new)
        (mapped_has (λ r. id_in (rowid r)) rows (shown_of shows params' old) one) in
        let shaped' : IsShaped shape.TheVariants.Table (next table.tree) =
        subst (IsShaped shape.TheVariants.Table) (sym trees)
        (shaped_put news left keyed (shaped_left (ids_of rows) (db table.tree) shaped)) in
        let here : Has (next table.tree) row = subst (λ l. Has l row) (sym trees) (put_all_adds news left row fresh has_new) in (
          record {
            row = row;
            keyed = row_key;
            here = here;
            shows = fills.cells_are id row_key;
            rest = λ x h. elim (put_all_has news left x (subst (λ l. Has l x) trees h)) [
              | inl in_news ↦ inl (new_is x in_news)
              | inr in_left ↦ inr (
                without_all_has (ids_of rows) (db table.tree) x in_left,
                λ same.
                    let plain_x : list_all is_plain (key_at table x) ≡ true = ap (list_all is_plain) (same ∙ row_key) ∙ fills.plain_key in
                    let alike = not_differ (rowid x) (rowid row) (int_plain (rowid x) (int_at (next table.tree) x shaped' h))
                    (int_plain (rowid row) (int_at (next table.tree) row shaped' here))
                    (fixed.alone next a.fits x row h here (same_agree table.primary x row plain_x same)) in
                    let clash = is_rowid id x (alike ∙ fills.id_is id) in
                    let apart = left_apart (ids_of rows) (db table.tree) x in_left id has_id in
                    true≢false (sym clash ∙ apart),
              )
            ];
            kept = λ x in_old other.
                subst (λ l. Has l x) (sym trees)
                (put_all_keeps news left x fresh
                (left_has (ids_of rows) (db table.tree) x in_old (λ i in_ids. false_from_ne_true _ (λ clash.
                let at_old : rowid x ≡ rowid old = rowid_is i x (int_at (db table.tree) x shaped in_old) clash ∙ ap Int (ids_is i in_ids) ∙ sym id_is in
                let same = one_row (db table.tree) x old shaped.0 in_old there at_old in
                other (ap (key_at table) same ∙ key ∙ sym row_key)))));
          },
          record { shaped = λ _. shaped'; others = a.tables },
        )
      where
        picked : (r old new : Row) → is_int (rowid r) ≡ true → is_int (rowid old) ≡ true
            → passes (id_test id_place) (abbrev_given (rowid old) new) r ≡ true → rowid r ≡ rowid old
        picked r old new p q h = equal_same (rowid r) (rowid old) (int_plain _ p) (int_plain _ q)
            (subst (λ w. equal Binary (rowid r) w ≡ true) (fills.id_at (rowid old) (shown table new)) (and_parts _ _ h).0)

        picks : (old new : Row) → is_int (rowid old) ≡ true → passes (id_test id_place) (abbrev_given (rowid old) new) old ≡ true
        picks old new p = and_from _ _
            (subst (λ w. equal Binary (rowid old) w ≡ true) (sym (fills.id_at (rowid old) (shown table new)))
            (same_equal (rowid old) (int_plain _ p))) refl

    abbrev upsert : List Upsert
    upsert = record { target = Some table.primary; update = Some (record { lets = []; body = over table.tree (id_test id_place) shows }) } ∷ []

    abbrev task_of : Option ℕ → Keys → Task
    task_of limit keys = record { limit = limit; keys = keys; schema = schema; table = table; params = params }

    abbrev new_row : ℤ → Trees → Row
    new_row top db = with_rowid (rowids_for table top) (db table.tree) (cast_row table fills.source)

    new_key : (top : ℤ) (db : Trees) → key_at table (new_row top db) ≡ k
    new_key top db = let chosen = fills.chosen top (db table.tree) in ap (key_at table) chosen.1 ∙ chosen.2

    put_new : (limit : Option ℕ) (keys : Keys) (db : Trees) (top : ℤ) (one : Written)
        → ((r : Row) → Has (db table.tree) r → list_all is_plain (key_at table r) ≡ true)
        → AreConflicts (Some table.primary) schema.indexes table (db table.tree) (new_row top db) []
        → PutsOne (task_of limit keys) (new_row top db) db (Ok one)
        → Puts table (db table.tree) (one.trees table.tree) k v × Leaves schema table db one.trees
    put_new limit keys db top one whole met puts =
        let new = new_row top db in
        let chosen = fills.chosen top (db table.tree) in
        let firm : cast_row table new ≡ new = ap (cast_row table) chosen.1 ∙ fills.firm chosen.0 ∙ sym chosen.1 in
        let is : cells table new ≡ v = ap (cells table) chosen.1 ∙ fills.cells_are chosen.0 chosen.2 in
        let next = went puts in
        let trees : one.trees ≡ next.0 = ap (λ (it : Written). it.trees) (same_value next.2) in
        let apart : (x : Row) → Has (db table.tree) x → key_at table x ≢ key_at table new =
        λ x there same. met.complete x there (fixed.target x new ∙ same_agree table.primary x new (whole x there) same) in
        subst (λ t. Puts table (db table.tree) (t table.tree) k v × Leaves schema table db t) (sym trees)
        (inserted keys db next.0 new k v firm (new_key top db) is apart next.1)

    cleared : (limit : Option ℕ) (keys : Keys) (db : Trees) (new : Row) (others : List Row) (one : Written)
        → Clears (task_of limit keys) Abort new db others (Ok one) → PutsOne (task_of limit keys) new db (Ok one)
    cleared limit keys db new [] one h = h
    cleared limit keys db new (x ∷ more) one h = h

    pub tried : (limit : Option ℕ) (keys : Keys) (db : Trees) (top : ℤ) (one : Written) → IsShaped shape.TheVariants.Table (db table.tree)
        → ((r : Row) → Has (db table.tree) r → list_all is_plain (key_at table r) ≡ true)
        → Tries (task_of limit keys) Abort upsert (new_row top db) db (Ok one)
        → Puts table (db table.tree) (one.trees table.tree) k v × Leaves schema table db one.trees
    tried limit keys db top one shaped whole (inl refused) = absurd (let e = refused.1 in cc)
    tried limit keys db top one shaped whole (inr (Some why, judged, never)) = absurd (let e = never in cc)
    tried limit keys db top one shaped whole (inr (None, judged, ([], met, (others, clear, puts)))) =
        put_new limit keys db top one whole met (cleared limit keys db (new_row top db) others one puts)
    tried limit keys db top one shaped whole (inr (None, judged, (there ∷ more, met, resolves))) =
        let new = new_row top db in
        let r = met.sound there (inl refl) in
        let key : key_at table r.0 ≡ k =
        agree_same table.primary r.0 new (whole r.0 r.1) (ap (list_all is_plain) (new_key top db) ∙ fills.plain_key)
        (sym (fixed.target r.0 new) ∙ r.2) ∙ new_key top db in
        let q : Program = record { lets = []; body = over table.tree (id_test id_place) shows } in
        let updates = subst (λ w. Updates (task_of limit keys) q (params ++ w ∷ shown table new) db (Ok one)) (ap rowid r.3) resolves in
        let answer = went updates in
        let next = went answer.2 in
        let trees : one.trees ≡ next.0 = ap (λ (it : Written). it.trees) (same_value next.2) in
        subst (λ t. Puts table (db table.tree) (t table.tree) k v × Leaves schema table db t) (sym trees)
        (replaced keys db next.0 r.0 new answer.0 shaped r.1 key answer.1.answer next.1)

    abbrev pub put_command : Command
    put_command = InsertOr at Abort (Values terms width) upsert

    uncounted : (limit : Option ℕ) (keys : Keys) (db : Trees) (counter : Option Row) (top : ℤ) (next : Trees)
        → Counts (task_of limit keys) db counter top (Ok next) → next ≡ db
    uncounted limit keys db counter top next h = same_value (rw fixed.uncounted at h)

    inserts : (limit : Option ℕ) (keys : Keys) (db : Trees) (a : Written) → IsShaped shape.TheVariants.Table (db table.tree)
        → ((r : Row) → Has (db table.tree) r → list_all is_plain (key_at table r) ≡ true)
        → InsertsOr (task_of limit keys) Abort upsert (Values terms width) db (Ok a)
        → Puts table (db table.tree) (a.trees table.tree) k v × Leaves schema table db a.trees
    inserts limit keys db a shaped whole h =
        let sourced = went h in
        let counted = went sourced.2 in
        let each = went counted.2 in
        let all : sourced.0 ≡ fills.source ∷ [] = sourced.1.1 ∙ fills.once in
        let top = count_of counted.0 in
        let one = went (subst (λ rows. TriesEach (task_of limit keys) Abort upsert rows top (nothing db) (Ok each.0)) all each.1) in
        let last = went each.2 in
        let tallied : each.0 ≡ (joined (nothing db) one.0, higher top (new_row top db)) = same_value one.2 in
        let same : a.trees ≡ one.0.trees =
        ap (λ (w : Written). w.trees) (same_value last.2) ∙ uncounted limit keys each.0.0.trees counted.0 each.0.1 last.0 last.1
        ∙ ap (λ (p : Written × ℤ). p.0.trees) tallied in
        subst (λ t. Puts table (db table.tree) (t table.tree) k v × Leaves schema table db t) (sym same) (tried limit keys db top one.0 shaped whole one.1)

    pub put_done : (text : List ℕ) (old new : State) (count : ℕ) → old.now.schema ≡ schema
        → command_of (understood schema text) ≡ put_command → IsPlain (understood schema text)
        → IsShaped shape.TheVariants.Table (old.now.trees table.tree)
        → ((r : Row) → Has (old.now.trees table.tree) r → list_all is_plain (key_at table r) ≡ true)
        → Executes text params old new (Ok count)
        → (new.now.schema ≡ schema) × Puts table (old.now.trees table.tree) (new.now.trees table.tree) k v × Leaves schema table old.now.trees new.now.trees
        × Shows old new new.now (if old.in_transaction then old.committed else new.now) old.in_transaction × IsDatabase new.now × (new.marks ≡ old.marks)
    put_done text old new count has is bare shaped whole h =
        let w = runs_as text params old new schema has put_command is bare count h in
        let sql = statement_of text (understood schema text) in
        let changed = subst (λ s. Does old.step_limit (mode_of old) params (record old.now { schema = s }) sql None put_command
        (Ok (w.tally, new.now))) has w.changed in
        let done = went (rw fixed.listed at changed) in
        let now : new.now ≡ record { schema = schema; trees = done.0.trees } = ap (λ (p : Tally × Database). p.1) (same_value (went (went done.2).2).2) in
        let it = inserts old.step_limit Enforced old.now.trees done.0 shaped whole done.1 in
        let trees = ap (λ (d : Database). d.trees) now in (
          ap (λ (d : Database). d.schema) now,
          subst (λ t. Puts table (old.now.trees table.tree) (t table.tree) k v) (sym trees) it.0,
          subst (λ t. Leaves schema table old.now.trees t) (sym trees) it.1,
          w.shown,
          w.sound,
          w.marks,
        )
