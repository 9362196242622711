-- What a delete and a look-up by key do, for any table.
use Rattle.std.proofs.Common.{◌≡◌, ◌&&◌, ℕ, true, List, [], ◌∷◌, map, None, Ok, refl, sym, ap, subst, ◌∙◌, true≢false}
use Rattle.std.specs.Prelude.{if◌then◌else◌}
use Rattle.std.specs.List.{list_all}
use Rattle.std.proofs.lemmas.Bool.{and_parts, and_from, false_from_ne_true}
use Rattle.sqlite.specs.declared.types.Value.TheVariants.{Int}
use Rattle.sqlite_value.specs.declared.value.Value.{Value}
use Rattle.sqlite_value.specs.declared.keys.Collation.TheVariants.{Binary}
use Rattle.sqlite.specs.Order.{Row, column}
use Rattle.sqlite.specs.Term.{Term, col, op2}
use Rattle.sqlite_sql.specs.declared.ops.BinaryOp.TheVariants.{Compare}
use Rattle.sqlite_sql.specs.declared.ops.CompareOp.TheVariants.{Eq}
use Rattle.sqlite.specs.Table.{Table}
use Rattle.sqlite.specs.Schema.{Schema}
use Rattle.sqlite_trees.specs.declared.store.Shape.TheVariants as shape
use Rattle.sqlite_trees.specs.Tree.{Trees, rowid}
use Rattle.sqlite_trees.specs.View.{IsShaped}
use Rattle.sqlite_schema.specs.declared.schema.Keys.{Keys}
use Rattle.sqlite_schema.specs.declared.schema.Keys.TheVariants.{Enforced}
use Rattle.sqlite_schema.specs.Rules.{equal}
use Rattle.sqlite_rules.specs.Lists.{Has}
use Rattle.sqlite_rules.specs.Edit.{id_in, edit_of, without_all}
use Rattle.sqlite_rules.specs.Calls.{ids_of}
use Rattle.sqlite_rules.specs.declared.error.Rowids.TheVariants.{Given}
use Rattle.sqlite_rules.proofs.TableLemmas.{without_all_has, int_is}
use Rattle.sqlite_rules.proofs.ProbeLemmas.{has_mapped, mapped_has}
use Rattle.sqlite.specs.Command.{Command}
use Rattle.sqlite.specs.Command.TheVariants.{Delete}
use Rattle.sqlite.specs.Program.{IsProgramAnswer}
use Rattle.sqlite.specs.Effect.{Database, IsDatabase}
use Rattle.sqlite.specs.Rows.{Edited, Written}
use Rattle.sqlite.specs.Does.{Does, Tally}
use Rattle.sqlite.specs.Listing.{understood}
use Rattle.sqlite.specs.State.{State, Executes, Shows, mode_of}
use Rattle.sqlite.proofs.Callers.{command_of, statement_of, runs_as, IsPlain}
use Rattle.sql_maps.specs.Maps.{key_at, is_plain, Maps, Holds, take_at}
use Rattle.sql_maps.proofs.Words.{over, Takes}
use Rattle.sql_maps.proofs.AnswerLemmas.{passes, answer_has, has_answer}
use Rattle.sql_maps.proofs.KeyLemmas.{equal_same, same_equal}
use Rattle.sql_maps.proofs.RowsLemmas.{left_apart, left_has, shaped_left, rowid_is, is_rowid, int_at, one_row}
use Rattle.sql_maps.proofs.WriteLemmas.{Fixed, Leaves, went, same_value, edit_done}
use Rattle.sql_maps.proofs.MapLemmas.{are_apart, takes_map, holds_after}

-- the tests of WHERE find the row with the key
pub record Finds (table : Table) (tests : List Term) (params k : Row) : Type 0 where
  pub plain_key : list_all is_plain k ≡ true
  pub hit : (r : Row) → list_all is_plain (key_at table r) ≡ true → passes tests params r ≡ true → key_at table r ≡ k
  pub hits : (r : Row) → key_at table r ≡ k → passes tests params r ≡ true

abbrev pub rowids_shown : List Term
rowids_shown = col 1 0 ∷ []

module _ (schema : Schema) (at : ℕ) (table : Table) (fixed : Fixed schema at table) (tests : List Term) (params k : Row)
    (finds : Finds table tests params k) where
  abbrev pub take_command : Command
  take_command = Delete at (record { lets = []; body = over table.tree tests rowids_shown })

  removed : (keys : Keys) (db next : Trees) (rows : List Row) → IsShaped shape.Table (db table.tree)
      → ((r : Row) → Has (db table.tree) r → list_all is_plain (key_at table r) ≡ true)
      → IsProgramAnswer [] (over table.tree tests rowids_shown) db params rows
      → Edited schema keys db (edit_of db table (ids_of rows) Given 0 []) (Ok next) → Takes table (db table.tree) (next table.tree) k
      × Leaves schema table db next
  removed keys db next rows shaped whole answer h =
      let a = edit_done schema at table fixed keys db next (edit_of db table (ids_of rows) Given 0 []) h in
      let trees : next table.tree ≡ without_all (db table.tree) (ids_of rows) = a.rows in (
        record {
          rest = λ x h.
              let left = subst (λ l. Has l x) trees h in
              let old = without_all_has (ids_of rows) (db table.tree) x left in (
                old,
                λ same.
                    let one = has_answer table.tree tests rowids_shown db params rows answer x old (finds.hits x same) in
                    let gone = mapped_has (λ r. id_in (rowid r)) rows (rowid x ∷ []) one in
                    true≢false (sym (is_rowid (id_in (rowid x)) x (int_is (rowid x) (int_at (db table.tree) x shaped old)))
                    ∙ left_apart (ids_of rows) (db table.tree) x left (id_in (rowid x)) gone),
              );
          kept = λ x old other. subst (λ l. Has l x) (sym trees) (left_has (ids_of rows) (db table.tree) x old (λ i in_ids. false_from_ne_true _ (λ clash.
              let s = has_mapped (λ r. id_in (rowid r)) rows i in_ids in
              let r = answer_has table.tree tests rowids_shown db params rows answer s.0 s.1 in
              let id : i ≡ id_in (rowid r.0) = s.2 ∙ ap (λ row. id_in (rowid row)) r.3 in
              let alike : rowid x ≡ rowid r.0 = rowid_is i x (int_at (db table.tree) x shaped old) clash ∙ ap Int id
              ∙ sym (int_is (rowid r.0) (int_at (db table.tree) r.0 shaped r.1)) in
              let same = one_row (db table.tree) x r.0 shaped.0 old r.1 alike in
              other (ap (key_at table) same ∙ finds.hit r.0 (whole r.0 r.1) r.2))));
        },
        record {
          shaped = λ s. subst (IsShaped shape.Table) (sym trees) (shaped_left (ids_of rows) (db table.tree) s);
          others = a.tables;
        },
      )

  pub take_done : (text : List ℕ) (old new : State) (count : ℕ) → old.now.schema ≡ schema
      → command_of (understood schema text) ≡ take_command → IsPlain (understood schema text)
      → IsShaped shape.Table (old.now.trees table.tree) → ((r : Row) → Has (old.now.trees table.tree) r → list_all is_plain (key_at table r) ≡ true)
      → Executes text params old new (Ok count)
      → (new.now.schema ≡ schema) × Takes table (old.now.trees table.tree) (new.now.trees table.tree) k × Leaves schema table old.now.trees new.now.trees
      × Shows old new new.now (if old.in_transaction then old.committed else new.now) old.in_transaction × IsDatabase new.now × (new.marks ≡ old.marks)
  take_done text old new count has is bare shaped whole h =
      let w = runs_as text params old new schema has take_command is bare count h in
      let sql = statement_of text (understood schema text) in
      let changed = subst (λ s. Does old.step_limit (mode_of old) params (record old.now { schema = s }) sql None take_command
      (Ok (w.tally, new.now))) has w.changed in
      let done = went (rw fixed.listed at changed) in
      let now : new.now ≡ record { schema = schema; trees = done.0.trees } = ap (λ (p : Tally × Database). p.1) (same_value (went (went done.2).2).2) in
      let rows = went done.1 in
      let next = went rows.2 in
      let trees : done.0.trees ≡ next.0 = ap (λ (it : Written). it.trees) (same_value next.2) in
      let it = removed Enforced old.now.trees next.0 rows.0 shaped whole rows.1.answer next.1 in
      let all = ap (λ (d : Database). d.trees) now ∙ trees in (
        ap (λ (d : Database). d.schema) now,
        subst (λ (t : Trees). Takes table (old.now.trees table.tree) (t table.tree) k) (sym all) it.0,
        subst (λ (t : Trees). Leaves schema table old.now.trees t) (sym all) it.1,
        w.shown,
        w.sound,
        w.marks,
      )

  pub take_holds : are_apart schema.tables ≡ true → (text : List ℕ) → command_of (understood schema text) ≡ take_command
      → IsPlain (understood schema text) → (old new : State) (count : ℕ)
      → Executes text params old new (Ok count) → (maps : Maps) → Holds schema old.now maps → Holds schema new.now (take_at maps at k)
  take_holds apart text is bare old new count h maps holds =
      let is_map = holds.tables at table fixed.listed in
      let did = take_done text old new count holds.schema_is is bare is_map.shaped is_map.plain h in
      let after = takes_map table (old.now.trees table.tree) (new.now.trees table.tree) (maps at) k is_map finds.plain_key did.1 (did.2.shaped is_map.shaped) in
      holds_after schema at table old.now new.now maps _ apart fixed.listed holds did.4 did.0 did.2 after

-- WHERE a = ?1
pub finds_one : (table : Table) (a : Value) → table.primary ≡ 0 ∷ [] → is_plain a ≡ true
    → Finds table (op2 (Compare Eq Binary) (col 1 0) (col 0 0) ∷ []) (a ∷ []) (a ∷ [])
finds_one table a primary plain = record {
  plain_key = and_from _ _ plain refl;
  hit = λ r whole good.
      let key : key_at table r ≡ rowid r ∷ [] = ap (map (column r)) primary in
      let first = (and_parts _ _ (sym (ap (list_all is_plain) key) ∙ whole)).0 in
      key ∙ ap (λ v. v ∷ []) (equal_same (rowid r) a first plain (and_parts (equal Binary (rowid r) a) true good).0);
  hits = λ r same.
      let key : key_at table r ≡ rowid r ∷ [] = ap (map (column r)) primary in
      let pair = sym key ∙ same in
      let is : rowid r ≡ a = cc in
      and_from (equal Binary (rowid r) a) true (ap (λ v. equal Binary v a) is ∙ same_equal a plain) refl;
}

-- WHERE a = ?1 AND b = ?2
pub finds_two : (table : Table) (a b : Value) → table.primary ≡ 1 ∷ 2 ∷ [] → is_plain a ≡ true → is_plain b ≡ true
    → Finds table (op2 (Compare Eq Binary) (col 1 1) (col 0 0) ∷ op2 (Compare Eq Binary) (col 1 2) (col 0 1) ∷ []) (a ∷ b ∷ []) (a ∷ b ∷ [])
finds_two table a b primary p q = record {
  plain_key = and_from _ _ p (and_from _ _ q refl);
  hit = λ r whole good.
      let key : key_at table r ≡ column r 1 ∷ column r 2 ∷ [] = ap (map (column r)) primary in
      let plains = and_parts (is_plain (column r 1)) (list_all is_plain (column r 2 ∷ [])) (sym (ap (list_all is_plain) key) ∙ whole) in
      let tests = and_parts (equal Binary (column r 1) a) (list_all (λ t. t) (equal Binary (column r 2) b ∷ [])) good in
      let first = equal_same (column r 1) a plains.0 p tests.0 in
      let second = equal_same (column r 2) b (and_parts _ _ plains.1).0 q (and_parts _ _ tests.1).0 in
      key ∙ rw (first, second) refl;
  hits = λ r same.
      let key : key_at table r ≡ column r 1 ∷ column r 2 ∷ [] = ap (map (column r)) primary in
      let pair = sym key ∙ same in
      let first : column r 1 ≡ a = cc in
      let second : column r 2 ≡ b = cc in
      and_from (equal Binary (column r 1) a) (equal Binary (column r 2) b && true) (ap (λ v. equal Binary v a) first ∙ same_equal a p)
      (and_from (equal Binary (column r 2) b) true (ap (λ v. equal Binary v b) second ∙ same_equal b q) refl);
}
