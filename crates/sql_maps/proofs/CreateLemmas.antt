-- What CREATE TABLE and CREATE INDEX do to a database.
use Rattle.std.proofs.Common.{arith, ◌≡◌, ◌≤◌, ◌⊎◌, inl, inr, length, ℕ, zero, suc, false, List, [], ◌∷◌, ◌++◌, slice_get, Some, None, Ok}
use Rattle.std.proofs.Common.{Err, Result, true≢false, sym, ap, subst, ◌∙◌}
use Rattle.std.specs.Prelude.{OnOk, is_ok}
use Rattle.sqlite.specs.Order.{Row}
use Rattle.sqlite.specs.Table.{Table}
use Rattle.sqlite.specs.Schema.{Schema}
use Rattle.sqlite.specs.Change.{created, indexed, next_tree, KeepsRows}
use Rattle.sqlite.specs.Compile.{table_defined_by}
use Rattle.sqlite_resolve.specs.Compile.{index_defined_by}
use Rattle.sqlite_schema.specs.declared.schema.Index.{Index}
use Rattle.sqlite.specs.Command.TheVariants.{CreateTable, CreateIndex}
use Rattle.sqlite.specs.Effect.{Database, IsDatabase}
use Rattle.sqlite.specs.Does.{Tally, Does, lacks_sequence}
use Rattle.sqlite.specs.Listing.{understood}
use Rattle.sqlite.specs.State.{State, mode_of, Writes, Executes, ExecutesIn, ExecutesInside, KeepsCommit}
use Rattle.sqlite.specs.declared.error.Error.{Error}
use Rattle.sqlite_rules.proofs.ListLemmas.{all_has, has_got}
use Rattle.sqlite.proofs.Callers.{IsPlain, command_of, statement_of, runs_as}
use Rattle.sql_maps.specs.Maps.{Map, Maps, IsMap, IsFreeFrom, Holds, Moves}
use Rattle.sql_maps.proofs.WriteLemmas.{went, same_value}

no_rows : (table : Table) (m : Map) → ((k : Row) → m k ≡ None) → IsMap table [] m
no_rows table m none = record {
  shaped = (tt, tt);
  plain = λ r h. absurd h;
  sound = λ r h. absurd h;
  whole = λ k v e. absurd (let h = sym (none k) ∙ e in cc);
  alone = λ r s h k same. absurd h;
}

got_pushed : {X : Type 0} (xs : List X) (x y : X) (i : ℕ) → slice_get (xs ++ x ∷ []) i ≡ Some y → (slice_get xs i ≡ Some y) ⊎ ((y ≡ x) × (length xs ≤ i))
got_pushed [] x y zero h = inr ((let e = h in cc), omega arith)
got_pushed [] x y (suc i) h = absurd (let e = h in cc)
got_pushed (z ∷ xs) x y zero h = inl h
got_pushed (z ∷ xs) x y (suc i) h = elim (got_pushed xs x y i h) [
  | inl was ↦ inl was
  | inr new ↦ inr (new.0, let more = new.1 in omega (arith, more))
]

-- what has to be computed of the text
pub record Makes (before : Schema) (text : List ℕ) (defined : Table) : Type 0 where
  pub command : command_of (understood before text) ≡ CreateTable
  pub bare : IsPlain (understood before text)
  pub whole : statement_of text (understood before text) ≡ text
  pub is : table_defined_by text ≡ Ok defined
  pub uncounted : lacks_sequence (created before defined) ≡ false

-- a table is made after all others, which keep their rows
pub made : (before : Schema) (text : List ℕ) (defined : Table) → Makes before text defined → (old new : State) (count : ℕ) (maps : Maps)
    → IsFreeFrom (length before.tables) maps → Holds before old.now maps
    → Executes text [] old new (Ok count) → Holds (created before defined) new.now maps
made before text defined makes old new count maps free holds h =
    let w = subst (λ t. Writes old new None CreateTable t [] count) makes.whole
    (runs_as text [] old new before holds.schema_is CreateTable makes.command makes.bare count h) in
    let all = went w.changed in
    let first = went all.1 in
    let it = first.1 in
    let both : Ok it.table ≡ Ok defined = sym it.defined ∙ makes.is in
    let same : it.table ≡ defined = cc in
    let schema_is : first.0.schema ≡ created before defined = it.is ∙ ap (λ s. created s it.table) holds.schema_is ∙ ap (created before) same in
    let plain : lacks_sequence first.0.schema ≡ false = ap lacks_sequence schema_is ∙ makes.uncounted in
    let now : new.now ≡ first.0 = ap (λ (p : Tally × Database). p.1) (same_value all.2) ∙ same_value (rw plain at first.2) in
    let empty : first.0.trees (next_tree before) ≡ [] = subst (λ s. first.0.trees (next_tree s) ≡ []) holds.schema_is it.empty in
    let kept : KeepsRows before.tables old.now.trees first.0.trees =
    subst (λ (s : Schema). KeepsRows s.tables old.now.trees first.0.trees) holds.schema_is it.others in
    subst (λ d. Holds (created before defined) d maps) (sym now) (record {
      sound = subst IsDatabase now w.sound;
      schema_is = schema_is;
      tables = λ i t there. elim (got_pushed before.tables (record defined { tree = next_tree before }) t i there) [
        | inl was ↦ subst (λ rows. IsMap t rows (maps i)) (sym (all_has _ before.tables t kept (has_got before.tables i t was))) (holds.tables i t was)
        | inr new ↦ subst (λ rows. IsMap t rows (maps i)) (sym (ap first.0.trees (ap (λ (u : Table). u.tree) new.0) ∙ empty))
            (no_rows t (maps i) (free i new.1))
      ];
    })

-- no text runs that isn't understood
pub not_understood : (schema : Schema) (text : List ℕ) → is_ok (understood schema text) ≡ false → (old new : State) (count : ℕ)
    → old.now.schema ≡ schema → Executes text [] old new (Ok count) → ⊥
unfolding ExecutesIn
not_understood schema text none old new count has ran =
    let known : Ok ran.0 ≡ understood schema text = sym ran.1.is ∙ ap (λ s. understood s text) has in
    true≢false (ap is_ok known ∙ none)

-- what has to be computed of the text of an index
pub record Indexes (before : Schema) (at : ℕ) (table : Table) (text : List ℕ) (defined : Index) : Type 0 where
  pub command : command_of (understood before text) ≡ CreateIndex at
  pub bare : IsPlain (understood before text)
  pub whole : statement_of text (understood before text) ≡ text
  pub listed : slice_get before.tables at ≡ Some table
  pub is : index_defined_by table text ≡ Ok defined

-- an index changes the schema, and no row of a table
pub index_made : (before : Schema) (at : ℕ) (table : Table) (text : List ℕ) (defined : Index) → Indexes before at table text defined
    → (old new : State) (count : ℕ) (maps : Maps) → Holds before old.now maps
    → Executes text [] old new (Ok count) → Holds (indexed before table defined) new.now maps
index_made before at table text defined makes old new count maps holds h =
    let w = subst (λ t. Writes old new None (CreateIndex at) t [] count) makes.whole
    (runs_as text [] old new before holds.schema_is (CreateIndex at) makes.command makes.bare count h) in
    let changed = subst (λ s. Does old.step_limit (mode_of old) [] (record old.now { schema = s }) text None (CreateIndex at)
    (Ok (w.tally, new.now))) holds.schema_is w.changed in
    let all = went (rw makes.listed at changed) in
    let it = all.1 in
    let both : Ok it.index ≡ Ok defined = sym it.defined ∙ makes.is in
    let same : it.index ≡ defined = cc in
    let schema_is : all.0.schema ≡ indexed before table defined = it.is ∙ ap (indexed before table) same in
    let now : new.now ≡ all.0 = ap (λ (p : Tally × Database). p.1) (same_value all.2) in
    subst (λ d. Holds (indexed before table defined) d maps) (sym now) (record {
      sound = subst IsDatabase now w.sound;
      schema_is = schema_is;
      tables = λ i t there. subst (λ rows. IsMap t rows (maps i))
          (sym (all_has _ before.tables t it.rows (has_got before.tables i t there))) (holds.tables i t there);
    })

-- the text takes the database from one schema to another, and its tables keep their rows
abbrev pub Step : Schema → List ℕ → Schema → Type 1
Step before text after = (old new : State) (count : ℕ) (maps : Maps) → IsFreeFrom (length before.tables) maps → Holds before old.now maps
    → Executes text [] old new (Ok count) → Holds after new.now maps

-- each of the texts, in turn
abbrev pub Each : (ℕ → Schema) → List (List ℕ) → Type 1
Each f [] = Unit {1}
Each f (text ∷ more) = Step (f 0) text (f 1) × Each (λ n. f (suc n)) more

-- the step of a text by its place
pub got : (f : ℕ → Schema) (texts : List (List ℕ)) (at : ℕ) (text : List ℕ) → Each f texts → slice_get texts at ≡ Some text → Step (f at) text (f (suc at))
got f [] at text each is = absurd (let e = is in cc)
got f (t ∷ more) zero text each is = let same : t ≡ text = cc in subst (λ s. Step (f 0) s (f 1)) same each.0
got f (t ∷ more) (suc at) text each is = got (λ n. f (suc n)) more at text each.1 is

-- one text inside a transaction
pub inside_moves : (before after : Schema) (text : List ℕ) → Step before text after → (old new : State) (r : Result ℕ Error)
    → ExecutesInside 0 text [] old new r → OnOk r (Moves before after old new)
inside_moves before after text step old new (Ok count) h =
    record { maps = λ maps free holds. step old new count maps free holds h.0; is_inside = h.1.mode; committed = h.1.committed_is }
inside_moves before after text step old new (Err e) h = tt

pub keeps_then : (a b c : State) → KeepsCommit a b → KeepsCommit b c → KeepsCommit a c
keeps_then a b c one two = record { was_open = λ h. one.was_open (two.was_open h); committed = λ h. two.committed h ∙ one.committed (two.was_open h) }

pub moves_then : (before mid after : Schema) → length before.tables ≤ length mid.tables → (a b c : State) → Moves before mid a b
    → Moves mid after b c → Moves before after a c
moves_then before mid after more a b c one two =
    record {
      maps = λ maps free h. two.maps maps (λ at least. free at (omega (arith, more, least))) (one.maps maps free h);
      is_inside = two.is_inside;
      committed = two.committed ∙ one.committed;
    }

pub run_moves : (before after : Schema) (text : List ℕ) → Step before text after → (old new : State) → (count : ℕ)
    × ExecutesInside 0 text [] old new (Ok count) → Moves before after old new
run_moves before after text step old new h =
    record { maps = λ maps free holds. step old new h.0 maps free holds h.1.0; is_inside = h.1.1.mode; committed = h.1.1.committed_is }
