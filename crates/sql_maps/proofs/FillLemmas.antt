-- The upsert of one row, at each shape of table.
use Rattle.std.proofs.Common.{◌≡◌, ℕ, ℤ, Bool, true, false, cond, List, [], ◌∷◌, map, refl, sym, ap, ◌∙◌, true≢false, drop, length, ◌/◌, ◌&&◌, ◌++◌}
use Rattle.sqlite.specs.declared.types.Value.TheVariants.{Null, Int, Text}
use Rattle.sqlite_value.specs.declared.value.Value.{Value}
use Rattle.sqlite.specs.Order.{Row, column}
use Rattle.sqlite_sql.specs.Ops.{unary}
use Rattle.sqlite.specs.Term.{Term}
use Rattle.sqlite.specs.Kind.{Kind}
use Rattle.sqlite.specs.Kind.TheVariants.{Integer, Text as TextKind}
use Rattle.sqlite_schema.specs.declared.schema.Column.{Column}
use Rattle.sqlite.specs.Table.{Table}
use Rattle.sqlite_trees.specs.Tree.{rowid}
use Rattle.sqlite_rules.specs.Edit.{id_in, next_rowid, with_rowid}
use Rattle.sqlite_rules.specs.declared.error.Rowids.TheVariants.{Chosen, Above}
use Rattle.sqlite.specs.Rows.{stamped, shown, rowids_for}
use Rattle.sqlite.specs.Effect.{value_rows}
use Rattle.sql_maps.specs.Maps.{cells, is_plain}
use Rattle.sql_maps.proofs.AnswerLemmas.{shown_of}
use Rattle.std.proofs.lemmas.Bool.{and_parts}
use Rattle.sqlite_rules.specs.Cast.{cast, cast_all, cast_row}
use Rattle.sql_maps.proofs.WriteLemmas.{Fills}

either : (b : Bool) (x : Value) → cond b x x ≡ x
either true x = refl
either false x = refl

pub cast_null : cast Integer Null ≡ Null
unfolding unary
cast_null = either _ Null

pub cast_int : (n : ℤ) → cast Integer (Int n) ≡ Int n
unfolding unary
cast_int n = either _ (Int n)

-- the column takes the value as it is
abbrev pub suits_kind : Kind → Value → Bool
suits_kind Integer Null = true
suits_kind Integer (Int n) = true
suits_kind TextKind Null = true
suits_kind TextKind (Text t) = true
suits_kind _ _ = false

abbrev pub suit : List Column → Row → Bool
suit [] [] = true
suit (c ∷ cs) (v ∷ vs) = suits_kind c.kind v && suit cs vs
suit _ _ = false

pub cast_same : (k : Kind) (v : Value) → suits_kind k v ≡ true → cast k v ≡ v
cast_same Integer Null h = cast_null
cast_same Integer (Int n) h = cast_int n
cast_same TextKind Null h = refl
cast_same TextKind (Text t) h = refl
cast_same _ _ h = absurd (true≢false (sym h))

cast_all_same : (cs : List Column) (vs : Row) → suit cs vs ≡ true → cast_all cs vs ≡ vs
cast_all_same [] [] h = refl
cast_all_same [] (v ∷ vs) h = absurd (true≢false (sym h))
cast_all_same (c ∷ cs) [] h = refl
cast_all_same (c ∷ cs) (v ∷ vs) h = let parts = and_parts (suits_kind c.kind v) (suit cs vs) h in rw (cast_same c.kind v parts.0, cast_all_same cs vs parts.1)

pub row_same : (table : Table) (x : Value) (vs : Row) → suits_kind Integer x ≡ true → suit table.columns vs ≡ true → cast_row table (x ∷ vs) ≡ x ∷ vs
row_same table x vs p h = rw (cast_same Integer x p, cast_all_same table.columns vs h)

chosen_as : (table : Table) → table.is_counted ≡ false → (top : ℤ) (rows : List Row) (row : Row)
    → with_rowid (rowids_for table top) rows row ≡ with_rowid Chosen rows row
chosen_as table uncounted top rows row = ap (λ b. with_rowid (cond b (Above top) Chosen) rows row) uncounted

-- a table that is keyed by its rowid
module _ (table : Table) (b : ℤ) (vs : Row) (terms shows : List Term) (width place : ℕ) (uncounted : table.is_counted ≡ false)
    (primary : table.primary ≡ 0 ∷ []) (suits : suit table.columns (Null ∷ vs) ≡ true)
    (once : value_rows (stamped table (Int b ∷ vs)) width (length terms / width) terms ≡ (Int b ∷ Null ∷ vs) ∷ [])
    (id_at : (there : Value) (rest : Row) → column ((Int b ∷ vs) ++ there ∷ rest) place ≡ there)
    (shows_are : (there : Value) (r new : Row) → shown_of shows ((Int b ∷ vs) ++ there ∷ shown table new) r ≡ rowid r ∷ rowid r ∷ Null ∷ vs)
    (cells_are : (id : ℤ) → cells table (Int id ∷ Null ∷ vs) ≡ Int id ∷ vs) where
  pub single_fills : Fills table (Int b ∷ vs) terms shows width place (Int b ∷ []) (Int b ∷ vs)
  single_fills = record {
    source = Int b ∷ Null ∷ vs;
    stored = λ id. Int id ∷ Null ∷ vs;
    plain_key = refl;
    once = once;
    chosen = λ top rows. (
      b,
      chosen_as table uncounted top rows (cast_row table (Int b ∷ Null ∷ vs))
          ∙ ap (with_rowid Chosen rows) (row_same table (Int b) (Null ∷ vs) refl suits),
      ap (map (column (Int b ∷ Null ∷ vs))) primary,
    );
    id_at = id_at;
    again = λ id there r new e same. ap (λ row. cast_row table (drop 1 row)) (shows_are there r new ∙ ap (λ v. rowid r ∷ v ∷ Null ∷ vs) e)
        ∙ row_same table (Int id) (Null ∷ vs) refl suits;
    first = λ there r new. ap (λ row. id_in (rowid row)) (shows_are there r new);
    same_key = λ id r e same. ap (map (column (Int id ∷ Null ∷ vs))) primary ∙ ap (λ v. v ∷ []) (sym e) ∙ sym (ap (map (column r)) primary) ∙ same;
    firm = λ id. row_same table (Int id) (Null ∷ vs) refl suits;
    cells_are = λ id same. let key : Int id ∷ [] ≡ Int b ∷ [] = sym (ap (map (column (Int id ∷ Null ∷ vs))) primary) ∙ same in
        let is : id ≡ b = cc in cells_are id ∙ ap (λ n. Int n ∷ vs) is;
    id_is = λ id. refl;
  }

-- a table that is keyed by two columns
module _ (table : Table) (a c : Value) (vs : Row) (terms shows : List Term) (width place : ℕ) (uncounted : table.is_counted ≡ false)
    (primary : table.primary ≡ 1 ∷ 2 ∷ []) (suits : suit table.columns (a ∷ c ∷ vs) ≡ true)
    (plain_a : is_plain a ≡ true) (plain_c : is_plain c ≡ true)
    (once : value_rows (stamped table (a ∷ c ∷ vs)) width (length terms / width) terms ≡ (Null ∷ a ∷ c ∷ vs) ∷ [])
    (id_at : (there : Value) (rest : Row) → column ((a ∷ c ∷ vs) ++ there ∷ rest) place ≡ there)
    (shows_are : (there : Value) (r new : Row) → column r 1 ≡ a → column r 2 ≡ c
    → shown_of shows ((a ∷ c ∷ vs) ++ there ∷ shown table new) r ≡ rowid r ∷ rowid r ∷ a ∷ c ∷ vs)
    (first : (there : Value) (r new : Row) → id_in (rowid (shown_of shows ((a ∷ c ∷ vs) ++ there ∷ shown table new) r)) ≡ id_in (rowid r))
    (cells_are : (id : ℤ) → cells table (Int id ∷ a ∷ c ∷ vs) ≡ a ∷ c ∷ vs) where
  pub double_fills : Fills table (a ∷ c ∷ vs) terms shows width place (a ∷ c ∷ []) (a ∷ c ∷ vs)
  double_fills = record {
    source = Null ∷ a ∷ c ∷ vs;
    stored = λ id. Int id ∷ a ∷ c ∷ vs;
    plain_key = rw (plain_a, plain_c) refl;
    once = once;
    chosen = λ top rows. (
      next_rowid rows,
      chosen_as table uncounted top rows (cast_row table (Null ∷ a ∷ c ∷ vs))
          ∙ ap (with_rowid Chosen rows) (row_same table Null (a ∷ c ∷ vs) refl suits),
      ap (map (column (Int (next_rowid rows) ∷ a ∷ c ∷ vs))) primary,
    );
    id_at = id_at;
    again = λ id there r new e same.
        let key : column r 1 ∷ column r 2 ∷ [] ≡ a ∷ c ∷ [] = sym (ap (map (column r)) primary) ∙ same in
        let first : column r 1 ≡ a = cc in
        let second : column r 2 ≡ c = cc in
        ap (λ row. cast_row table (drop 1 row)) (shows_are there r new first second ∙ ap (λ v. rowid r ∷ v ∷ a ∷ c ∷ vs) e)
        ∙ row_same table (Int id) (a ∷ c ∷ vs) refl suits;
    first = first;
    same_key = λ id r e same. ap (map (column (Int id ∷ a ∷ c ∷ vs))) primary;
    firm = λ id. row_same table (Int id) (a ∷ c ∷ vs) refl suits;
    cells_are = λ id same. cells_are id;
    id_is = λ id. refl;
  }
