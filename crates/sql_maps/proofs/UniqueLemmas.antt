-- A key names one row, by the rowid or by a unique index.
use Rattle.std.proofs.Common.{◌≡◌, inl, inr, ℕ, Bool, true, false, not, ◌&&◌, ◌||◌, cond, List, [], ◌∷◌, slice_get, Some, refl, sym, ap}
use Rattle.std.proofs.Common.{◌∙◌, true≢false, Ordering, Less, Equal, Greater}
use Rattle.std.specs.Ordering.{is_eq, is_ne}
use Rattle.std.specs.List.{list_any}
use Rattle.std.proofs.lemmas.Bool.{and_parts, or_parts}
use Rattle.sqlite.specs.declared.types.Value.TheVariants.{Null}
use Rattle.sqlite_value.specs.declared.value.Value.{Value}
use Rattle.sqlite.specs.Order.{Row}
use Rattle.sqlite_value.specs.Order.{value_cmp}
use Rattle.sqlite_value.specs.Keys.{plain, first_key}
use Rattle.sqlite_value.specs.declared.keys.Collation.TheVariants.{Binary}
use Rattle.sqlite.specs.Table.{Table}
use Rattle.sqlite.specs.Schema.{Schema}
use Rattle.sqlite_trees.specs.Tree.{Trees, rowid}
use Rattle.sqlite_sql.specs.Ops.{binary, is_null, is_true, from_truth}
use Rattle.sqlite_schema.specs.declared.schema.Index.{Index}
use Rattle.sqlite_schema.specs.declared.schema.Constraint.TheVariants.{Unique}
use Rattle.sqlite_schema.specs.Rules.{equal, differ, agree, Fits, guards, clashes}
use Rattle.sqlite_rules.specs.Lists.{Has}
use Rattle.sqlite_rules.proofs.ListLemmas.{all_has, test_has, has_got}

equal_not_differ : (a b : Value) → equal Binary a b ≡ true → differ a b ≡ false
unfolding binary
equal_not_differ a b h = go (is_null a || is_null b) (value_cmp a b) h
  where
    go : (n : Bool) (o : Ordering) → is_true (cond n Null (from_truth (Some (is_eq o)))) ≡ true → is_true (cond n Null (from_truth (Some (is_ne o)))) ≡ false
    go true o h = refl
    go false Less h = absurd (true≢false (sym h))
    go false Equal h = refl
    go false Greater h = absurd (true≢false (sym h))

pub alone_by_rowid : (x y : Row) → agree plain (0 ∷ []) x (0 ∷ []) y ≡ true → differ (rowid x) (rowid y) ≡ false
unfolding first_key
alone_by_rowid x y h = equal_not_differ (rowid x) (rowid y) (and_parts _ _ h).0

none_of : {X : Type 0} (p : X → Bool) (xs : List X) (x : X) → list_any p xs ≡ false → Has xs x → p x ≡ false
none_of p [] x h there = absurd there
none_of p (y ∷ xs) x h (inl same) = ap p same ∙ (or_parts _ _ h).0
none_of p (y ∷ xs) x h (inr there) = none_of p xs x (or_parts _ _ h).1 there

-- a unique index makes its key name one row
pub alone_by_index : (s : Schema) (at : ℕ) (table : Table) (i : Index) → slice_get s.tables at ≡ Some table → Has s.indexes i
    → guards i table ≡ true → i.order ≡ plain → i.columns ≡ table.primary
    → (db : Trees) → Fits s db → (x y : Row) → Has (db table.tree) x → Has (db table.tree) y
    → agree plain table.primary x table.primary y ≡ true → differ (rowid x) (rowid y) ≡ false
alone_by_index s at table i listed there guarded order columns db fits x y hx hy same =
    let keeps = all_has _ s.tables table (fits.rules Unique (λ e. cc)) (has_got s.tables at table listed) in
    let good = test_has (λ j. not (guards j table && clashes j.order j.columns (db table.tree) y)) s.indexes i (all_has _ (db table.tree) y keeps hy) there in
    let free = no_clash (guards i table) (clashes i.order i.columns (db table.tree) y) guarded good in
    let pair = none_of (λ other. agree i.order i.columns other i.columns y && differ (rowid other) (rowid y)) (db table.tree) x free hx in
    apart (agree i.order i.columns x i.columns y) (differ (rowid x) (rowid y)) (rw (order, columns) same) pair
  where
    no_clash : (g c : Bool) → g ≡ true → not (g && c) ≡ true → c ≡ false
    no_clash true true p h = absurd (true≢false (sym h))
    no_clash true false p h = refl
    no_clash false c p h = absurd (true≢false (sym p))

    apart : (a d : Bool) → a ≡ true → (a && d) ≡ false → d ≡ false
    apart true d p h = h
    apart false d p h = absurd (true≢false (sym p))

pub or_false : (b : Bool) → (b || false) ≡ b
or_false true = refl
or_false false = refl
