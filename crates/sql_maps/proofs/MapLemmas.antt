-- The maps that a database holds, after a put or a take.
use Rattle.std.proofs.Common.{◌≡◌, ◌≢◌, inl, inr, ℕ, zero, suc, not, ◌&&◌, Bool, true, false, cond, List, [], ◌∷◌, slice_get, Some, None}
use Rattle.std.proofs.Common.{refl, sym, ap, subst, ◌∙◌, true≢false}
use Rattle.std.specs.Prelude.{◌==◌, if◌then◌else◌}
use Rattle.std.specs.List.{list_all}
use Rattle.std.proofs.lemmas.Bool.{and_parts, and_from, false_from_ne_true, cases_Bool}
use Rattle.std.proofs.lemmas.Bool.Decides.{Decides-int_eq, Decides-eqb}
use Rattle.std.proofs.lemmas.Slice.Eq.{bytes_eq-Decides}
use Rattle.sqlite.specs.declared.types.Value.TheVariants.{Int, Text}
use Rattle.sqlite_value.specs.declared.value.Value.{Value}
use Rattle.sqlite.specs.Order.{Row}
use Rattle.sqlite.specs.Table.{Table}
use Rattle.sqlite.specs.Schema.{Schema}
use Rattle.sqlite.specs.Effect.{Database, IsDatabase}
use Rattle.sqlite_trees.specs.declared.store.Shape.TheVariants as shape
use Rattle.sqlite_trees.specs.View.{IsShaped}
use Rattle.sqlite_rules.proofs.ListLemmas.{all_has, has_got, test_has}
use Rattle.sql_maps.specs.Maps.{key_at, cells, is_plain, same_value, same_key, Map, put, take_out, IsMap, Maps, Holds}
use Rattle.sql_maps.proofs.Words.{Puts, Takes}
use Rattle.sql_maps.proofs.WriteLemmas.{Leaves}

value_same : (a b : Value) → same_value a b ≡ true → a ≡ b
value_same (Int m) (Int n) h = ap Int ((Decides-int_eq m n).0 h)
value_same (Text s) (Text t) h = ap Text ((bytes_eq-Decides s t).0 h)
value_same (Int m) (Text t) h = absurd (true≢false (sym h))
value_same _ _ h = absurd (true≢false (sym h))

same_values : (a : Value) → is_plain a ≡ true → same_value a a ≡ true
same_values (Int m) h = (Decides-int_eq m m).1 refl
same_values (Text t) h = (bytes_eq-Decides t t).1 refl
same_values _ h = absurd (true≢false (sym h))

pub key_same : (a b : Row) → same_key a b ≡ true → a ≡ b
key_same [] [] h = refl
key_same (a ∷ more) (b ∷ bs) h = let parts = and_parts (same_value a b) (same_key more bs) h in rw (value_same a b parts.0, key_same more bs parts.1)
key_same [] (b ∷ bs) h = absurd (true≢false (sym h))
key_same (a ∷ more) [] h = absurd (true≢false (sym h))

pub same_keys : (a : Row) → list_all is_plain a ≡ true → same_key a a ≡ true
same_keys [] h = refl
same_keys (a ∷ more) h = let parts = and_parts (is_plain a) (list_all is_plain more) h in and_from _ _ (same_values a parts.0) (same_keys more parts.1)

pub other_keys : (a b : Row) → a ≢ b → same_key a b ≡ false
other_keys a b h = false_from_ne_true _ (λ same. h (key_same a b same))

pub puts_map : (table : Table) (old new : List Row) (m : Map) (k v : Row) → IsMap table old m → list_all is_plain k ≡ true → Puts table old new k v
    → IsShaped shape.Table new → IsMap table new (put m k v)
puts_map table old new m k v is plain p shaped = record {
  shaped = shaped;
  plain = λ r h. elim (p.rest r h) [
    | inl same ↦ ap (λ x. list_all is_plain (key_at table x)) same ∙ ap (list_all is_plain) p.keyed
        ∙ plain
    | inr there ↦ is.plain r there.0
  ];
  sound = λ r h. elim (p.rest r h) [
    | inl same ↦
        let hit : same_key (key_at table r) k ≡ true = ap (λ j. same_key j k) (ap (key_at table) same ∙ p.keyed) ∙ same_keys k plain in
        ap (λ b. cond b (Some v) (m (key_at table r))) hit ∙ ap Some (sym p.shows ∙ ap (cells table) (sym same))
    | inr there ↦
        let miss = other_keys (key_at table r) k (λ e. there.1 (e ∙ sym p.keyed)) in
        ap (λ b. cond b (Some v) (m (key_at table r))) miss ∙ is.sound r there.0
  ];
  whole = λ j w h. elim (cases_Bool (same_key j k)) [
    | inl hit ↦
        let some : Some v ≡ Some w = sym (ap (λ b. cond b (Some v) (m j)) hit) ∙ h in
        let same : v ≡ w = cc in
        (p.row, p.here, p.keyed ∙ sym (key_same j k hit), p.shows ∙ same)
    | inr miss ↦
        let some : m j ≡ Some w = sym (ap (λ b. cond b (Some v) (m j)) miss) ∙ h in
        let r = is.whole j w some in
        (r.0, p.kept r.0 r.1 (λ e. true≢false (sym (ap (λ i. same_key i k) (sym r.2 ∙ e ∙ p.keyed) ∙ same_keys k plain) ∙ miss)), r.2, r.3)
  ];
  alone = λ r s hr hs same. elim (p.rest r hr) [
    | inl new_r ↦ elim (p.rest s hs) [
      | inl new_s ↦ new_r ∙ sym new_s
      | inr old_s ↦ absurd (old_s.1 (sym same ∙ ap (key_at table) new_r))
    ]
    | inr old_r ↦ elim (p.rest s hs) [
      | inl new_s ↦ absurd (old_r.1 (same ∙ ap (key_at table) new_s))
      | inr old_s ↦ is.alone r s old_r.0 old_s.0 same
    ]
  ];
}

pub takes_map : (table : Table) (old new : List Row) (m : Map) (k : Row) → IsMap table old m → list_all is_plain k ≡ true → Takes table old new k
    → IsShaped shape.Table new → IsMap table new (take_out m k)
takes_map table old new m k is plain p shaped = record {
  shaped = shaped;
  plain = λ r h. is.plain r (p.rest r h).0;
  sound = λ r h.
      let there = p.rest r h in
      ap (λ b. cond b None (m (key_at table r))) (other_keys (key_at table r) k there.1) ∙ is.sound r there.0;
  whole = λ j w h. elim (cases_Bool (same_key j k)) [
    | inl hit ↦ absurd (let none = sym (ap (λ b. cond b None (m j)) hit) ∙ h in cc)
    | inr miss ↦
        let some : m j ≡ Some w = sym (ap (λ b. cond b None (m j)) miss) ∙ h in
        let r = is.whole j w some in
        (r.0, p.kept r.0 r.1 (λ e. true≢false (sym (ap (λ i. same_key i k) (sym r.2 ∙ e) ∙ same_keys k plain) ∙ miss)), r.2, r.3)
  ];
  alone = λ r s hr hs same. is.alone r s (p.rest r hr).0 (p.rest s hs).0 same;
}

-- every table has a tree of its own
abbrev pub are_apart : List Table → Bool
are_apart [] = true
are_apart (t ∷ ts) = list_all (λ u. not (u.tree == t.tree)) ts && are_apart ts

not_same : (m n : ℕ) → not (m == n) ≡ true → m ≢ n
not_same m n h e = true≢false (sym h ∙ ap not ((Decides-eqb m n).1 e))

pub apart_at : (ts : List Table) → are_apart ts ≡ true → (i at : ℕ) (t table : Table) → slice_get ts i ≡ Some t
    → slice_get ts at ≡ Some table → i ≢ at → t.tree ≢ table.tree
apart_at [] h i at t table p q other = absurd (let e = p in cc)
apart_at (u ∷ ts) h zero zero t table p q other = absurd (other refl)
apart_at (u ∷ ts) h zero (suc at) t table p q other =
    let same : u ≡ t = cc in
    λ e. not_same table.tree u.tree (test_has (λ w. not (w.tree == u.tree)) ts table (and_parts _ _ h).0 (has_got ts at table q))
    (sym e ∙ ap (λ (w : Table). w.tree) (sym same))
apart_at (u ∷ ts) h (suc i) zero t table p q other =
    let same : u ≡ table = cc in
    λ e. not_same t.tree u.tree (test_has (λ w. not (w.tree == u.tree)) ts t (and_parts _ _ h).0 (has_got ts i t p)) (e ∙ ap (λ (w : Table). w.tree) (sym same))
apart_at (u ∷ ts) h (suc i) (suc at) t table p q other = apart_at ts (and_parts _ _ h).1 i at t table p q (λ e. other (ap suc e))

-- a write of one table, seen in all maps
pub holds_after : (schema : Schema) (at : ℕ) (table : Table) (db next : Database) (maps : Maps) (m : Map) → are_apart schema.tables ≡ true
    → slice_get schema.tables at ≡ Some table → Holds schema db maps
    → IsDatabase next → next.schema ≡ schema → Leaves schema table db.trees next.trees → IsMap table (next.trees table.tree) m
    → Holds schema next (λ i j. if i == at then m j else maps i j)
holds_after schema at table db next maps m apart listed holds sound has left is = record {
  sound = sound;
  schema_is = has;
  tables = λ i t there. elim (cases_Bool (i == at)) [
    | inl here ↦
        let is_at = (Decides-eqb i at).0 here in
        let found : Some t ≡ Some table = sym there ∙ ap (slice_get schema.tables) is_at ∙ listed in
        let same : table ≡ t = cc in
        subst (λ b. IsMap t (next.trees t.tree) (λ j. cond b (m j) (maps i j))) (sym here) (subst (λ (u : Table). IsMap u (next.trees u.tree) m) same is)
    | inr other ↦
        let differ : i ≢ at = λ e. true≢false (sym ((Decides-eqb i at).1 e) ∙ other) in
        let same : next.trees t.tree ≡ db.trees t.tree =
        all_has _ schema.tables t left.others (has_got schema.tables i t there)
        (apart_at schema.tables apart i at t table there listed differ) in
        subst (λ b. IsMap t (next.trees t.tree) (λ j. cond b (m j) (maps i j))) (sym other)
        (subst (λ rows. IsMap t rows (maps i)) (sym same) (holds.tables i t there))
  ];
}
