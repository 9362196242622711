-- Rows of a table met batch by batch, whether the tables show a picture or not.
use Rattle.std.proofs.Common.{◌≡◌, ℕ, zero, suc, ◌+◌, ◌-◌, ◌<◌, ◌≤◌, ◌⊎◌, inl, inr, ℤ, pos, negsuc, true, List, [], ◌∷◌, length, map, Ok}
use Rattle.std.proofs.Common.{Less, Greater, refl, sym, ◌∙◌, ap, subst, arith}
use Rattle.std.specs.Prelude.{Option, Some, None, IsTrue, option_map, slice_get, unwrap_or}
use Rattle.std.specs.List.{All}
use Rattle.std.specs.Cmp.{int_cmp_is}
use Rattle.std.proofs.lemmas.Int.{ints}
use Rattle.std.proofs.lemmas.List.{length-map}
use Rattle.std.proofs.lemmas.List.Elements.{All-contains}
use Rattle.sqlite.specs.Effect.{Database}
use Rattle.sqlite.specs.Held.{Held}
use Rattle.sqlite.specs.Order.{Row, column}
use Rattle.sqlite.specs.Store.{Ghosts}
use Rattle.sqlite.specs.declared.types.Value.TheVariants.{Null, Int, Real, Text, Blob}
use Rattle.sqlite_value.specs.declared.value.Value.{Value}
use Rattle.sqlite_value.specs.Order.{value_cmp}
use Rattle.sqlite_value.proofs.OrderLemmas.{value_cmp-Int}
use Rattle.sqlite_trees.specs.Tree.{rowid}
use Rattle.sqlite_trees.specs.View.{is_int}
use Rattle.sqlite_rules.specs.Lists.{Has}
use Rattle.sqlite_rules.proofs.ListLemmas.{contains_had, all_has}
use Rattle.sqlite_rules.proofs.ProbeLemmas.{has_mapped, mapped_has}
use Rattle.sql_maps.specs.Maps.{Maps, Holds}
use Rattle.sql_maps.specs.Batches.{FirstRows}
use Rattle.circ_tables.specs.Numbered.{IsNumberTable}
use Rattle.circ_tables.specs.Reading.{Table, Lists}
use Rattle.circ_tables.specs.Selections.{is_next}
use Rattle.circ_tables.specs.Shape.{schema_at, HasTable}
use Rattle.terms.specs.declared.limits.TheConstants.{SCHEMA}
use Rattle.circ_tables.specs.declared.by_number.TheConstants.{BATCH_ROWS}
use Rattle.circ_tables.proofs.CellLemmas.{is_least, if_least, from_alone}
use Rattle.circ_tables.proofs.DayLemmas.{below}
use Rattle.store.specs.Legal.{HasLegal, Reviews}
use Rattle.store.specs.Batches.{AreNumbered, AreRowsAfter}
use Rattle.store.proofs.BatchLemmas.{above, batch_seen}
use Rattle.store.proofs.BatchedRows.{last_there}

-- A row that has a place in a list is there.
pub has_at : {R : Type 0} (rows : List R) (i : ℕ) (r : R) → slice_get rows i ≡ Some r → Has rows r
has_at [] i r e = let never : ⊥ = cc in absurd never
has_at (x ∷ rows) zero r e = inl (let same : r ≡ x = cc in same)
has_at (x ∷ rows) (suc i) r e = inr (has_at rows i r e)

-- A number above another is one that comes after it.
later : (a : ℕ) (n : ℤ) → value_cmp (Int (pos a)) (Int n) ≡ Less → is_least (Int n) (pos (a + 1)) ≡ true
later a (pos b) less = let lt : a < b = below a b less in if_least b (a + 1) (omega (arith, lt))
later a (negsuc b) less =
    let greater : value_cmp (Int (pos a)) (Int (negsuc b)) ≡ Greater =
    value_cmp-Int (pos a) (negsuc b) ∙ sym (int_cmp_is (pos a) (negsuc b) Greater (omega (arith, ints))) in
    let never : ⊥ = cc in
    absurd never

module _ {R : Type 0} (t : Table ℕ R) where
  -- Each row comes after this number, or is that of a row within its limits; and there were no more batches than the number.
  pub record AreMetSoFar (after : Option ℕ) (batches : ℕ) (maps : Maps) : Type 0 where
    pub met : (k v : Row) → maps t.place k ≡ Some v → (is_next after v ≡ true) ⊎ ((r : R) × t.IsLegal r × (v ≡ t.cells r))
    pub few : batches ≤ unwrap_or after 0

  -- A batch of the map.
  pub record IsMapBatch (after : Option ℕ) (batch : List R) (maps : Maps) : Type 0 where
    pub limits : All t.IsLegal batch
    pub first : FirstRows BATCH_ROWS (maps t.place) (is_next after) (map t.cells batch)
    pub keys : (k v : Row) → maps t.place k ≡ Some v → (n : ℤ) × (column v 0 ≡ Int n)

  -- Nothing was met yet.
  pub none_met : (maps : Maps) → AreMetSoFar None 0 maps
  none_met maps = record { met = λ k v e. inl refl; few = omega arith }

module _ {R : Type 0} {t : Table ℕ R} {number_of : R → ℕ} (table : IsNumberTable t number_of) where
  -- The key of a stored row is a number.
  pub key_is : (n : ℕ) → HasTable t.since n → (db : Database) (maps : Maps) → Holds (schema_at n) db maps → (k v : Row)
      → maps t.place k ≡ Some v → (n : ℤ) × (column v 0 ≡ Int n)
  key_is n has db maps holds k v e =
      let texts = table.texts n has in
      let is = holds.tables t.place t.shape texts.listed in
      let row = is.whole k v e in
      let int = all_has (λ r. IsTrue (is_int (rowid r))) (db.trees t.shape.tree) row.0 is.shaped.1 row.1 in
      go (column row.0 0) (ap (λ r. column r 0) (sym row.3) ∙ texts.key_cell row.0) int
    where
      go : (w : Value) → column v 0 ≡ w → IsTrue (is_int w) → (n : ℤ) × (column v 0 ≡ Int n)
      go (Int n) same int = (n, same)
      go Null same int = let never : ⊥ = cc in absurd never
      go (Real x) same int = let never : ⊥ = cc in absurd never
      go (Text x) same int = let never : ⊥ = cc in absurd never
      go (Blob x) same int = let never : ⊥ = cc in absurd never

  pub batch_met : (after : Option ℕ) {S L : Type 0} {items : L → List R} {g : Ghosts S} {l : L} {a b : Held S}
      → Lists t items (λ m. FirstRows BATCH_ROWS m (is_next after)) g a b (Ok l)
      → Reviews (λ P (x : L). AreNumbered (t.rows P) number_of × AreRowsAfter (t.rows P) number_of (unwrap_or after 0) (items x))
      (IsMapBatch t after (items l)) g a b (Ok l)
  batch_met after is = record {
    view = batch_seen table after is;
    met = λ clean maps holds. record { limits = is.limits; first = (is.lists clean maps holds).0; keys = key_is SCHEMA table.newest _ maps holds };
  }

  module _ (maps : Maps) (after : Option ℕ) (batches : ℕ) (so_far : AreMetSoFar t after batches maps) (batch : List R) (is : IsMapBatch t after batch maps) where
    on_batch : (v : Row) → Has (map t.cells batch) v → (r : R) × t.IsLegal r × (v ≡ t.cells r)
    on_batch v has = let it = has_mapped t.cells batch v has in (it.0, All-contains t.IsLegal batch it.0 is.limits (contains_had batch it.0 it.1), it.2)

    -- What comes after a batch has a number above its last one.
    pub comes_after : (last : ℕ) → option_map number_of (slice_get batch (length batch - 1)) ≡ Some last → (k v : Row) → maps t.place k ≡ Some v
        → ((w : Row) → Has (map t.cells batch) w → value_cmp (column w 0) (column v 0) ≡ Less) → is_next (Some last) v ≡ true
    comes_after last end k v e less =
        let it = last_there number_of batch last end in
        let key = is.keys k v e in
        subst (λ (n : ℕ). is_next (Some n) v ≡ true) it.2 (from_alone _
        (subst (λ w. is_least w (pos (number_of it.0 + 1)) ≡ true) (sym key.1)
        (later (number_of it.0) key.0 (subst (λ w. value_cmp (Int (pos (number_of it.0))) w ≡ Less) key.1
        (subst (λ w. value_cmp w (column v 0) ≡ Less) (table.first_cell it.0)
        (less (t.cells it.0) (mapped_has t.cells batch it.0 (has_at batch (length batch - 1) it.0 it.1))))))))

    -- After a batch that is empty nothing comes.
    pub none_after : length batch ≡ 0 → (k v : Row) → maps t.place k ≡ Some v → is_next after v ≡ true → ⊥
    none_after none k v e next = elim (is.first.whole k v e next) [
      | inl has ↦ (let it = has_mapped t.cells batch v has in none_has batch none it.0 it.1)
      | inr rest ↦ (let full : length (map t.cells batch) ≡ BATCH_ROWS = rest.0 in let same = length-map batch t.cells in omega (arith, full, none, same))
    ]
      where
        none_has : (rows : List R) → length rows ≡ 0 → (r : R) → Has rows r → ⊥
        none_has [] none r has = has
        none_has (x ∷ rows) none r has = let never : ⊥ = cc in never

    -- A batch that is empty is the last: all rows were met.
    pub all_met : length batch ≡ 0 → HasLegal t maps
    all_met none k v e = elim (so_far.met k v e) [
      | inr legal ↦ legal
      | inl next ↦ elim (is.first.whole k v e next) [
        | inl has ↦ on_batch v has
        | inr rest ↦ (let full : length (map t.cells batch) ≡ BATCH_ROWS = rest.0 in let same = length-map batch t.cells in
            absurd (omega (arith, full, none, same)))
      ]
    ]

    -- One batch more.
    more_met : (last : R) → Has batch last → AreMetSoFar t (Some (number_of last)) (batches + 1) maps
    more_met last there = record {
      met = λ k v e. elim (so_far.met k v e) [
        | inr legal ↦ inr legal
        | inl next ↦ elim (is.first.whole k v e next) [
          | inl has ↦ inr (on_batch v has)
          | inr rest ↦ inl (comes_after k v e (rest.1 (t.cells last) (mapped_has t.cells batch last there)))
        ]
      ];
      few =
          let legal = All-contains t.IsLegal batch last is.limits (contains_had batch last there) in
          let less : unwrap_or after 0 < number_of last = above table after last legal (is.first.sound (t.cells last) (mapped_has t.cells batch last there)).2 in
          let few : batches ≤ unwrap_or after 0 = so_far.few in
          omega (arith, less, few);
    }
      where
        comes_after : (k v : Row) → maps t.place k ≡ Some v → value_cmp (column (t.cells last) 0) (column v 0) ≡ Less → is_next (Some (number_of last)) v ≡ true
        comes_after k v e less =
            let key = is.keys k v e in
            from_alone _
            (subst (λ w. is_least w (pos (number_of last + 1)) ≡ true) (sym key.1)
            (later (number_of last) key.0 (subst (λ w. value_cmp (Int (pos (number_of last))) w ≡ Less) key.1
            (subst (λ w. value_cmp w (column v 0) ≡ Less) (table.first_cell last) less))))

    -- The same, where the number is named.
    pub next_met : (last : ℕ) → option_map number_of (slice_get batch (length batch - 1)) ≡ Some last → AreMetSoFar t (Some last) (batches + 1) maps
    next_met last end =
        let it = last_there number_of batch last end in
        subst (λ (n : ℕ). AreMetSoFar t (Some n) (batches + 1) maps) it.2 (more_met it.0 (has_at batch (length batch - 1) it.0 it.1))
