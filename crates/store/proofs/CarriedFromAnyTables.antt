-- Rows moved from one table to another, whether the tables show a picture or not.
use Rattle.std.proofs.Common.{◌≡◌, ℕ, ◌+◌, ◌-◌, ◌⊎◌, ◌==◌, inl, inr, Bool, true, false, cond, List, [], ◌∷◌, length, map, refl, sym, ◌∙◌, ap, subst, true≢false}
use Rattle.std.specs.Prelude.{Option, Some, None, option_map, slice_get}
use Rattle.std.specs.List.{All}
use Rattle.std.proofs.Math.Path.{fun_ext}
use Rattle.std.proofs.lemmas.Bool.{cases_Bool, eq-eqb}
use Rattle.std.proofs.lemmas.Bool.Decides.{Decides-eqb}
use Rattle.std.proofs.lemmas.List.Elements.{All-contains}
use Rattle.sqlite.specs.Effect.{Database}
use Rattle.sqlite.specs.Order.{Row, column}
use Rattle.sqlite.specs.State.{State, IsUnchanged}
use Rattle.sqlite_rules.specs.Lists.{Has}
use Rattle.sqlite_rules.proofs.ListLemmas.{contains_had}
use Rattle.sqlite_rules.proofs.ProbeLemmas.{mapped_has, has_mapped}
use Rattle.sql_maps.specs.Maps.{Maps, Holds, Steps, ListedBy, PairBelow, same_key, put, put_at, take_out}
use Rattle.sql_maps.specs.Batches.{FirstRows}
use Rattle.sql_maps.proofs.MapLemmas.{key_same}
use Rattle.circ_tables.specs.Numbered.{IsNumberTable}
use Rattle.circ_tables.specs.Reading.{Table}
use Rattle.circ_tables.specs.Selections.{is_any, is_next}
use Rattle.circ_tables.specs.Shape.{schema_at, HasTable}
use Rattle.circ_tables.specs.declared.by_number.TheConstants.{BATCH_ROWS}
use Rattle.store.specs.Carrying.{Transfer, IsTransfer, IsCarried, AreMoved, move_row, move_rows}
use Rattle.store.proofs.BatchesOfAnyTables.{AreMetSoFar, IsMapBatch, none_met, key_is, next_met, comes_after, none_after}

-- What stood under the key of the old table is carried over, under its own.
pub record IsCarriedFrom {K R N : Type 0} (old : Table K R) (new : Table K N) (transfer : Transfer K R N) (k v : Row) (now : Maps) : Type 0 where
  pub carried : IsCarried old new transfer v now
  pub key : k ≡ old.key (transfer.key_of carried.row)

-- Each row that the table had is there still, or it was carried over; those that are there were there, and come after the number; of them
-- the same is known as where they are only read; and all but the two tables stand as they stood.
pub record AreMovedSoFar {R N : Type 0} (t : Table ℕ R) (to : Table ℕ N) (transfer : Transfer ℕ R N) (after : Option ℕ) (batches : ℕ) (was : Maps)
    (db : Database) : Type 0 where
  pub maps : Maps
  pub holds : Holds (schema_at to.since) db maps
  pub met : AreMetSoFar t after batches maps
  pub were : (k v : Row) → maps t.place k ≡ Some v → was t.place k ≡ Some v
  pub next : (k v : Row) → maps t.place k ≡ Some v → is_next after v ≡ true
  pub moved : (k v : Row) → was t.place k ≡ Some v → (maps t.place k ≡ Some v) ⊎ IsCarriedFrom t to transfer k v maps
  pub others : (at : ℕ) → (at == t.place) ≡ false → (at == to.place) ≡ false → maps at ≡ was at

-- Nothing was moved yet.
pub none_moved : {R N : Type 0} (t : Table ℕ R) (to : Table ℕ N) (transfer : Transfer ℕ R N) (was : Maps) (db : Database)
    → Holds (schema_at to.since) db was → AreMovedSoFar t to transfer None 0 was db
none_moved t to transfer was db holds = record {
  maps = was;
  holds = holds;
  met = none_met t was;
  were = λ k v e. e;
  next = λ k v e. refl;
  moved = λ k v e. inl e;
  others = λ at aside apart. refl;
}

-- A batch of the rows that are there.
pub batch_moved : {R : Type 0} {t : Table ℕ R} {number_of : R → ℕ} (table : IsNumberTable t number_of) (n : ℕ) (has : HasTable t.since n)
    (after : Option ℕ) (batch : List R) → All t.IsLegal batch → (a b : State) (maps : Maps) → Holds (schema_at n) a.now maps
    → ((maps : Maps) → Holds (schema_at n) a.now maps → FirstRows BATCH_ROWS (maps t.place) (is_next after) (map t.cells batch)
    × IsUnchanged a b) → IsMapBatch t after batch maps
batch_moved table n has after batch limits a b maps holds lists =
    record { limits = limits; first = (lists maps holds).0; keys = key_is table n has a.now maps holds }

-- ---- in the maps

module _ {K R N : Type 0} {old : Table K R} {new : Table K N} {transfer : Transfer K R N} (over : IsTransfer old new transfer) where
  abbrev pub row_moved : R → Maps → Maps
  row_moved = move_row old new transfer

  abbrev pub rows_moved : List R → Maps → Maps
  rows_moved = move_rows old new transfer

  -- The old table after it.
  after_row : (r : R) (maps : Maps) (k : Row) → row_moved r maps old.place k ≡ take_out (maps old.place) (old.key (transfer.key_of r)) k
  after_row r maps k =
      let it = transfer.carried r in
      let with_it = put (maps new.place) (new.key (transfer.new_key it)) (new.cells it) k in
      ap (λ b. cond b (cond (same_key k (old.key (transfer.key_of r))) None (cond (old.place == new.place) with_it (maps old.place k)))
      (cond (old.place == new.place) with_it (maps old.place k))) (eq-eqb old.place old.place refl)
      ∙ ap (λ b. cond (same_key k (old.key (transfer.key_of r))) None (cond b with_it (maps old.place k))) over.apart

  -- Another table.
  beside_row : (r : R) (maps : Maps) (at : ℕ) → (at == old.place) ≡ false → (at == new.place) ≡ false → row_moved r maps at ≡ maps at
  beside_row r maps at aside apart = fun_ext (λ k.
      let it = transfer.carried r in
      let with_it = put (maps new.place) (new.key (transfer.new_key it)) (new.cells it) k in
      let put_in = cond (at == new.place) with_it (maps at k) in
      ap (λ b. cond b (cond (same_key k (old.key (transfer.key_of r))) None (cond (old.place == new.place) with_it (maps old.place k))) put_in)
      aside ∙ ap (λ b. cond b with_it (maps at k)) apart)

  pub beside_rows : (batch : List R) (maps : Maps) (at : ℕ) → (at == old.place) ≡ false → (at == new.place) ≡ false → rows_moved batch maps at ≡ maps at
  beside_rows [] maps at aside apart = refl
  beside_rows (r ∷ more) maps at aside apart = beside_rows more (row_moved r maps) at aside apart ∙ beside_row r maps at aside apart

  -- A row that is there was there before.
  row_was : (r : R) (maps : Maps) (k v : Row) → row_moved r maps old.place k ≡ Some v → maps old.place k ≡ Some v
  row_was r maps k v e = go (same_key k (old.key (transfer.key_of r))) (sym (after_row r maps k) ∙ e)
    where
      go : (b : Bool) → cond b None (maps old.place k) ≡ Some v → maps old.place k ≡ Some v
      go true e = let never : ⊥ = cc in absurd never
      go false e = e

  pub rows_were : (batch : List R) (maps : Maps) (k v : Row) → rows_moved batch maps old.place k ≡ Some v → maps old.place k ≡ Some v
  rows_were [] maps k v e = e
  rows_were (r ∷ more) maps k v e = row_was r maps k v (rows_were more (row_moved r maps) k v e)

  -- One that was there is there still, or it has the key of a row of the batch.
  row_is : (r : R) (maps : Maps) (k v : Row) → maps old.place k ≡ Some v → (row_moved r maps old.place k ≡ Some v) ⊎ (k ≡ old.key (transfer.key_of r))
  row_is r maps k v e = elim (cases_Bool (same_key k (old.key (transfer.key_of r)))) [
    | inl hit ↦ inr (key_same k (old.key (transfer.key_of r)) hit)
    | inr miss ↦ inl (after_row r maps k ∙ ap (λ b. cond b None (maps old.place k)) miss ∙ e)
  ]

  pub rows_are : (batch : List R) (maps : Maps) (k v : Row) → maps old.place k ≡ Some v → (rows_moved batch maps old.place k ≡ Some v)
      ⊎ ((r : R) × Has batch r × (k ≡ old.key (transfer.key_of r)))
  rows_are [] maps k v e = inl e
  rows_are (r ∷ more) maps k v e = elim (row_is r maps k v e) [
    | inr key ↦ inr (r, inl refl, key)
    | inl there ↦ elim (rows_are more (row_moved r maps) k v there) [
      | inl still ↦ inl still
      | inr it ↦ inr (it.0, inr it.1, it.2)
    ]
  ]

  -- No row comes back.
  none_stays : (batch : List R) (maps : Maps) (k : Row) → maps old.place k ≡ None → rows_moved batch maps old.place k ≡ None
  none_stays batch maps k none = go (rows_moved batch maps old.place k) refl
    where
      go : (o : Option Row) → rows_moved batch maps old.place k ≡ o → o ≡ None
      go None e = refl
      go (Some v) e = let two : Some v ≡ None = sym (rows_were batch maps k v e) ∙ none in let never : ⊥ = cc in absurd never

  -- A row of the batch isn't there any more.
  pub taken_away : (batch : List R) (r : R) → Has batch r → (maps : Maps) → rows_moved batch maps old.place (old.key (transfer.key_of r)) ≡ None
  taken_away [] r has maps = absurd has
  taken_away (x ∷ more) r (inl same) maps = none_stays more (row_moved x maps) (old.key (transfer.key_of r))
      (after_row x maps (old.key (transfer.key_of r))
      ∙ ap (λ (y : R). take_out (maps old.place) (old.key (transfer.key_of x)) (old.key (transfer.key_of y))) same
      ∙ ap (λ b. cond b None (maps old.place (old.key (transfer.key_of x)))) (over.own_keys (transfer.key_of x)).0)
  taken_away (x ∷ more) r (inr has) maps = taken_away more r has (row_moved x maps)

  -- The new table after it.
  abbrev new_key : R → Row
  new_key r = new.key (transfer.new_key (transfer.carried r))

  new_row : (r : R) (maps : Maps) (k : Row) → row_moved r maps new.place k ≡ put (maps new.place) (new_key r) (new.cells (transfer.carried r)) k
  new_row r maps k =
      let with_it = put (maps new.place) (new_key r) (new.cells (transfer.carried r)) k in
      let taken = take_out (put_at maps new.place (new_key r) (new.cells (transfer.carried r)) old.place) (old.key (transfer.key_of r)) k in
      ap (λ b. cond b taken (cond (new.place == new.place) with_it (maps new.place k))) aside
      ∙ ap (λ b. cond b with_it (maps new.place k)) (eq-eqb new.place new.place refl)
    where
      aside : (new.place == old.place) ≡ false
      aside = elim (cases_Bool (new.place == old.place)) [
        | inl same ↦ absurd (true≢false (sym (eq-eqb old.place new.place (sym ((Decides-eqb new.place old.place).0 same))) ∙ over.apart))
        | inr other ↦ other
      ]

  own_there : (r : R) (maps : Maps) → row_moved r maps new.place (new_key r) ≡ Some (new.cells (transfer.carried r))
  own_there r maps = new_row r maps (new_key r)
      ∙ ap (λ b. cond b (Some (new.cells (transfer.carried r))) (maps new.place (new_key r))) (over.own_keys (transfer.new_key (transfer.carried r))).1

  module _ (was : Maps) where
    -- The row stood under its own key, and lies within its limits.
    pub record IsOwn (r : R) : Type 0 where
      pub legal : old.IsLegal r
      pub there : was old.place (old.key (transfer.key_of r)) ≡ Some (old.cells r)

    abbrev IsOver : Row → Row → Maps → Type 0
    IsOver = IsCarriedFrom old new transfer

    same_row : (r : R) → IsOwn r → (k v : Row) → was old.place k ≡ Some v → k ≡ old.key (transfer.key_of r) → v ≡ old.cells r
    same_row r own k v e key = let both : Some v ≡ Some (old.cells r) = sym e ∙ ap (was old.place) key ∙ own.there in cc

    row_over : (r : R) → IsOwn r → (maps : Maps) (k v : Row) → was old.place k ≡ Some v → k ≡ old.key (transfer.key_of r) → IsOver k v (row_moved r maps)
    row_over r own maps k v e key =
        record { carried = record { row = r; legal = own.legal; was = same_row r own k v e key; there = own_there r maps }; key = key }

    -- What was carried over is so still.
    still_over : (r : R) → IsOwn r → (maps : Maps) (k v : Row) → was old.place k ≡ Some v → IsOver k v maps → IsOver k v (row_moved r maps)
    still_over r own maps k v e is = elim (cases_Bool (same_key (new_key is.carried.row) (new_key r))) [
      | inl hit ↦ row_over r own maps k v e (is.key ∙ ap old.key (sym (over.key_is is.carried.row)
          ∙ over.keys _ _ (key_same (new_key is.carried.row) (new_key r) hit) ∙ over.key_is r))
      | inr miss ↦ record {
        carried = record {
          row = is.carried.row;
          legal = is.carried.legal;
          was = is.carried.was;
          there = new_row r maps (new_key is.carried.row)
              ∙ ap (λ b. cond b (Some (new.cells (transfer.carried r))) (maps new.place (new_key is.carried.row))) miss ∙ is.carried.there;
        };
        key = is.key;
      }
    ]

    pub rows_still_over : (batch : List R) → ((r : R) → Has batch r → IsOwn r) → (maps : Maps) (k v : Row) → was old.place k ≡ Some v
        → IsOver k v maps → IsOver k v (rows_moved batch maps)
    rows_still_over [] own maps k v e is = is
    rows_still_over (r ∷ more) own maps k v e is =
        rows_still_over more (λ s has. own s (inr has)) (row_moved r maps) k v e (still_over r (own r (inl refl)) maps k v e is)

    pub batch_over : (batch : List R) → ((r : R) → Has batch r → IsOwn r) → (maps : Maps) (k v : Row) → was old.place k ≡ Some v
        → (r : R) → Has batch r → k ≡ old.key (transfer.key_of r) → IsOver k v (rows_moved batch maps)
    batch_over [] own maps k v e r has key = absurd has
    batch_over (x ∷ more) own maps k v e r (inl same) key = rows_still_over more (λ s has. own s (inr has)) (row_moved x maps) k v e
        (row_over x (own x (inl refl)) maps k v e (key ∙ ap (λ (y : R). old.key (transfer.key_of y)) same))
    batch_over (x ∷ more) own maps k v e r (inr has) key = batch_over more (λ s there. own s (inr there)) (row_moved x maps) k v e r has key

  -- All rows of the table were listed, each under its own key, and moved.
  pub listed_moved : (batch : List R) (maps : Maps) → All old.IsLegal batch → ListedBy PairBelow (maps old.place) is_any (map old.cells batch)
      → ((k : Row) (r : R) → maps old.place k ≡ Some (old.cells r) → k ≡ old.key (transfer.key_of r))
      → AreMoved old new transfer maps (rows_moved batch maps)
  listed_moved batch maps limits listed keyed = record {
    carried = λ k v e.
        let it = has_mapped old.cells batch v (listed.whole k v e refl) in
        (batch_over maps batch own maps k v e it.0 it.1 (keyed k it.0 (e ∙ ap Some it.2))).carried;
    others = beside_rows batch maps;
  }
    where
      own : (r : R) → Has batch r → IsOwn maps r
      own r has =
          let found = listed.sound (old.cells r) (mapped_has old.cells batch r has) in
          record {
            legal = All-contains old.IsLegal batch r limits (contains_had batch r has);
            there = ap (maps old.place) (sym (keyed found.0 r found.1)) ∙ found.1;
          }

-- ---- batch by batch

module _ {R N : Type 0} {old : Table ℕ R} {new : Table ℕ N} {transfer : Transfer ℕ R N} (over : IsTransfer old new transfer)
    (table : IsNumberTable old transfer.key_of) where
  -- A row stands under its number alone.
  key_is_own : (db : Database) (maps : Maps) → Holds (schema_at new.since) db maps → (k : Row) (r : R)
      → maps old.place k ≡ Some (old.cells r) → k ≡ old.key (transfer.key_of r)
  key_is_own db maps holds k r e =
      let texts = table.texts new.since over.was_there in
      let it = (holds.tables old.place old.shape texts.listed).whole k (old.cells r) e in
      let cell = sym (texts.key_cell it.0) ∙ ap (λ v. column v 0) it.3 ∙ table.first_cell r in
      sym it.2 ∙ ap (map (column it.0)) texts.primary ∙ ap (λ w. w ∷ []) cell ∙ sym (table.keyed (transfer.key_of r))

  module _ (after : Option ℕ) (batches : ℕ) (was : Maps) (db : Database) (so_far : AreMovedSoFar old new transfer after batches was db) (batch : List R)
      (is : IsMapBatch old after batch so_far.maps) where
    -- A batch that is empty is the last: all rows that there were are carried over.
    pub all_rows_moved : length batch ≡ 0 → AreMoved old new transfer was so_far.maps
    all_rows_moved none = record {
      carried = λ k v e. elim (so_far.moved k v e) [
        | inr over ↦ over.carried
        | inl there ↦ absurd (none_after table so_far.maps after batches so_far.met batch is none k v there (so_far.next k v there))
      ];
      others = so_far.others;
    }

    -- A row of the batch stands under its number, and stood so from the beginning.
    keyed : (r : R) → Has batch r → so_far.maps old.place (old.key (transfer.key_of r)) ≡ Some (old.cells r)
    keyed r has =
        let found = is.first.sound (old.cells r) (mapped_has old.cells batch r has) in
        ap (so_far.maps old.place) (sym (key_is_own db so_far.maps so_far.holds found.0 r found.1)) ∙ found.1

    own : (r : R) → Has batch r → IsOwn over was r
    own r has = record {
      legal = All-contains old.IsLegal batch r is.limits (contains_had batch r has);
      there = so_far.were (old.key (transfer.key_of r)) (old.cells r) (keyed r has);
    }

    -- One batch more.
    pub next_moved : (last : ℕ) → option_map transfer.key_of (slice_get batch (length batch - 1)) ≡ Some last → (a b : State) → a.now ≡ db
        → Steps (schema_at new.since) a b (move_rows old new transfer batch) → AreMovedSoFar old new transfer (Some last) (batches + 1) was b.now
    next_moved last end a b same steps =
        let met = next_met table so_far.maps after batches so_far.met batch is last end in
        record {
          maps = rows_moved over batch so_far.maps;
          holds = steps.maps so_far.maps (subst (λ d. Holds (schema_at new.since) d so_far.maps) (sym same) so_far.holds);
          met = record { met = λ k v e. met.met k v (rows_were over batch so_far.maps k v e); few = met.few };
          were = λ k v e. so_far.were k v (rows_were over batch so_far.maps k v e);
          next = λ k v e.
              let before = rows_were over batch so_far.maps k v e in
              elim (is.first.whole k v before (so_far.next k v before)) [
                | inl has ↦ (
                    let it = has_mapped old.cells batch v has in
                    let key = key_is_own db so_far.maps so_far.holds k it.0 (before ∙ ap Some it.2) in
                    let none : None ≡ Some v = sym (taken_away over batch it.0 it.1 so_far.maps) ∙ ap (rows_moved over batch so_far.maps old.place) (sym key) ∙ e in
                    let never : ⊥ = cc in
                    absurd never
                    )
                | inr rest ↦ comes_after table so_far.maps after batches so_far.met batch is last end k v before rest.1
              ];
          moved = λ k v e. elim (so_far.moved k v e) [
            | inr carried ↦ inr (rows_still_over over was batch own so_far.maps k v e carried)
            | inl there ↦ elim (rows_are over batch so_far.maps k v there) [
              | inl still ↦ inl still
              | inr it ↦ inr (batch_over over was batch own so_far.maps k v e it.0 it.1 it.2)
            ]
          ];
          others = λ at aside apart. beside_rows over batch so_far.maps at aside apart ∙ so_far.others at aside apart;
        }
