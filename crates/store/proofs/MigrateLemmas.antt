-- The effect of carrying rows over on a picture.
use Rattle.std.proofs.Common.{◌≡◌, ◌<◌, ℕ, List, [], ◌∷◌, length, map, leb, cond, Option, Some, None, true, false, refl, sym, ap, ap₂, subst, ◌∙◌, IsTrue}
use Rattle.std.specs.Prelude.{option_map, slice_get, unwrap_or, ◌-◌}
use Rattle.std.specs.List.{All}
use Rattle.std.proofs.Math.Path.{fun_ext}
use Rattle.sqlite_rules.specs.Lists.{Has}
use Rattle.sqlite_rules.proofs.ListLemmas.{has_contained, contains_had}
use Rattle.sqlite.specs.Effect.{Database}
use Rattle.sqlite.specs.State.{State, IsUnchanged}
use Rattle.sql_maps.specs.Maps.{Maps, Holds}
use Rattle.sql_maps.specs.Batches.{FirstRows}
use Rattle.terms.specs.Limits.{InLimits}
use Rattle.terms.specs.Pictures.{Picture}
use Rattle.circ_tables.specs.Encoding.{HasPictureAt, AreEncoded}
use Rattle.circ_tables.specs.Numbered.{IsNumberTable}
use Rattle.circ_tables.specs.Reading.{Table}
use Rattle.circ_tables.specs.Selections.{is_next}
use Rattle.circ_tables.specs.Shape.{schema_at}
use Rattle.circ_tables.specs.declared.by_number.TheConstants.{BATCH_ROWS}
use Rattle.circ_tables.proofs.ShownLemmas.{are_encoded}
use Rattle.store.specs.Library.{HasTablesAt}
use Rattle.store.specs.Lists.{AreAllOf}
use Rattle.store.specs.Carrying.{Transfer, IsTransfer, put_by, move_one, move_all, all_over}
use Rattle.store.specs.Batches.{AreRowsAfter, AreNumbered}
use Rattle.store.proofs.CarriedInPictures.{left_above, carried_to, all_taken, all_put, whole_taken, whole_put, none_left, none_carried, all_left}
use Rattle.store.proofs.CarriedInPictures.{all_carried, next_left, next_carried}
use Rattle.store.proofs.BatchLemmas.{batch_are}
use Rattle.store.proofs.BatchedRows.{last_is, last_there}

module _ {K R N : Type 0} {old : Table K R} {new : Table K N} {transfer : Transfer K R N} (over : IsTransfer old new transfer) where
  one_moved : (r : R) (P : Picture) (f : K → Option R) (g : K → Option N)
      → move_one old new transfer r (transfer.with_both P f g) ≡ transfer.with_both P (put_by transfer.same f (transfer.key_of r) None)
      (put_by transfer.same g (transfer.key_of r) (Some (transfer.carried r)))
  one_moved r P f g =
      ap (λ k. old.set (new.set (transfer.with_both P f g) k (Some (transfer.carried r))) (transfer.key_of r) None) (over.key_is r)
      ∙ ap (λ Q. old.set Q (transfer.key_of r) None) (over.put_in P f g (transfer.key_of r) (transfer.carried r))
      ∙ over.taken P f (put_by transfer.same g (transfer.key_of r) (Some (transfer.carried r))) (transfer.key_of r)

  pub all_moved : (batch : List R) (P : Picture) (f : K → Option R) (g : K → Option N)
      → move_all old new transfer batch (transfer.with_both P f g) ≡ transfer.with_both P
      (all_taken transfer.same over.own over.met transfer.key_of transfer.carried batch f)
      (all_put transfer.same over.own over.met transfer.key_of transfer.carried batch g)
  all_moved [] P f g = refl
  all_moved (r ∷ more) P f g =
      ap (move_all old new transfer more) (one_moved r P f g)
      ∙ all_moved more P (put_by transfer.same f (transfer.key_of r) None) (put_by transfer.same g (transfer.key_of r) (Some (transfer.carried r)))

  -- Each row of the old table stands under its own key, and lies within its limits.
  abbrev pub AreOwn : Picture → Type 0
  AreOwn P = (k : K) (r : R) → old.rows P k ≡ Some r → (transfer.key_of r ≡ k) × old.IsLegal r

  -- All rows were listed, and moved.
  pub list_over : (P : Picture) → AreOwn P → ((k : K) → new.rows P k ≡ None) → {Before : R → R → Type 0} (batch : List R)
      → AreAllOf old transfer.key_of Before P batch → move_all old new transfer batch P ≡ all_over old transfer P
  list_over P own none batch are =
      ap (move_all old new transfer batch) (sym (over.same P) ∙ ap (transfer.with_both P (old.rows P)) (fun_ext none))
      ∙ all_moved batch P (old.rows P) (λ _. None)
      ∙ ap₂ (transfer.with_both P) (whole_taken transfer.same over.own over.met transfer.key_of transfer.carried (old.rows P) batch sound whole)
      (whole_put transfer.same over.own over.met transfer.key_of transfer.carried (old.rows P) batch sound whole)
    where
      sound : (r : R) → Has batch r → old.rows P (transfer.key_of r) ≡ Some r
      sound r has = are.sound r (contains_had batch r has)

      whole : (k : K) (r : R) → old.rows P k ≡ Some r → Has batch r × (transfer.key_of r ≡ k)
      whole k r e = (has_contained batch r (are.whole k r e), (own k r e).0)

  -- The rows of the picture that it leaves lie within their limits.
  pub all_over_limits : (P : Picture) → InLimits P → AreOwn P → InLimits (all_over old transfer P)
  all_over_limits P legal own = over.limits P (λ _. None) (λ k. option_map transfer.carried (old.rows P k)) legal
      (λ k r e. absurd (let never : ⊥ = cc in never)) (λ k n e. new_there k n (old.rows P k) refl e)
    where
      new_there : (k : K) (n : N) (o : Option R) → old.rows P k ≡ o → option_map transfer.carried o ≡ Some n → (transfer.new_key n ≡ k) × new.IsLegal n
      new_there k n None is e = let never : ⊥ = cc in absurd never
      new_there k n (Some r) is e =
          let it = own k r is in
          let same : transfer.carried r ≡ n = cc in
          (sym (ap transfer.new_key same) ∙ over.key_is r ∙ it.0, subst new.IsLegal same (over.legal r it.1))

-- ---- batch by batch

module _ {R N : Type 0} {old : Table ℕ R} {new : Table ℕ N} {transfer : Transfer ℕ R N} (over : IsTransfer old new transfer) where
  -- The picture once the rows up to a number are carried over.
  abbrev pub over_to : ℕ → Picture → Picture
  over_to after P = transfer.with_both P (left_above after (old.rows P)) (carried_to transfer.carried after (old.rows P))

  module _ (P : Picture) (numbered : AreNumbered (old.rows P) transfer.key_of) where
    pub over_none : ((k : ℕ) → new.rows P k ≡ None) → over_to 0 P ≡ P
    over_none none =
        ap₂ (transfer.with_both P) (none_left transfer.same over.own over.met transfer.key_of transfer.carried (old.rows P) numbered)
        (none_carried transfer.same over.own over.met transfer.key_of transfer.carried (old.rows P) numbered ∙ sym (fun_ext none)) ∙ over.same P

    module _ (after : ℕ) (batch : List R) (are : AreRowsAfter (old.rows (over_to after P)) transfer.key_of after batch) where
      left : AreRowsAfter (left_above after (old.rows P)) transfer.key_of after batch
      left = subst (λ (f : ℕ → Option R). AreRowsAfter f transfer.key_of after batch)
          (over.old_rows P (left_above after (old.rows P)) (carried_to transfer.carried after (old.rows P))) are

      -- An empty batch is the last.
      pub over_all : length batch ≡ 0 → over_to after P ≡ all_over old transfer P
      over_all empty =
          ap₂ (transfer.with_both P) (all_left transfer.same over.own over.met transfer.key_of transfer.carried (old.rows P) numbered after batch left empty)
          (all_carried transfer.same over.own over.met transfer.key_of transfer.carried (old.rows P) numbered after batch left empty)

      -- A batch more.
      pub over_next : (last : ℕ) → option_map transfer.key_of (slice_get batch (length batch - 1)) ≡ Some last
          → (move_all old new transfer batch (over_to after P) ≡ over_to last P) × (after < last)
      over_next last end =
          let it = last_there transfer.key_of batch last end in
          let most = last_is transfer.key_of batch left.rise it.0 it.1 in
          let moved : move_all old new transfer batch (over_to after P) ≡ over_to (transfer.key_of it.0) P =
          all_moved over batch P (left_above after (old.rows P)) (carried_to transfer.carried after (old.rows P))
          ∙ ap₂ (transfer.with_both P) (next_left transfer.same over.own over.met transfer.key_of transfer.carried
          (old.rows P) numbered after batch left it.0 most.0 most.1)
          (next_carried transfer.same over.own over.met transfer.key_of transfer.carried (old.rows P) numbered after batch left it.0 most.0 most.1) in (
            subst (λ n. move_all old new transfer batch (over_to after P) ≡ over_to n P) it.2 moved,
            subst (λ n. after < n) it.2 (left.sound it.0 (contains_had batch it.0 most.0)).1,
          )

  -- Its rows lie within their limits.
  pub over_limits : (P : Picture) → InLimits P → (table : IsNumberTable old transfer.key_of) → (after : ℕ) → InLimits (over_to after P)
  over_limits P legal table after = over.limits P (left_above after (old.rows P)) (carried_to transfer.carried after (old.rows P)) legal
      (λ k r e. table.legal P legal k r (left_there k r (leb k after) e))
      (λ k n e. new_there k n (leb k after) (old.rows P k) refl e)
    where
      left_there : (k : ℕ) (r : R) (b : _) → cond b None (old.rows P k) ≡ Some r → old.rows P k ≡ Some r
      left_there k r true e = let never : ⊥ = cc in absurd never
      left_there k r false e = e

      new_there : (k : ℕ) (n : N) (b : _) (o : Option R) → old.rows P k ≡ o → cond b (option_map transfer.carried o) None ≡ Some n
          → (transfer.new_key n ≡ k) × new.IsLegal n
      new_there k n true None is e = let never : ⊥ = cc in absurd never
      new_there k n true (Some r) is e =
          let it = table.legal P legal k r is in
          let same : transfer.carried r ≡ n = cc in
          (sym (ap transfer.new_key same) ∙ over.key_is r ∙ it.0, subst new.IsLegal same (over.legal r it.1))
      new_there k n false o is e = let never : ⊥ = cc in absurd never

-- ---- reads inside the transaction

-- After a read the transaction goes on over the same tables.
pub read_there : (n : ℕ) {Found : Maps → Type 0} (a b : State) → IsTrue a.in_transaction → HasTablesAt n a.now
    → ((maps : Maps) → Holds (schema_at n) a.now maps → Found maps × IsUnchanged a b) → IsTrue b.in_transaction × HasTablesAt n b.now
read_there n a b inside there lists =
    let still = (lists there.0 there.1).1.0 in
    (subst IsTrue (sym still.mode) inside, (there.0, subst (λ d. Holds (schema_at n) d there.0) (sym still.now_is) there.1))

module _ {R N : Type 0} {old : Table ℕ R} {new : Table ℕ N} {transfer : Transfer ℕ R N} (over : IsTransfer old new transfer)
    (table : IsNumberTable old transfer.key_of) where
  pub read_batch : (after : Option ℕ) (P : Picture) → InLimits P → (batch : List R) → All old.IsLegal batch → (a b : State)
      → HasPictureAt new.since a.now (over_to over (unwrap_or after 0) P)
      → ((maps : Maps) → Holds (schema_at new.since) a.now maps → FirstRows BATCH_ROWS (maps old.place) (is_next after) (map old.cells batch) × IsUnchanged a b)
      → AreRowsAfter (old.rows (over_to over (unwrap_or after 0) P)) transfer.key_of (unwrap_or after 0) batch
      × HasPictureAt new.since b.now (over_to over (unwrap_or after 0) P)
  read_batch after P legal batch limits a b shown lists =
      let Q = over_to over (unwrap_or after 0) P in
      let it = lists shown.maps shown.holds in (
        (batch_are table shown.maps Q shown.encodes (over_limits over P legal table (unwrap_or after 0)) after batch limits it.0).1,
        subst (λ d. HasPictureAt new.since d Q) (sym it.1.0.now_is) shown,
      )

  -- No row that is left lies out of its limits.
  pub read_sound : (after : ℕ) (P : Picture) → InLimits P → {db : Database} → HasPictureAt new.since db (over_to over after P)
      → ((maps : Maps) → Holds (schema_at new.since) db maps → ¬ AreEncoded old.cells old.IsLegal (maps old.place)) → ⊥
  read_sound after P legal shown stored =
      stored shown.maps shown.holds (are_encoded table shown.maps (over_to over after P) shown.encodes (over_limits over P legal table after))
