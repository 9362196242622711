-- Reads with their own form: the row of `meta`, a closed day, what is kept, and a branch's closed days.
use Rattle.std.proofs.Common.{◌≡◌, ◌≢◌, ◌∙◌, ℕ, List, [], ◌∷◌, map, Option, Some, Ok, Err, Result, IfOk, refl, sym, subst}
use Rattle.std.specs.Prelude.{IfSome, IsUtf8, option_map}
use Rattle.std.specs.List.{All}
use Rattle.std.proofs.lemmas.List.Elements.{All-map, All-weaker}
use Rattle.calendar.specs.Days.{IsDayNumber}
use Rattle.sqlite.specs.Given.{IsPlain}
use Rattle.sqlite.specs.Held.{Held, state}
use Rattle.sqlite.specs.Listing.{understood}
use Rattle.sqlite.specs.Order.{Row}
use Rattle.sqlite.specs.Schema.{Schema}
use Rattle.sqlite.specs.State.{HasCleanDisk, IsUnchanged, Shown}
use Rattle.sqlite.specs.Store.{Ghosts}
use Rattle.sqlite.specs.declared.transaction.Transaction.{Transaction}
use Rattle.sql_maps.specs.Maps.{Maps, Holds, ListedBy, SecondBelow}
use Rattle.terms.specs.Limits.{InLimits, IsOwner, IsMeta}
use Rattle.terms.specs.Pictures.{Picture}
use Rattle.terms.specs.declared.command.Owner.{Owner}
use Rattle.terms.specs.declared.fault.Fault.{Fault}
use Rattle.terms.specs.declared.fault.Fault.TheVariants.{Stored}
use Rattle.terms.specs.declared.limits.TheConstants.{SCHEMA}
use Rattle.terms.specs.declared.row.MetaRow.{MetaRow}
use Rattle.terms.specs.declared.row.KeptRow.{KeptRow}
use Rattle.terms.specs.declared.row.ClosedDayRow.{ClosedDayRow}
use Rattle.circ_tables.specs.declared.kept.KeptReply.{KeptReply}
use Rattle.circ_tables.specs.declared.meta.TheConstants.{ALL_META}
use Rattle.circ_tables.specs.Cells.{number_key, kept_key, kept_cells, meta_cells}
use Rattle.circ_tables.specs.Numbered.{grown, schema_grown}
use Rattle.circ_tables.specs.Encoding.{HasPicture, HasTexts, IsClosedDay, reply_of}
use Rattle.circ_tables.specs.Reading.{Asks, OfMaps, OfMapsAt, OfPicture, OfPictureAt, IsStoredAt, IsSoundAt, IsLone, WorksInside, GetsMeta}
use Rattle.circ_tables.specs.Reading.{GetsMetaInside, GetsKept, kept_with, Lists, ListsDays, AreSuch}
use Rattle.circ_tables.specs.ClosedDays.{closed_days}
use Rattle.circ_tables.specs.Selections.{is_closed_at, AreClosedDays}
use Rattle.circ_tables.specs.Shape.{schema, schema_at, later_tables, later_indexes, meta_place, closed_days_place, kept_place}
use Rattle.circ_tables.proofs.FoundLemmas.{all_meta_plain, lone_meta, only_meta}
use Rattle.circ_tables.proofs.DayLemmas.{day_of, days_are, days_shown}
use Rattle.circ_tables.proofs.InverseLemmas.{meta_row_told, meta_alone, reply_told, row_sound}
use Rattle.circ_tables.proofs.QueryLemmas.{shown_mode}
use Rattle.circ_tables.proofs.ReadingLemmas.{looks_of, read_of, if_ok}
use Rattle.circ_tables.proofs.TableLemmas.{closed_days_within, kept_within}

-- what was read of `meta`: the one row that its text shows
pub record MetaRead {S : Type 0} (g : Ghosts S) (old new : Held S) (result : Result MetaRow Fault) : Type 0 where
  pub shown : HasCleanDisk (state g new) → IfOk result (λ r. Shown ALL_META.now [] (state g old) (state g new) (meta_cells r ∷ []))
  pub limits : IfOk result IsMeta
  pub stored : HasCleanDisk (state g new) → result ≡ Err Stored → (rows : List Row) × Shown ALL_META.now [] (state g old) (state g new) rows
      × ((r : MetaRow) → IsMeta r → rows ≢ meta_cells r ∷ [])

-- from the rows that were shown
pub meta_read : {S : Type 0} (g : Ghosts S) (old new : Held S) (result : Result MetaRow Fault) (rows slice : List Row) → slice ≡ rows
    → (HasCleanDisk (state g new) → Shown ALL_META.now [] (state g old) (state g new) rows)
    → IfOk result (λ r. slice ≡ meta_cells r ∷ []) → IfOk result IsMeta
    → (result ≡ Err Stored → (r : MetaRow) → IsMeta r → slice ≢ meta_cells r ∷ []) → MetaRead g old new result
meta_read g old new result rows slice same shown cells limits stored = record {
  shown = λ clean. if_ok result (λ r is. subst (Shown ALL_META.now [] (state g old) (state g new)) (sym same ∙ is) (shown clean)) cells;
  limits = limits;
  stored = λ clean err. (rows, shown clean, λ r legal is. stored err r legal (same ∙ is));
}

module _ {S : Type 0} (g : Ghosts S) (old new : Held S) (result : Result MetaRow Fault) (is : MetaRead g old new result) where
  -- in the schema of a number
  module _ (n : ℕ) where
    as_grown : (maps : Maps) → Holds (schema_at n) (state g old).now maps → Holds (grown (later_tables n) (later_indexes n)) (state g old).now maps
    as_grown maps = subst (λ s. Holds s (state g old).now maps) (schema_grown n)

    meta_alone_in : HasCleanDisk (state g new)
        → IfOk result (λ r. (maps : Maps) → Holds (schema_at n) (state g old).now maps
        → ((maps meta_place (number_key 1) ≡ Some (meta_cells r)) × IsUnchanged (state g old) (state g new))
        × IsLone (maps meta_place) r)
    meta_alone_in clean = if_ok result
        (λ r shown maps holds. lone_meta (later_tables n) (later_indexes n) (state g old) (state g new) (meta_cells r ∷ [])
        (meta_cells r) refl shown maps (as_grown maps holds)) (is.shown clean)

    meta_gets : OfMapsAt (schema_at n) (λ maps row. maps meta_place (number_key 1) ≡ Some (meta_cells row)) g old new result
    meta_gets clean = if_ok result (λ r all maps holds. (all maps holds).0) (meta_alone_in clean)

    meta_stored : IsStoredAt (schema_at n)
        (λ maps. (r : MetaRow) → IsMeta r → maps meta_place (number_key 1) ≡ Some (meta_cells r) → ¬ IsLone (maps meta_place) r) g old new
        result
    meta_stored clean err maps holds r legal there alone =
        let bad = is.stored clean err in
        bad.2 r legal (only_meta (later_tables n) (later_indexes n) (state g old) (state g new) bad.0 bad.1 maps (as_grown maps holds)
        (number_key 1) (meta_cells r) there alone)

    meta_shown : OfPictureAt n (λ P row. row ≡ P.meta) g old new result
    meta_shown clean = if_ok result (λ r each P shown. meta_row_told P r _ (each shown.maps shown.holds) (shown.encodes.meta.there 1 tt)) (meta_gets clean)

    meta_sound : IsSoundAt n (λ P. IsMeta P.meta) g old new result
    meta_sound clean P shown legal err =
        meta_stored clean err shown.maps shown.holds P.meta legal (shown.encodes.meta.there 1 tt) (meta_alone shown.maps P shown.encodes)

  pub meta_of : Asks ALL_META.now [] g old new → GetsMeta g old new result
  meta_of asks =
      let looked = looks_of ALL_META.now [] g old new (all_meta_plain (later_tables SCHEMA) (later_indexes SCHEMA)) asks in
      record {
        looks = looked;
        gets = meta_gets SCHEMA;
        alone = λ clean. if_ok result (λ r all maps holds. (all maps holds).1) (meta_alone_in SCHEMA clean);
        limits = is.limits;
        stored = meta_stored SCHEMA;
        shows = meta_shown SCHEMA;
        sound = meta_sound SCHEMA;
        view = record {
          read = read_of result g old new looked (λ clean. if_ok result (λ row got maps holds. (got maps holds).1) (meta_gets SCHEMA clean))
              (λ clean P shown legal. meta_sound SCHEMA clean P shown legal.meta);
          shown = λ clean. if_ok result (λ row got P shown legal. (got P shown).0) (meta_shown SCHEMA clean);
        };
      }

pub meta_inside : {S : Type 0} (g : Ghosts S) (old new : Transaction S) (result : Result MetaRow Fault) → WorksInside g old new
    → MetaRead g old.conn.now new.conn.now result → GetsMetaInside g old new result
meta_inside g old new result works is = record {
  works = works;
  inside = λ clean begun. if_ok result (λ r shown. shown_mode ALL_META.now [] (state g old.conn.now) (state g new.conn.now) (meta_cells r ∷ []) shown ∙ begun)
      (is.shown clean);
  gets = λ n has. meta_gets g old.conn.now new.conn.now result is n;
  limits = is.limits;
  stored = λ n has. meta_stored g old.conn.now new.conn.now result is n;
  shows = λ n has. meta_shown g old.conn.now new.conn.now result is n;
  sound = λ n has. meta_sound g old.conn.now new.conn.now result is n;
}

-- what is kept under a caller's key
module _ {S : Type 0} (owner : Owner) (key : List ℕ) (text : List ℕ) (plain : (s : Schema) → s ≡ schema → IsPlain (understood s text)) (given : Row)
    (g : Ghosts S) (old new : Held S) (result : Result (Option KeptReply) Fault) (asks : Asks text given g old new)
    (gets : OfMaps (λ maps kept. maps kept_place (kept_key owner key) ≡ option_map (kept_with owner key) kept) g old new result)
    (stored : HasCleanDisk (state g new) → result ≡ Err Stored → (maps : Maps) → Holds schema (state g old).now maps
    → (v : Row) × (maps kept_place (kept_key owner key) ≡ Some v) × ((r : KeptRow) → IsUtf8 r.text → IsUtf8 r.reply → v ≢ kept_cells r)) where
  kept_shown : HasCleanDisk (state g new)
      → IfOk result (λ kept. (P : Picture) → HasPicture (state g old).now P → IsOwner owner
      → (kept ≡ option_map reply_of (P.kept owner key)) × IsUnchanged (state g old) (state g new))
  kept_shown clean = if_ok result
      (λ kept got P shown is. let all = got shown.maps shown.holds in
      (reply_told owner key kept (P.kept owner key) _ all.0 (shown.encodes.kept.there (owner, key) is), all.1)) (gets clean)

  kept_sound : HasCleanDisk (state g new) → (P : Picture) → HasPicture (state g old).now P → IsOwner owner
      → IfSome (P.kept owner key) HasTexts → result ≢ Err Stored
  kept_sound clean P shown is legal err =
      let bad = stored clean err shown.maps shown.holds in
      row_sound kept_cells HasTexts (P.kept owner key) legal _ bad.0 bad.1 (shown.encodes.kept.there (owner, key) is) (λ r good. bad.2 r good.0 good.1)

  kept_legal : HasCleanDisk (state g new) → (P : Picture) → HasPicture (state g old).now P → InLimits P → result ≢ Err Stored
  kept_legal clean P shown legal err =
      let bad = stored clean err shown.maps shown.holds in
      let row = kept_within shown.maps P shown.encodes legal (kept_key owner key) bad.0 bad.1 in
      bad.2 row.0 row.1.2.0 row.1.2.1 row.2

  pub kept_of : GetsKept owner key g old new result
  kept_of =
      let looked = looks_of text given g old new plain asks in
      record {
        looks = looked;
        gets = gets;
        stored = λ clean err maps holds r good fine there. let bad = stored clean err maps holds in
            bad.2 r good fine (let same : Some bad.0 ≡ Some (kept_cells r) = sym bad.1
            ∙ there in let one : bad.0 ≡ kept_cells r = cc in one);
        shows = kept_shown;
        sound = kept_sound;
        view = record {
          read = read_of result g old new looked (λ clean. if_ok result (λ kept got maps holds. (got maps holds).1) (gets clean)) kept_legal;
          shown = λ clean. if_ok result (λ kept got P shown legal is. (got P shown is).0) (kept_shown clean);
        };
      }

-- the days on which a branch is closed singly, from the rows that were read, where there are any
module _ {S L D : Type 0} (items : L → List ℕ) (rows : D → List ClosedDayRow) (branch : ℕ) (g : Ghosts S) (old new : Held S)
    (read : Result D Fault) (result : Result L Fault)
    (is : Lists closed_days rows (λ m. ListedBy SecondBelow m (is_closed_at branch)) g old new read)
    (made : IfOk result (λ l. (d : D) × (read ≡ Ok d) × (items l ≡ map day_of (rows d)))) (failed : result ≡ Err Stored → read ≡ Err Stored) where
  from_rows : {P : D → Type 0} {Q : L → Type 0} → ((d : D) (l : L) → items l ≡ map day_of (rows d) → P d → Q l) → IfOk read P → IfOk result Q
  from_rows {P} {Q} f h = if_ok result (λ l from. f from.0 l from.2 (subst (λ (r : Result D Fault). IfOk r P) from.1 h)) made

  all_days : OfMaps (λ maps l. AreClosedDays (maps closed_days_place) branch (items l)) g old new result
  all_days clean = from_rows (λ d l are listed maps holds. let all = listed maps holds in
      (subst (AreClosedDays (maps closed_days_place) branch) (sym are) (days_are branch maps _ holds (rows d) all.0), all.1))
      (is.lists clean)

  days_in : OfPicture (λ P l. AreSuch (items l) (P.closed_days branch)) g old new result
  days_in clean = if_ok result (λ l are P shown. let all = are shown.maps shown.holds in
      (days_shown branch shown.maps P shown.encodes (items l) all.0, all.1)) (all_days clean)

  pub days_of : ListsDays items branch g old new result
  days_of = record {
    looks = is.looks;
    days = all_days;
    limits = from_rows (λ d l are legal. subst (λ (l : List ℕ). All IsDayNumber l) (sym are)
        (All-map IsDayNumber day_of (rows d) (All-weaker IsClosedDay (λ c. IsDayNumber (day_of c)) (λ c good. good.1) (rows d) legal)))
        is.limits;
    stored = λ clean err. is.stored clean (failed err);
    shows = days_in;
    view = record {
      read = read_of result g old new is.looks (λ clean. if_ok result (λ l got maps holds. (got maps holds).1) (all_days clean))
          (λ clean P shown legal err. is.stored clean (failed err) shown.maps shown.holds (closed_days_within shown.maps P shown.encodes legal));
      shown = λ clean. if_ok result (λ l got P shown legal. (got P shown).0) (days_in clean);
    };
  }
