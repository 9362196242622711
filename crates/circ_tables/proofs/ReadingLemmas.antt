-- Rows found by key, or first among those that a selection takes.
use Rattle.std.proofs.Common.{◌≡◌, ◌≢◌, ◌≤◌, ◌<◌, Bool, length, inl, inr, ℕ, List, [], map, Option, None, Some, Ok, Err, Result, IfOk, refl}
use Rattle.std.proofs.Common.{sym, subst, ap, ◌∙◌}
use Rattle.std.specs.Prelude.{IfSome, option_map}
use Rattle.std.specs.Option.{option_to_list}
use Rattle.std.specs.Result.{result_err, IsErr, IsErrAnd}
use Rattle.sqlite.specs.Effect.{Database}
use Rattle.sqlite.specs.Given.{IsPlain}
use Rattle.sqlite.specs.Held.{Held, state}
use Rattle.sqlite.specs.Listing.{understood}
use Rattle.sqlite.specs.Order.{Row, column}
use Rattle.sqlite.specs.Schema.{Schema}
use Rattle.sqlite.specs.State.{State, HasCleanDisk, IsUnchanged, Shown}
use Rattle.sqlite.specs.Store.{Ghosts}
use Rattle.sqlite.specs.declared.transaction.Transaction.{Transaction}
use Rattle.sqlite_rules.specs.Lists.{Has}
use Rattle.sql_maps.specs.Calls.{FindsRow}
use Rattle.sql_maps.specs.Maps.{Map, Maps, Holds, Count}
use Rattle.sqlite.proofs.Callers.{never_commits}
use Rattle.sqlite.proofs.StateLemmas.{survives_then, survives_weaker}
use Rattle.sql_maps.specs.Calls.{IsKeptOrUndone}
use Rattle.sql_maps.proofs.ReadLemmas.{none_shown, row_unchanged, shown_unchanged}
use Rattle.terms.specs.Limits.{InLimits}
use Rattle.terms.specs.Pictures.{Picture}
use Rattle.terms.specs.declared.fault.Fault.{Fault}
use Rattle.terms.specs.declared.fault.Fault.TheVariants.{Stored}
use Rattle.circ_tables.specs.Encoding.{Encodes, HasPicture, AreEncoded}
use Rattle.circ_tables.specs.Reading.{Table, Reading, Asks, Looks, FirstEntry, OfMaps, OfMapsAt, IsStoredIn, IsStoredAt, Gets, Selects}
use Rattle.circ_tables.specs.Reading.{Entries, AllEntries, EntriesInside, Lists, ListsInside, Counts, CountShown}
use Rattle.circ_tables.specs.Cells.{number}
use Rattle.circ_tables.specs.Shape.{schema, schema_at, HasTable}
use Rattle.circ_tables.proofs.ColumnLemmas.{same_row}
use Rattle.circ_tables.proofs.InverseLemmas.{row_told, row_sound}

pub looks_of : {S : Type 0} (text : List ℕ) (given : Row) (g : Ghosts S) (old new : Held S)
    → ((s : Schema) → s ≡ schema → IsPlain (understood s text)) → Asks text given g old new → Looks g old new
looks_of text given g old new plain asks = record {
  clean = asks.clean;
  mode = asks.mode;
  leaves = λ clean is. asks.leaves clean (plain (state g old).now.schema is);
  survives = survives_weaker (state g old) (state g new) _ _
      (λ _ db may same. never_commits text given (state g old) db (plain (state g old).now.schema same) may) asks.survives;
}

is_well : {A : Type 0} (r : Result A Fault) {Q : Type 0} → result_err r ≡ None → IfOk r (λ _. Q) → Q
is_well (Ok x) is h = h
is_well (Err e) is h = absurd (let e = is in cc)

is_stored : {A : Type 0} (r : Result A Fault) → result_err r ≡ Some Stored → r ≡ Err Stored
is_stored (Ok x) is = absurd (let e = is in cc)
is_stored (Err e) is = let same : e ≡ Stored = cc in ap Err same

-- one call of the tables
pub read_of : {A S : Type 0} (r : Result A Fault) (g : Ghosts S) (old new : Held S) → Looks g old new
    → (HasCleanDisk (state g new) → IfOk r (λ _. (maps : Maps) → Holds schema (state g old).now maps → IsUnchanged (state g old) (state g new)))
    → (HasCleanDisk (state g new) → (P : Picture) → HasPicture (state g old).now P → InLimits P → r ≡ Err Stored → ⊥)
    → Reading (result_err r) (state g old) (state g new)
read_of r g old new looks unchanged sound = record {
  ready = survives_weaker (state g old) (state g new) _ _ (λ _ _ _. tt) looks.survives;
  clean = looks.clean;
  mode = looks.mode;
  leaves = λ h is maps holds. elim (looks.leaves h holds.schema_is) [ inl kept ↦ inl kept.now | inr undone ↦ inr (undone.was_open is, (undone.undone is).0) ];
  crash = λ h maps holds trees may. elim (looks.survives.crash h trees may) [ inl before ↦ before | inr other ↦ absurd (other holds.schema_is) ];
  same = λ is h maps holds. let all = is_well r is (unchanged h) maps holds in
      record { now = all.0.now_is; committed = all.0.committed_is; was_open = λ _. all.0.was_open };
  sound = λ is h P shown legal few. sound h P shown legal (is_stored r is);
}

pub if_ok : {A : Type 0} {P Q : A → Type 0} (r : Result A Fault) → ((a : A) → P a → Q a) → IfOk r P → IfOk r Q
if_ok (Ok a) f h = f a h
if_ok (Err e) f h = tt

-- the limits of the row, and what is said of it
if_both : {A : Type 0} {P Q U : A → Type 0} (r : Result A Fault) → ((a : A) → P a → Q a → U a) → IfOk r P → IfOk r Q → IfOk r U
if_both (Ok a) f h i = f a h i
if_both (Err e) f h i = tt

legal_if : {R : Type 0} (Good : R → Type 0) (o : Option R) → ((r : R) → o ≡ Some r → Good r) → IfSome o Good
legal_if Good None own = tt
legal_if Good (Some r) own = own r refl

-- a row that is found by its key
module _ {S K R : Type 0} (t : Table K R) (told : (a b : R) → t.IsLegal a → t.IsLegal b → t.cells a ≡ t.cells b → a ≡ b) (text : List ℕ)
    (plain : (s : Schema) → s ≡ schema → IsPlain (understood s text)) (key : K) (given : Row)
    (found : (old new : State) (o : Option Row) → FindsRow text given old new o → (maps : Maps) → Holds schema old.now maps
    → (maps t.place (t.key key) ≡ o) × IsUnchanged old new)
    (there : (maps : Maps) (P : Picture) → Encodes maps P → maps t.place (t.key key) ≡ option_map t.cells (t.rows P key))
    (legal : (P : Picture) → InLimits P → (r : R) → t.rows P key ≡ Some r → t.IsLegal r)
    (g : Ghosts S) (old new : Held S) (result : Result (Option R) Fault) (is : FirstEntry t.cells t.IsLegal text given g old new result) where
  looked : Looks g old new
  looked = looks_of text given g old new plain is.asks

  got : HasCleanDisk (state g new)
      → IfOk result (λ row. (maps : Maps) → Holds schema (state g old).now maps → (maps t.place (t.key key) ≡ option_map t.cells row)
      × IsUnchanged (state g old) (state g new))
  got clean = if_ok result (λ row finds maps holds. found (state g old) (state g new) (option_map t.cells row) finds maps holds) (is.finds clean)

  shown_of : HasCleanDisk (state g new)
      → IfOk result (λ row. (P : Picture) → HasPicture (state g old).now P → IfSome (t.rows P key) t.IsLegal → (row ≡ t.rows P key)
      × IsUnchanged (state g old) (state g new))
  shown_of clean = if_both result
      (λ row gets good P shows within. let both = gets shows.maps shows.holds in
      (row_told t.cells t.IsLegal told row (t.rows P key) good within _ both.0 (there shows.maps P shows.encodes), both.1))
      (got clean) is.limits

  sound_of : HasCleanDisk (state g new) → (P : Picture) → HasPicture (state g old).now P → IfSome (t.rows P key) t.IsLegal → result ≢ Err Stored
  sound_of clean P shows within err =
      let bad = is.stored clean err in
      row_sound t.cells t.IsLegal (t.rows P key) within _ bad.0
      (found (state g old) (state g new) (Some bad.0) bad.1 shows.maps shows.holds).0 (there shows.maps P shows.encodes) bad.2

  pub gets_of : Gets t key g old new result
  gets_of = record {
    looks = looked;
    gets = got;
    limits = is.limits;
    stored = λ clean err maps holds r good same. let bad = is.stored clean err in
        bad.2 r good (same_row _ bad.0 (t.cells r) (found (state g old) (state g new) (Some bad.0) bad.1 maps holds).0 same);
    shows = shown_of;
    sound = sound_of;
    view = record {
      read = read_of result g old new looked (λ clean. if_ok result (λ row gets maps holds. (gets maps holds).1) (got clean))
          (λ clean P shows within. sound_of clean P shows (legal_if t.IsLegal (t.rows P key) (legal P within)));
      shown = λ clean. if_ok result (λ row gets P shows within. (gets P shows (legal_if t.IsLegal (t.rows P key) (legal P within))).0) (shown_of clean);
    };
  }

-- a plain text that was asked for its first row leaves all as it was
found_unchanged : (text : List ℕ) → ((s : Schema) → s ≡ schema → IsPlain (understood s text))
    → (given : Row) (old new : State) (o : Option Row) → old.now.schema ≡ schema → FindsRow text given old new o → IsUnchanged old new
found_unchanged text plain given old new (Some row) is finds = row_unchanged text given old new schema is (plain schema refl) row finds
found_unchanged text plain given old new None is finds =
    shown_unchanged text given old new schema is (plain schema refl) [] (none_shown text given old new schema is (plain schema refl) finds)

-- a row that a selection finds first
module _ {S K R : Type 0} (t : Table K R) (text : List ℕ) (plain : (s : Schema) → s ≡ schema → IsPlain (understood s text)) (given : Row)
    (Found : Maps → List Row → Type 0)
    (found : (old new : State) (o : Option Row) → FindsRow text given old new o → (maps : Maps) → Holds schema old.now maps
    → Found maps (option_to_list o) × IsUnchanged old new)
    (has : (maps : Maps) (v : Row) → Found maps (option_to_list (Some v)) → (k : Row) × (maps t.place k ≡ Some v))
    (encoded : (maps : Maps) (P : Picture) → Encodes maps P → InLimits P → AreEncoded t.cells t.IsLegal (maps t.place))
    (g : Ghosts S) (old new : Held S) (result : Result (Option R) Fault) (is : FirstEntry t.cells t.IsLegal text given g old new result) where
  listed : (o : Option R) → map t.cells (option_to_list o) ≡ option_to_list (option_map t.cells o)
  listed None = refl
  listed (Some r) = refl

  selected : HasCleanDisk (state g new)
      → IfOk result (λ row. (maps : Maps) → Holds schema (state g old).now maps → Found maps (map t.cells (option_to_list row))
      × IsUnchanged (state g old) (state g new))
  selected clean = if_ok result (λ row finds maps holds. let both = found (state g old) (state g new)
      (option_map t.cells row) finds maps holds in (subst (Found maps) (sym (listed row)) both.0, both.1)) (is.finds clean)

  outside : HasCleanDisk (state g new) → result ≡ Err Stored → (maps : Maps) → Holds schema (state g old).now maps
      → ¬ AreEncoded t.cells t.IsLegal (maps t.place)
  outside clean err maps holds all =
      let bad = is.stored clean err in
      let at = has maps bad.0 (found (state g old) (state g new) (Some bad.0) bad.1 maps holds).0 in
      let row = all at.0 bad.0 at.1 in
      bad.2 row.0 row.1 row.2

  pub selects_of : Selects t Found g old new result
  selects_of =
      let looked = looks_of text given g old new plain is.asks in
      record {
        looks = looked;
        first = selected;
        limits = is.limits;
        stored = outside;
        same = λ clean. if_ok result (λ row finds is. found_unchanged text plain given (state g old) (state g new)
            (option_map t.cells row) is finds) (is.finds clean);
        read = read_of result g old new looked (λ clean. if_ok result (λ row first maps holds. (first maps holds).1) (selected clean))
            (λ clean P shows within err. outside clean err shows.maps shows.holds (encoded shows.maps P shows.encodes within));
      }

-- ---- one selection after another

kept_then : (a b c : State) → IsUnchanged a b → IsKeptOrUndone b c → IsKeptOrUndone a c
kept_then a b c one (inl two) = inl (record { now = two.now ∙ one.0.now_is; committed = two.committed ∙ one.0.committed_is; mode = two.mode ∙ one.0.mode })
kept_then a b c one (inr two) = inr (record {
  was_open = λ _. one.0.was_open;
  undone = λ is. let both = two.undone is in (both.0 ∙ one.0.committed_is, both.1 ∙ one.0.committed_is);
  autocommit = two.autocommit;
  unmarked = two.unmarked;
  counts = record { changes = two.counts.changes ∙ one.1.changes; last_rowid = two.counts.last_rowid ∙ one.1.last_rowid };
})

unchanged_then : (a b c : State) → IsUnchanged a b → IsUnchanged b c → IsUnchanged a c
unchanged_then a b c one two = (
  record {
    was_open = one.0.was_open;
    is_open = two.0.is_open;
    now_is = two.0.now_is ∙ one.0.now_is;
    committed_is = two.0.committed_is ∙ one.0.committed_is;
    mode = two.0.mode ∙ one.0.mode;
  },
  record { changes = two.1.changes ∙ one.1.changes; last_rowid = two.1.last_rowid ∙ one.1.last_rowid },
  two.2 ∙ one.2,
)

held_still : (a b : State) (maps : Maps) → IsUnchanged a b → Holds schema a.now maps → Holds schema b.now maps
held_still a b maps one holds = subst (λ d. Holds schema d maps) (sym one.0.now_is) holds

-- a selection that ended well, and then another: what both found is so in the tables of the first
module _ {S K R : Type 0} {t : Table K R}
    (encoded : (maps : Maps) (P : Picture) → Encodes maps P → InLimits P → AreEncoded t.cells t.IsLegal (maps t.place))
    {Found Then : Maps → List Row → Type 0} {g : Ghosts S} {a b c : Held S} {x : Option R}
    {r : Result (Option R) Fault} (one : Selects t Found g a b (Ok x)) (two : Selects t Then g b c r) where
  still : HasCleanDisk (state g c) → (state g a).now.schema ≡ schema → IsUnchanged (state g a) (state g b)
  still clean = one.same (two.looks.clean clean)

  schema_still : HasCleanDisk (state g c) → (state g a).now.schema ≡ schema → (state g b).now.schema ≡ schema
  schema_still clean is = ap (λ d. d.schema) (still clean is).0.now_is ∙ is

  looks_then : Looks g a c
  looks_then = record {
    clean = λ clean. one.looks.clean (two.looks.clean clean);
    mode = λ idle. two.looks.mode (one.looks.mode idle);
    leaves = λ clean is. kept_then (state g a) (state g b) (state g c) (still clean is) (two.looks.leaves clean (schema_still clean is));
    survives = survives_then (state g a) (state g b) (state g c) _ _ _ (λ _ db other. other)
        (λ clean db other is. other (schema_still clean is)) one.looks.survives two.looks.survives;
  }

  stored_then : IsStoredIn (λ maps. ¬ AreEncoded t.cells t.IsLegal (maps t.place)) g a c r
  stored_then clean err maps holds = two.stored clean err maps (held_still (state g a) (state g b) maps (still clean holds.schema_is) holds)

  found_then : OfMaps (λ maps row. Found maps (map t.cells (option_to_list x)) × Then maps (map t.cells (option_to_list row))) g a c r
  found_then clean = if_ok r (λ y found maps holds.
      let before = one.first (two.looks.clean clean) maps holds in
      let after = found maps (held_still (state g a) (state g b) maps before.1 holds) in
      ((before.0, after.0), unchanged_then (state g a) (state g b) (state g c) before.1 after.1)) (two.first clean)

  pub selects_then : Selects t (λ maps rows. Found maps (map t.cells (option_to_list x)) × Then maps rows) g a c r
  selects_then = record {
    looks = looks_then;
    first = found_then;
    limits = two.limits;
    stored = stored_then;
    same = λ clean. if_ok r (λ y same is. unchanged_then (state g a) (state g b) (state g c) (still clean is) (same (schema_still clean is))) (two.same clean);
    read = read_of r g a c looks_then (λ clean. if_ok r (λ y found maps holds. (found maps holds).1) (found_then clean))
        (λ clean P shows within err. stored_then clean err shows.maps shows.holds (encoded shows.maps P shows.encodes within));
  }

-- what was found gives the row that is answered
pub selects_gives : {S K R : Type 0} {t : Table K R} {Found Wanted : Maps → List Row → Type 0} {g : Ghosts S} {a b : Held S}
    {x y : Option R} → Selects t Found g a b (Ok x)
    → ((maps : Maps) (db : Database) → Holds schema db maps → Found maps (map t.cells (option_to_list x))
    → Wanted maps (map t.cells (option_to_list y))) → IfSome y t.IsLegal → Selects t Wanted g a b (Ok y)
selects_gives {g = g} {a = a} {b = b} is so legal = record {
  looks = is.looks;
  first = λ clean maps holds. let found = is.first clean maps holds in (so maps (state g a).now holds found.0, found.1);
  limits = legal;
  stored = λ clean err. absurd (let never : ⊥ = cc in never);
  same = is.same;
  read = is.read;
}

-- a fault that is handed on
pub selects_fails : {S K R : Type 0} {t : Table K R} {Found Wanted : Maps → List Row → Type 0} {g : Ghosts S} {a b : Held S}
    (r : Result (Option R) Fault) (fault : Fault) → IsErr r × IsErrAnd r (λ e. e ≡ fault) → Selects t Found g a b (Err fault)
    → Selects t Wanted g a b r
selects_fails (Ok x) fault is seen = absurd (let none = is.0 in cc)
selects_fails {R = R} {g = g} {a = a} {b = b} (Err e) fault is seen = record {
  looks = seen.looks;
  first = λ clean. tt;
  limits = tt;
  stored = λ clean err. seen.stored clean (subst (λ f. ◌≡◌ {A = Result (Option R) Fault} (Err f) (Err Stored)) is.1 err);
  same = λ clean. tt;
  read = subst (λ f. Reading (Some f) (state g a) (state g b)) (sym is.1) seen.read;
}

-- the rows that a list takes
module _ {S K R L : Type 0} (s : Schema) (t : Table K R) (items : L → List R) (text : List ℕ) (given : Row) (Found : Map → List Row → Type 0)
    (found : (old new : State) (rows : List Row) → Shown text given old new rows → (maps : Maps) → Holds s old.now maps
    → Found (maps t.place) rows × IsUnchanged old new)
    (has : (m : Map) (rows : List Row) → Found m rows → (v : Row) → Has rows v → (k : Row) × (m k ≡ Some v))
    (g : Ghosts S) (old new : Held S) (result : Result L Fault) (is : Entries items t.cells t.IsLegal text given g old new result) where
  listed_in : OfMapsAt s (λ maps l. Found (maps t.place) (map t.cells (items l))) g old new result
  listed_in clean = if_ok result (λ l shown maps holds. found (state g old) (state g new) (map t.cells (items l)) shown maps holds) (is.shown clean)

  outside_of : IsStoredAt s (λ maps. ¬ AreEncoded t.cells t.IsLegal (maps t.place)) g old new result
  outside_of clean err maps holds all =
      let bad = is.stored clean err in
      bad.2 (λ v there. let at = has (maps t.place) bad.0 (found (state g old) (state g new) bad.0 bad.1 maps holds).0 v there in all at.0 v at.1)

module _ {S K R L : Type 0} (t : Table K R) (items : L → List R) (text : List ℕ)
    (plain : (s : Schema) → s ≡ schema → IsPlain (understood s text)) (given : Row) (Found : Map → List Row → Type 0)
    (found : (old new : State) (rows : List Row) → Shown text given old new rows → (maps : Maps) → Holds schema old.now maps
    → Found (maps t.place) rows × IsUnchanged old new)
    (has : (m : Map) (rows : List Row) → Found m rows → (v : Row) → Has rows v → (k : Row) × (m k ≡ Some v))
    (encoded : (maps : Maps) (P : Picture) → Encodes maps P → InLimits P → AreEncoded t.cells t.IsLegal (maps t.place))
    (g : Ghosts S) (old new : Held S) (result : Result L Fault) (is : AllEntries items t.cells t.IsLegal text given g old new result) where
  pub lists_of : Lists t items Found g old new result
  lists_of =
      let looked = looks_of text given g old new plain is.asks in
      let listed = listed_in schema t items text given Found found has g old new result is.entries in
      let outside = outside_of schema t items text given Found found has g old new result is.entries in
      record {
        looks = looked;
        lists = listed;
        limits = is.entries.limits;
        stored = outside;
        sound = λ clean P shows legal err. outside clean err shows.maps shows.holds (encoded shows.maps P shows.encodes legal);
        read = read_of result g old new looked (λ clean. if_ok result (λ l lists maps holds. (lists maps holds).1) (listed clean))
            (λ clean P shows within err. outside clean err shows.maps shows.holds (encoded shows.maps P shows.encodes within));
      }

-- inside a transaction
module _ {S K R L : Type 0} (t : Table K R) (items : L → List R) (text : List ℕ) (given : Row) (Found : Map → List Row → Type 0)
    (found : (n : ℕ) → HasTable t.since n → (old new : State) (rows : List Row) → Shown text given old new rows → (maps : Maps)
    → Holds (schema_at n) old.now maps → Found (maps t.place) rows × IsUnchanged old new)
    (has : (m : Map) (rows : List Row) → Found m rows → (v : Row) → Has rows v → (k : Row) × (m k ≡ Some v))
    (g : Ghosts S) (old new : Transaction S) (result : Result L Fault) (is : EntriesInside items t.cells t.IsLegal text given g old new result) where
  pub lists_inside : ListsInside t items Found g old new result
  lists_inside = record {
    works = is.works;
    lists = λ n there. listed_in (schema_at n) t items text given Found (found n there) has g old.conn.now new.conn.now result is.entries;
    limits = is.entries.limits;
    stored = λ n there. outside_of (schema_at n) t items text given Found (found n there) has g old.conn.now new.conn.now result is.entries;
  }

-- how many rows a text counts
module _ {S K R : Type 0} (t : Table K R) (text : List ℕ) (plain : (s : Schema) → s ≡ schema → IsPlain (understood s text)) (given : Row) (passes : Row → Bool)
    (found : (old new : State) (n : ℕ) → (row : Row) × FindsRow text given old new (Some row) × (column row 0 ≡ number n) × (n ≤ 4294967295)
    → (maps : Maps) → Holds schema old.now maps → Count (maps t.place) passes n × IsUnchanged old new)
    (many : (old new : State) → (row : Row) × FindsRow text given old new (Some row)
    × (0 < length row → (n : ℕ) → n ≤ 4294967295 → column row 0 ≢ number n) → (maps : Maps) → Holds schema old.now maps → (n : ℕ)
    × Count (maps t.place) passes n × (4294967295 < n))
    (g : Ghosts S) (old new : Held S) (result : Result ℕ Fault) (is : CountShown text given g old new result) where
  pub counts_of : Counts t passes g old new result
  counts_of = record {
    looks = looks_of text given g old new plain is.asks;
    counts = λ clean. if_ok result (λ n. found (state g old) (state g new) n) (is.counts clean);
    stored = λ clean err. many (state g old) (state g new) (is.stored clean err);
  }
