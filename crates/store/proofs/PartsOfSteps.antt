-- Successive parts of a step, inside a transaction.
use Rattle.std.proofs.Common.{◌≡◌, ◌==◌, ◌<◌, ◌∙◌, ℕ, zero, suc, List, [], ◌∷◌, length, map, ltb, cond, inl, inr, ◌⊎◌, Option, Some, None}
use Rattle.std.proofs.Common.{true, false, refl, sym, ap, subst, arith, IsTrue, true≢false}
use Rattle.std.specs.Prelude.{Result, Ok, Err, IfErr, option_map, slice_get}
use Rattle.std.specs.List.{All}
use Rattle.std.specs.Result.{IsErr, IsErrAnd}
use Rattle.std.proofs.Math.Path.{fun_ext}
use Rattle.std.proofs.lemmas.Bool.{cases_Bool, lt-ltb, le-ltb, ne_eqb}
use Rattle.sqlite.specs.Effect.{Database}
use Rattle.sqlite.specs.Held.{state}
use Rattle.sqlite.specs.Order.{Row, column}
use Rattle.sqlite.specs.Schema.{Schema}
use Rattle.sqlite.specs.State.{HasCleanDisk}
use Rattle.sqlite.specs.Store.{Ghosts}
use Rattle.sqlite.specs.declared.transaction.Transaction.{Transaction}
use Rattle.sql_maps.specs.Maps.{Map, Maps, IsMap, IsFreeFrom, Holds, ListedBy, PairBelow, same_key, put as put_map, put_at}
use Rattle.sql_maps.proofs.CallLemmas.{on_ok}
use Rattle.terms.specs.Limits.{InLimits, IsMeta, IsRule1}
use Rattle.terms.specs.Orders.{IsPairBefore}
use Rattle.terms.specs.Pictures.{Picture}
use Rattle.terms.specs.Schemas.{IsOfSchema1, IsOfSchema2, IsOfSchema3, led_to_4}
use Rattle.terms.specs.declared.row.MetaRow.{MetaRow}
use Rattle.terms.specs.declared.row.RuleRow1.{RuleRow1}
use Rattle.terms.specs.declared.fault.Fault.{Fault}
use Rattle.terms.specs.declared.fault.Fault.TheVariants.{Stored, Database as DatabaseFault}
use Rattle.circ_tables.specs.Cells.{number, number_key, pair_key, meta_cells, rule1_cells}
use Rattle.circ_tables.specs.Encoding.{Any, Pair, Encodes, HasPictureAt, AreEncoded, IsEncoded}
use Rattle.circ_tables.specs.Holds.{holds}
use Rattle.circ_tables.specs.HoldsOfSchema1.{holds1}
use Rattle.circ_tables.specs.Loans.{loans}
use Rattle.circ_tables.specs.LoansOfSchema1.{loans1}
use Rattle.circ_tables.specs.Puts.{ChangesRows, Makes}
use Rattle.circ_tables.specs.Reading.{Table, GetsMetaInside, ListsInside}
use Rattle.circ_tables.specs.Rules.{rules}
use Rattle.circ_tables.specs.RulesOfSchema1.{rules1}
use Rattle.circ_tables.specs.SchemaNumber.{NamesSchema}
use Rattle.circ_tables.specs.Selections.{is_any}
use Rattle.circ_tables.specs.Shape.{HasTable, schema_at, meta, meta_place, rules1_place, loans1_place, holds1_place, holds_place}
use Rattle.circ_tables.specs.Shape.{rules_place, loans_place, barcodes_place, notes_place}
use Rattle.circ_tables.proofs.TableLemmas.{rules1_within}
use Rattle.store.specs.Legal.{HasLegal}
use Rattle.store.specs.Library.{HasTablesAt}
use Rattle.store.specs.Lists.{AreAllOf}
use Rattle.store.specs.Carrying.{MigratesInside, CarriesAll, MovesBatch, IsToCarry, Transfer, AreCarried, AreMoved, move_rows, all_over}
use Rattle.store.specs.Migrating.{NamesInside, AreNamed, AreLedIfNamed}
use Rattle.store.specs.Transfers.{holds_transfer, loans_transfer, rules_transfer, rules_carried}
use Rattle.store.specs.Schemas.{IsKnown}
use Rattle.store.proofs.OpenLemmas.{of_known}
use Rattle.store.proofs.ListLemmas.{all_are, pair_before}
use Rattle.store.proofs.MigrateLemmas.{list_over, read_there}
use Rattle.store.proofs.CarriedFromAnyTables.{listed_moved}
use Rattle.store.proofs.ChangeSteps.{then, keeps_then}

-- ---- a part that ended well, and then another

module _ {S T U : Type 0} (g : Ghosts S) {old mid new : Transaction S} {x : T} {r : Result U Fault} {from at to : ℕ}
    {Led1 Led2 : Maps → Maps → Type 0} {Ready1 Ready2 : Picture → Type 0} {c1 c2 : Picture → Picture} where
  pub migrates_then : (Led : Maps → Maps → Type 0) (Ready : Picture → Type 0) (change : Picture → Picture) → ((a b c : Maps) → Led1 a b → Led2 b c → Led a c)
      → ((P : Picture) → Ready P → Ready1 P × Ready2 (c1 P)) → ((P : Picture) → Ready P → c2 (c1 P) ≡ change P)
      → MigratesInside from at Led1 Ready1 c1 g old mid (Ok x) → MigratesInside at to Led2 Ready2 c2 g mid new r → MigratesInside from to Led Ready change g old new r
  migrates_then Led Ready change glue parts same one two = record {
    same_reference = two.same_reference ∙ one.same_reference;
    survives = then _ _ _ one.survives two.survives;
    kept = λ clean begun there. keeps_then _ _ _ (one.kept (early clean) begun there)
        (two.kept clean (one.inside (early clean) begun there) (between clean begun there));
    inside = λ clean begun there. two.inside clean (one.inside (early clean) begun there) (between clean begun there);
    rows = λ clean begun maps holds.
        let it = one.rows (early clean) begun maps holds in
        on_ok r (λ e. (e.0, e.1, glue maps it.0 e.0 it.2 e.2)) (two.rows clean (one.inside (early clean) begun (maps, holds)) it.0 it.1);
    migrates = λ clean begun P shown ready.
        let are = parts P ready in
        on_ok r (subst (HasPictureAt to (state g new.conn.now).now) (same P ready))
        (two.migrates clean (one.inside (early clean) begun (shown.maps, shown.holds)) (c1 P)
        (one.migrates (early clean) begun P shown are.0) are.1);
    sound = λ clean begun told P shown ready.
        let are = parts P ready in
        two.sound clean (one.inside (early clean) begun (shown.maps, shown.holds)) told (c1 P) (one.migrates (early clean) begun P shown are.0) are.1;
  }
    where
      early : HasCleanDisk (state g new.conn.now) → HasCleanDisk (state g mid.conn.now)
      early clean = omega (arith, two.survives.clean)

      between : HasCleanDisk (state g new.conn.now) → IsTrue (state g old.conn.now).in_transaction
          → HasTablesAt from (state g old.conn.now).now → HasTablesAt at (state g mid.conn.now).now
      between clean begun there = let it = one.rows (early clean) begun there.0 there.1 in (it.0, it.1)

-- A part that failed, whose fault is handed on.
pub migrates_failed : {S T U : Type 0} (g : Ghosts S) {old new : Transaction S} {fault : Fault}
    (r : Result U Fault) {from at to : ℕ} {Led1 Led : Maps → Maps → Type 0} {Ready1 Ready : Picture → Type 0}
    {c1 change : Picture → Picture}
    → IsErr r × IsErrAnd r (λ e. e ≡ fault) → ((P : Picture) → Ready P → Ready1 P)
    → MigratesInside {S = S} {T = T} from at Led1 Ready1 c1 g old new (Err fault) → MigratesInside from to Led Ready change g old new r
migrates_failed g (Ok x) is parts one = absurd (let none = is.0 in cc)
migrates_failed {T = T} g {fault = fault} (Err e) is parts one = record {
  same_reference = one.same_reference;
  survives = one.survives;
  kept = one.kept;
  inside = λ clean begun there. tt;
  rows = λ clean begun maps holds. tt;
  migrates = λ clean begun P shown ready. tt;
  sound = λ clean begun told P shown ready.
      let named : e ≡ Stored = cc in
      let same : fault ≡ Stored = sym is.1 ∙ named in
      let failed : Fault → Result T Fault = λ f. Err f in
      one.sound clean begun (ap failed same) P shown (parts P ready);
}

-- ---- tables that are made beside others

-- The maps with no row from a place on.
abbrev pub cut : ℕ → Maps → Maps
cut place maps at k = cond (ltb at place) (maps at k) None

cut_free : (place : ℕ) (maps : Maps) → IsFreeFrom place (cut place maps)
cut_free place maps at from k = ap (λ b. cond b (maps at k) None) (le-ltb at place from)

cut_is : (place : ℕ) (maps : Maps) (at : ℕ) → at < place → cut place maps at ≡ maps at
cut_is place maps at less = fun_ext (λ k. ap (λ b. cond b (maps at k) None) (lt-ltb at place less))

got_below : {A : Type 0} (list : List A) (at : ℕ) (x : A) → slice_get list at ≡ Some x → at < length list
got_below [] at x e = let never : ⊥ = cc in absurd never
got_below (y ∷ list) zero x e = omega arith
got_below (y ∷ list) (suc at) x e = let less = got_below list at x e in omega (arith, less)

-- The tables of a schema hold the maps up to their number.
cut_holds : (s : Schema) (db : Database) (maps : Maps) → Holds s db maps → Holds s db (cut (length s.tables) maps)
cut_holds s db maps holds = record {
  sound = holds.sound;
  schema_is = holds.schema_is;
  tables = λ at table there. subst (λ (m : Map). IsMap table (db.trees table.tree) m)
      (sym (cut_is (length s.tables) maps at (got_below s.tables at table there))) (holds.tables at table there);
}

-- Only the database refuses it.
not_stored : {T : Type 0} (r : Result T Fault) → IfErr r (λ fault. fault ≡ DatabaseFault) → r ≡ Err Stored → ⊥
not_stored (Ok x) fault told = cc
not_stored (Err e) fault told = let same : e ≡ Stored = cc in let never : DatabaseFault ≡ Stored = sym fault ∙ same in cc

-- Tables were made from a place on: they are empty, and those before are as they were.
pub record AreMadeBeside (place : ℕ) (maps now : Maps) : Type 0 where
  pub same : (at : ℕ) → at < place → now at ≡ maps at
  pub empty : IsFreeFrom place now

-- The tables of another schema were made beside those of one.
pub made_migrates : {S T : Type 0} (g : Ghosts S) {old new : Transaction S} (r : Result T Fault) (from to place : ℕ)
    → length (schema_at from).tables ≡ place → (IsReady : Picture → Type 0)
    → ((maps : Maps) (P : Picture) → Encodes maps P → IsReady P → Encodes (cut place maps) P) → Makes (schema_at from) (schema_at to) g old new r
    → MigratesInside from to (AreMadeBeside place) IsReady (λ P. P) g old new r
made_migrates g {old} {new} r from to place long IsReady encodes made = record {
  same_reference = made.works.same_reference;
  survives = made.works.survives;
  kept = λ clean begun there. made.works.kept clean;
  inside = λ clean begun there. on_ok r (λ moves. moves.is_inside) (made.moves clean begun);
  rows = λ clean begun maps holds. on_ok r
      (λ moves. (
        cut place maps,
        moves.maps (cut place maps) (free maps) (held maps holds),
        record { same = cut_is place maps; empty = cut_free place maps },
      )) (made.moves clean begun);
  migrates = λ clean begun P shown ready. on_ok r
      (λ moves. record {
        maps = cut place shown.maps;
        holds = moves.maps (cut place shown.maps) (free shown.maps) (held shown.maps shown.holds);
        encodes =
            encodes shown.maps P shown.encodes ready;
      }) (made.moves clean begun);
  sound = λ clean begun told P shown ready. not_stored r made.fault told;
}
  where
    free : (maps : Maps) → IsFreeFrom (length (schema_at from).tables) (cut place maps)
    free maps = subst (λ n. IsFreeFrom n (cut place maps)) (sym long) (cut_free place maps)

    held : (maps : Maps) → Holds (schema_at from) (state g old.conn.now).now maps → Holds (schema_at from) (state g old.conn.now).now (cut place maps)
    held maps holds = subst (λ n. Holds (schema_at from) (state g old.conn.now).now (cut n maps)) long
        (cut_holds (schema_at from) (state g old.conn.now).now maps holds)

-- A table that is made has no row.
none_encoded : {K R : Type 0} {key : K → Row} {cells : R → Row} {t : K → Option R} → ((k : K) → t k ≡ None) → IsEncoded Any key cells (λ j. None) t
none_encoded {cells = cells} none = record { there = λ k any. sym (ap (option_map cells) (none k)); only = λ j v e. absurd (let never : ⊥ = cc in never) }

-- The tables of schema 1 show a picture with no hold of schema 2, no rule and no loan of schema 3, and no
-- barcode and no note of schema 4.
pub encoded_1 : (maps : Maps) (P : Picture) → Encodes maps P → IsOfSchema1 P × InLimits P → Encodes (cut 13 maps) P
encoded_1 maps P is ready = record {
  meta = is.meta;
  branches = is.branches;
  closed_days = is.closed_days;
  kinds = is.kinds;
  rules1 = is.rules1;
  patrons = is.patrons;
  titles = is.titles;
  copies = is.copies;
  loans1 = is.loans1;
  holds1 = is.holds1;
  transits = is.transits;
  lines = is.lines;
  kept = is.kept;
  holds = none_encoded ready.0.later;
  rules = none_encoded (λ k. ready.0.later_rules k.0 k.1);
  loans = none_encoded ready.0.later_loans;
  barcodes = none_encoded ready.0.later_labels.barcodes;
  notes = none_encoded ready.0.later_labels.notes;
}

-- Those of schema 2 one with no rule and no loan of schema 3, and no barcode and no note of schema 4.
pub encoded_2 : (maps : Maps) (P : Picture) → Encodes maps P → IsOfSchema2 P × InLimits P → Encodes (cut 14 maps) P
encoded_2 maps P is ready = record {
  meta = is.meta;
  branches = is.branches;
  closed_days = is.closed_days;
  kinds = is.kinds;
  rules1 = is.rules1;
  patrons = is.patrons;
  titles = is.titles;
  copies = is.copies;
  loans1 = is.loans1;
  holds1 = is.holds1;
  transits = is.transits;
  lines = is.lines;
  kept = is.kept;
  holds = is.holds;
  rules = none_encoded (λ k. ready.0.later_rules k.0 k.1);
  loans = none_encoded ready.0.later_loans;
  barcodes = none_encoded ready.0.later_labels.barcodes;
  notes = none_encoded ready.0.later_labels.notes;
}

-- Those of schema 3 one with no barcode and no note of schema 4.
pub encoded_3 : (maps : Maps) (P : Picture) → Encodes maps P → IsOfSchema3 P × InLimits P → Encodes (cut 16 maps) P
encoded_3 maps P is ready = record {
  meta = is.meta;
  branches = is.branches;
  closed_days = is.closed_days;
  kinds = is.kinds;
  rules1 = is.rules1;
  patrons = is.patrons;
  titles = is.titles;
  copies = is.copies;
  loans1 = is.loans1;
  holds1 = is.holds1;
  transits = is.transits;
  lines = is.lines;
  kept = is.kept;
  holds = is.holds;
  rules = is.rules;
  loans = is.loans;
  barcodes = none_encoded ready.0.later_labels.barcodes;
  notes = none_encoded ready.0.later_labels.notes;
}

-- ---- the schema is named

-- Another map of `meta` that is the same names the same schema.
names_still : (a b : Maps) (n : ℕ) → b meta_place ≡ a meta_place → NamesSchema a n → NamesSchema b n
names_still a b n same is = record {
  key = is.key;
  row = is.row;
  there = ap (λ (m : Map). m is.key) same ∙ is.there;
  alone = λ k v e. is.alone k v (ap (λ (m : Map). m k) (sym same) ∙ e);
  schema = is.schema;
}

-- A row of `meta` is put, and no other table changes.
pub meta_put : (maps : Maps) (k v : Row) (at : ℕ) → (at == meta_place) ≡ false → put_at maps meta_place k v at ≡ maps at
meta_put maps k v at aside = fun_ext (λ j. ap (λ b. cond b (put_map (maps meta_place) k v j) (maps at j)) aside)

-- A row of `meta` stands under its number.
meta_key : (n : ℕ) → IsKnown n → (db : Database) (maps : Maps) → Holds (schema_at n) db maps → (k v : Row) → maps meta_place k ≡ Some v → k ≡ column v 0 ∷ []
meta_key n known db maps holds = of_known (λ maps. (k v : Row) → maps meta_place k ≡ Some v → k ≡ column v 0 ∷ []) db
    (λ more others maps holds k v e. let it = (holds.tables meta_place meta refl).whole k v e in sym it.2 ∙ ap (λ w. column w 0 ∷ []) it.3) n known maps holds

-- Where the one row that named a schema is put, it names the one that it is put with.
put_names : (n m : ℕ) → IsKnown n → (db : Database) (maps : Maps) → Holds (schema_at n) db maps → NamesSchema maps m → (row new : MetaRow)
    → maps meta_place (number_key 1) ≡ Some (meta_cells row)
    → NamesSchema (put_at maps meta_place (number_key 1) (meta_cells new)) new.schema
put_names n m known db maps holds names row new there =
    record {
      key = number_key 1;
      row = meta_cells new;
      there = refl;
      alone = λ k v e. at k v (cases_Bool (same_key k (number_key 1))) e;
      schema = refl;
    }
  where
    at : (k v : Row) → (same_key k (number_key 1) ≡ true) ⊎ (same_key k (number_key 1) ≡ false)
        → cond (same_key k (number_key 1)) (Some (meta_cells new)) (maps meta_place k) ≡ Some v → v ≡ meta_cells new
    at k v (inl hit) e =
        let both : Some (meta_cells new) ≡ Some v = ap (λ b. cond b (Some (meta_cells new)) (maps meta_place k)) (sym hit) ∙ e in
        let same : meta_cells new ≡ v = cc in
        sym same
    at k v (inr miss) e =
        let was : maps meta_place k ≡ Some v = ap (λ b. cond b (Some (meta_cells new)) (maps meta_place k)) (sym miss) ∙ e in
        let is : v ≡ meta_cells row = names.alone k v was ∙ sym (names.alone (number_key 1) (meta_cells row) there) in
        let key : k ≡ number_key 1 = meta_key n known db maps holds k v was ∙ ap (λ w. column w 0 ∷ []) is in
        absurd (true≢false (sym (subst (λ j. same_key j (number_key 1) ≡ true) (sym key) refl) ∙ miss))

-- The row of `meta` could not be read.
pub names_unread : {S U : Type 0} (g : Ghosts S) {old new : Transaction S} {fault : Fault} (r : Result U Fault) (n : ℕ) → IsKnown n
    → IsErr r × IsErrAnd r (λ e. e ≡ fault) → GetsMetaInside g old new (Err fault) → NamesInside n g old new r
names_unread {S} g {old} {new} {fault} r n known is read = migrates_failed g r is (λ P ready. ready) failed
  where
    failed : NamesInside {S = S} {T = MetaRow} n g old new (Err fault)
    failed = record {
      same_reference = read.works.same_reference;
      survives = read.works.survives;
      kept = λ clean begun there. read.works.kept clean begun;
      inside = λ clean begun there. tt;
      rows = λ clean begun maps holds. tt;
      migrates = λ clean begun P shown ready. tt;
      sound = λ clean begun told P shown ready. read.sound n known clean P shown ready told;
    }

-- The row is put with another schema.
abbrev pub PutsNamed : {S T : Type 0} → MetaRow → ℕ → Ghosts S → Transaction S → Transaction S → Result T Fault → Type 0
PutsNamed row n = ChangesRows 1 (λ maps. put_at maps meta_place (number_key 1) (meta_cells (record row { schema = n }))) (Unit {0})
    (λ P. record P { meta = record row { schema = n } })

module _ {S T U : Type 0} (g : Ghosts S) {old mid new : Transaction S} {row : MetaRow} (n : ℕ) (known : IsKnown n)
    (read : GetsMetaInside g old mid (Ok row)) where
  -- It could not be put.
  pub names_not_put : {fault : Fault} (r : Result U Fault) → IsErr r × IsErrAnd r (λ e. e ≡ fault)
      → PutsNamed {T = T} row n g mid new (Err fault) → NamesInside n g old new r
  names_not_put {fault} r is put = migrates_failed g r is (λ P ready. ready) failed
    where
      failed : NamesInside {S = S} {T = T} n g old new (Err fault)
      failed = record {
        same_reference = put.works.same_reference ∙ read.works.same_reference;
        survives = then _ _ _ read.works.survives put.works.survives;
        kept = λ clean begun there. keeps_then _ _ _ (read.works.kept (omega (arith, clean, put.works.survives.clean)) begun) (put.works.kept clean);
        inside = λ clean begun there. tt;
        rows = λ clean begun maps holds. tt;
        migrates = λ clean begun P shown ready. tt;
        sound = λ clean begun told P shown ready. not_stored {T = T} (Err fault) put.fault told;
      }

  -- It was put.
  pub names_put : {t : T} (x : U) → PutsNamed row n g mid new (Ok t) → NamesInside n g old new (Ok x)
  names_put x put = record {
    same_reference = put.works.same_reference ∙ read.works.same_reference;
    survives = then _ _ _ read.works.survives put.works.survives;
    kept = λ clean begun there. keeps_then _ _ _ (read.works.kept (early clean) begun) (put.works.kept clean);
    inside = λ clean begun there. (put.steps clean (between clean begun there) n known).is_inside;
    rows = λ clean begun maps holds.
        let seen = read.gets n known (early clean) maps holds in
        let steps = put.steps clean (between clean begun (maps, holds)) n known in (
          put_at maps meta_place (number_key 1) (meta_cells (record row { schema = n })),
          steps.maps maps (subst (λ d. Holds (schema_at n) d maps) (sym seen.1.0.now_is) holds),
          record {
            meta = λ m names. (
              λ k v e. (row, read.limits, names.alone k v e ∙ sym (names.alone (number_key 1) (meta_cells row) seen.0)),
              put_names n m known _ maps holds names row (record row { schema = n }) seen.0,
            );
            others = meta_put maps (number_key 1) (meta_cells (record row { schema = n }));
          },
        );
    migrates = λ clean begun P shown ready.
        let meta = read.shows n known (early clean) P shown in
        subst (λ (m : MetaRow). HasPictureAt n (state g new.conn.now).now (record P { meta = record m { schema = n } })) meta.0
        ((put.draws clean (between clean begun (shown.maps, shown.holds)) tt n known).picture P (subst (λ d. HasPictureAt n d P) (sym meta.1.0.now_is) shown));
    sound = λ clean begun told P shown ready. (let never : ⊥ = cc in never);
  }
    where
      early : HasCleanDisk (state g new.conn.now) → HasCleanDisk (state g mid.conn.now)
      early clean = omega (arith, put.works.survives.clean)

      between : HasCleanDisk (state g new.conn.now) → IsTrue (state g old.conn.now).in_transaction
          → HasTablesAt n (state g old.conn.now).now → IsTrue (state g mid.conn.now).in_transaction
      between clean begun there = (read_there n _ _ begun there (read.gets n known (early clean))).0

-- ---- a whole step

-- What was carried over was a row within its limits; it was so from what the table had before, and it stands where it was put.
module _ {K R N : Type 0} (old : Table K R) (new : Table K N) (transfer : Transfer K R N) where
  were_legal : (a b : Maps) → AreCarried old new transfer a b → HasLegal old a
  were_legal a b carried k v e = let it = carried k v e in (it.row, it.legal, it.was)

  carried_from : (a b c : Maps) → b old.place ≡ a old.place → AreCarried old new transfer b c → AreCarried old new transfer a c
  carried_from a b c same carried k v e = carried k v (ap (λ (m : Map). m k) same ∙ e)

  carried_on : (a b c : Maps) → c new.place ≡ b new.place → AreCarried old new transfer a b → AreCarried old new transfer a c
  carried_on a b c same carried k v e =
      let it = carried k v e in
      record {
        row = it.row;
        legal = it.legal;
        was = it.was;
        there = ap (λ (m : Map). m (new.key (transfer.new_key (transfer.carried it.row)))) same ∙ it.there;
      }

-- The holds were moved into a table that was made.
pub record HoldsMoved (maps now : Maps) : Type 0 where
  pub carried : AreCarried holds1 holds holds_transfer maps now
  pub others : (at : ℕ) → at < holds_place → (at == holds1_place) ≡ false → now at ≡ maps at

pub made_moved : (a b c : Maps) → AreMadeBeside 13 a b → AreMoved holds1 holds holds_transfer b c → HoldsMoved a c
made_moved a b c beside moved = record {
  carried = carried_from holds1 holds holds_transfer a b c (beside.same holds1_place (omega arith)) moved.carried;
  others = λ at less aside. moved.others at aside (ne_eqb at holds_place (λ there. omega (arith, less, there))) ∙ beside.same at less;
}

pub led_to_second : (a b c : Maps) → HoldsMoved a b → AreNamed 2 b c → AreLedIfNamed 1 a c
led_to_second a b c moved named m names =
    let meta = moved.others meta_place (omega arith) refl in
    let it = named.meta m (names_still a b m meta names) in
    record {
      legal = (subst (λ (m : Map). AreEncoded meta_cells IsMeta m) meta it.0, were_legal holds1 holds holds_transfer a b moved.carried);
      arrived = carried_on holds1 holds holds_transfer a b c (named.others holds_place refl) moved.carried;
      named = it.1;
      others = λ at left. named.others at left.1 ∙ moved.others at left.0 left.2;
    }

-- So the rules, and then the loans.
pub record RulesMoved (maps now : Maps) : Type 0 where
  pub carried : AreCarried rules1 rules rules_transfer maps now
  pub others : (at : ℕ) → at < rules_place → (at == rules1_place) ≡ false → now at ≡ maps at

pub record LoansMoved (maps now : Maps) : Type 0 where
  pub rules_over : AreCarried rules1 rules rules_transfer maps now
  pub loans_over : AreCarried loans1 loans loans_transfer maps now
  pub others : (at : ℕ) → at < rules_place → (at == rules1_place) ≡ false → (at == loans1_place) ≡ false → now at ≡ maps at

pub made_rules : (a b c : Maps) → AreMadeBeside 14 a b → AreMoved rules1 rules rules_transfer b c → RulesMoved a c
made_rules a b c beside moved = record {
  carried = carried_from rules1 rules rules_transfer a b c (beside.same rules1_place (omega arith)) moved.carried;
  others = λ at less aside. moved.others at aside (ne_eqb at rules_place (λ there. omega (arith, less, there))) ∙ beside.same at less;
}

pub made_loans : (a b c : Maps) → RulesMoved a b → AreMoved loans1 loans loans_transfer b c → LoansMoved a c
made_loans a b c first moved = record {
  rules_over = carried_on rules1 rules rules_transfer a b c (moved.others rules_place refl refl) first.carried;
  loans_over = carried_from loans1 loans loans_transfer a b c (first.others loans1_place (omega arith) refl) moved.carried;
  others = λ at less aside beside. moved.others at beside (ne_eqb at loans_place (λ there. omega (arith, less, there))) ∙ first.others at less aside;
}

pub led_to_third : (a b c : Maps) → LoansMoved a b → AreNamed 3 b c → AreLedIfNamed 2 a c
led_to_third a b c moved named m names =
    let meta = moved.others meta_place (omega arith) refl refl in
    let it = named.meta m (names_still a b m meta names) in
    record {
      legal = (
        subst (λ (m : Map). AreEncoded meta_cells IsMeta m) meta it.0,
        were_legal rules1 rules rules_transfer a b moved.rules_over,
        were_legal loans1 loans loans_transfer a b moved.loans_over,
      );
      arrived = (
        carried_on rules1 rules rules_transfer a b c (named.others rules_place refl) moved.rules_over,
        carried_on loans1 loans loans_transfer a b c (named.others loans_place refl) moved.loans_over,
      );
      named = it.1;
      others = λ at left. named.others at left.1 ∙ moved.others at left.0 left.2 left.3;
    }

-- Indexes were added, and then tables were made.
pub made_labels : (a b c : Maps) → AreMadeBeside 16 a b → AreMadeBeside 16 b c → AreMadeBeside 16 a c
made_labels a b c first second = record { same = λ at less. second.same at less ∙ first.same at less; empty = second.empty }

-- A library of schema 3 has no barcode and no note to lose.
pub led_to_4_is : (P : Picture) → IsOfSchema3 P × InLimits P → record P { meta = record P.meta { schema = 4 } } ≡ led_to_4 P
led_to_4_is P ready =
    let no_barcodes = fun_ext ready.0.later_labels.barcodes in
    let no_notes = fun_ext ready.0.later_labels.notes in
    λ i. record P { meta = record P.meta { schema = 4 }; barcodes = no_barcodes i; notes = no_notes i }

pub led_to_fourth : (a b c : Maps) → AreMadeBeside 16 a b → AreNamed 4 b c → AreLedIfNamed 3 a c
led_to_fourth a b c made named m names =
    let meta = made.same meta_place (omega arith) in
    let it = named.meta m (names_still a b m meta names) in
    record {
      legal = subst (λ (m : Map). AreEncoded meta_cells IsMeta m) meta it.0;
      arrived = (
        λ k. ap (λ (m : Map). m k) (named.others barcodes_place refl) ∙ made.empty barcodes_place (omega arith) k,
        λ k. ap (λ (m : Map). m k) (named.others notes_place refl) ∙ made.empty notes_place (omega arith) k,
      );
      named = it.1;
      others = λ at left. named.others at left.1 ∙ made.same at left.0;
    }

-- ---- rules, which are listed as a whole

rule1_told : (a b : RuleRow1) → IsRule1 a → IsRule1 b → rule1_cells a ≡ rule1_cells b → a ≡ b
rule1_told a b p q e =
    let same_kind : a.kind ≡ b.kind = cc in
    let same_copy_kind : a.copy_kind ≡ b.copy_kind = cc in
    let same_period : a.period ≡ b.period = cc in
    let same_renewals : a.renewals ≡ b.renewals = cc in
    let same_rate : a.rate ≡ b.rate = cc in
    let same_cap : a.cap ≡ b.cap = cc in
    λ i. record { kind = same_kind i; copy_kind = same_copy_kind i; period = same_period i; renewals = same_renewals i; rate = same_rate i; cap = same_cap i }

-- A rule stands under the numbers of its two kinds.
rule1_keyed : (db : Database) (maps : Maps) → Holds (schema_at 3) db maps → (k : Row) (r : RuleRow1) → maps rules1_place k ≡ Some (rule1_cells r)
    → k ≡ pair_key r.kind r.copy_kind
rule1_keyed db maps holds k r e =
    let it = (holds.tables rules1_place rules1.shape refl).whole k (rule1_cells r) e in
    let first : column it.0 1 ≡ number r.kind = ap (λ (v : Row). column v 0) it.3 in
    let second : column it.0 2 ≡ number r.copy_kind = ap (λ (v : Row). column v 1) it.3 in
    sym it.2 ∙ (λ i. first i ∷ second i ∷ [])

abbrev comes_before : RuleRow1 → RuleRow1 → Type 0
comes_before r s = IsPairBefore (r.kind, r.copy_kind) (s.kind, s.copy_kind)

pub own_rules : (P : Picture) → InLimits P → (k : Pair) (r : RuleRow1) → P.rules1 k.0 k.1 ≡ Some r → ((r.kind, r.copy_kind) ≡ k) × IsRule1 r
own_rules P legal k r e = let mine = legal.rules1 k.0 k.1 r e in ((λ i. (mine.0 i, mine.1 i)), mine.2)

rules_listed : (maps : Maps) (P : Picture) → Encodes maps P → InLimits P → (rows : List RuleRow1) → All IsRule1 rows
    → ListedBy PairBelow (maps rules1_place) is_any (map rule1_cells rows)
    → AreAllOf rules1 (λ r. (r.kind, r.copy_kind)) comes_before P rows
rules_listed =
    all_are rules1 (λ r. (r.kind, r.copy_kind)) comes_before Any rule1_told
    (λ a b p q less. pair_before a.kind a.copy_kind b.kind b.copy_kind less) (λ maps P is. is.rules1)
    (λ P legal k r e. let mine = own_rules P legal k r e in (tt, mine.0, mine.1))

pub rules_unread : {S L : Type 0} {g : Ghosts S} {old new : Transaction S} {items : L → List RuleRow1} {fault : Fault}
    → ListsInside {L = L} rules1 items (λ m. ListedBy PairBelow m is_any) g old new (Err fault)
    → MigratesInside {S = S} {T = L} 3 3 (AreMoved rules1 rules rules_transfer) (IsToCarry rules) (all_over rules1 rules_transfer) g old new (Err fault)
rules_unread read = record {
  same_reference = read.works.same_reference;
  survives = read.works.survives;
  kept = λ clean begun there. read.works.kept clean begun;
  inside = λ clean begun there. tt;
  rows = λ clean begun maps holds. tt;
  migrates = λ clean begun P shown ready. tt;
  sound = λ clean begun told P shown ready. read.stored 3 (omega arith, omega arith) clean told shown.maps shown.holds
      (rules1_within shown.maps P shown.encodes ready.0);
}

pub rules_moved : {S L T : Type 0} (g : Ghosts S) {old mid new : Transaction S} {items : L → List RuleRow1} {l : L} (r : Result T Fault)
    → ListsInside rules1 items (λ m. ListedBy PairBelow m is_any) g old mid (Ok l)
    → MovesBatch rules1 rules rules_transfer (items l) g mid new r
    → CarriesAll rules1 rules rules_transfer g old new r
rules_moved g {old} {mid} {new} {items} {l} r read moves = record {
  same_reference = moves.works.same_reference ∙ read.works.same_reference;
  survives = then _ _ _ read.works.survives moves.works.survives;
  kept = λ clean begun there. keeps_then _ _ _ (read.works.kept (early clean) begun) (moves.works.kept clean);
  inside = λ clean begun there. on_ok r (λ steps. (steps 3 stands).is_inside) (moves.steps clean (between clean begun there).0);
  rows = λ clean begun maps holds.
      let seen = read.lists 3 has (early clean) maps holds in
      on_ok r (λ steps. (
        move_rows rules1 rules rules_transfer (items l) maps,
        (steps 3 stands).maps maps (subst (λ d. Holds (schema_at 3) d maps) (sym seen.1.0.now_is) holds),
        listed_moved rules_carried (items l) maps read.limits seen.0 (rule1_keyed (state g old.conn.now).now maps holds),
      )) (moves.steps clean (between clean begun (maps, holds)).0);
  migrates = λ clean begun P shown ready.
      let seen = read.lists 3 has (early clean) shown.maps shown.holds in
      on_ok r (λ draws. subst (HasPictureAt 3 (state g new.conn.now).now)
      (list_over rules_carried P (own_rules P ready.0) ready.1 (items l) (rules_listed shown.maps P shown.encodes ready.0 (items l) read.limits seen.0))
      ((draws 3 stands).picture P (subst (λ d. HasPictureAt 3 d P) (sym seen.1.0.now_is) shown)))
      (moves.draws clean (between clean begun (shown.maps, shown.holds)).0 tt);
  sound = λ clean begun told P shown ready. not_stored r moves.fault told;
}
  where
    has : HasTable 1 3
    has = (omega arith, omega arith)

    stands : HasTable 3 3
    stands = (omega arith, omega arith)

    early : HasCleanDisk (state g new.conn.now) → HasCleanDisk (state g mid.conn.now)
    early clean = omega (arith, moves.works.survives.clean)

    between : HasCleanDisk (state g new.conn.now) → IsTrue (state g old.conn.now).in_transaction → HasTablesAt 3 (state g old.conn.now).now
        → IsTrue (state g mid.conn.now).in_transaction × HasTablesAt 3 (state g mid.conn.now).now
    between clean begun there = read_there 3 _ _ begun there (read.lists 3 has (early clean))
