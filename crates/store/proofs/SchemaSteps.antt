-- The steps from schema to schema, single and all due ones.
use Rattle.std.proofs.Common.{◌≡◌, ◌<◌, ◌≤◌, ◌+◌, ◌⊎◌, ◌^◌, ◌∙◌, inl, inr, ℕ, zero, suc, List, refl, sym, ap, subst, arith, IsTrue}
use Rattle.std.specs.Prelude.{Result, Ok, Err, IfOk, OnOk, OnErr, ◌-◌}
use Rattle.std.specs.Result.{IsErr, IsErrAnd}
use Rattle.std.proofs.lemmas.Bool.{cases_lt}
use Rattle.sqlite.specs.Effect.{Database}
use Rattle.sqlite.specs.Held.{Held, state}
use Rattle.sqlite.specs.State.{State, HasCleanDisk, IsUnchanged}
use Rattle.sqlite.specs.Store.{Ghosts}
use Rattle.sqlite.specs.Table.{Table}
use Rattle.sqlite.specs.declared.transaction.Transaction.{Transaction}
use Rattle.sqlite_schema.specs.declared.schema.Index.{Index}
use Rattle.sql_maps.specs.Maps.{Maps, Holds}
use Rattle.sql_maps.proofs.CallLemmas.{on_ok}
use Rattle.terms.specs.Limits.{InLimits}
use Rattle.terms.specs.Pictures.{Picture}
use Rattle.terms.specs.Schemas.{IsOfSchema, led_on, led_by, led_to_2, led_to_3}
use Rattle.terms.specs.declared.fault.Fault.{Fault}
use Rattle.terms.specs.declared.fault.Fault.TheVariants.{Stored}
use Rattle.terms.specs.declared.limits.TheConstants.{SCHEMA}
use Rattle.circ_tables.specs.Encoding.{HasPictureAt}
use Rattle.circ_tables.specs.Numbered.{grown}
use Rattle.circ_tables.specs.SchemaNumber.{NamesSchema, TellsSchemaInside}
use Rattle.circ_tables.specs.Shape.{schema_at}
use Rattle.circ_tables.specs.TableSchemas.{since_first}
use Rattle.circ_tables.proofs.InverseLemmas.{schema_told}
use Rattle.store.specs.Library.{HasTablesAt, IsAsItWas}
use Rattle.store.specs.Migrating.{IsLibrary, IsAtSomeSchema, AreThere, AreLedOn, AreLedUp, MigratesFrom, MigratesOn, MigratesOnInside, MakesOneStep}
use Rattle.store.specs.Migrating.{StepsOn, IsNotLedUp, IsLedInPart, CannotBeLed, Migrates}
use Rattle.store.specs.Carrying.{all_over}
use Rattle.store.specs.Transfers.{holds_transfer, rules_transfer, loans_transfer, holds_carried, rules_carried, loans_carried}
use Rattle.circ_tables.specs.HoldsOfSchema1.{holds1}
use Rattle.circ_tables.specs.LoansOfSchema1.{loans1}
use Rattle.circ_tables.specs.RulesOfSchema1.{rules1}
use Rattle.store.specs.Schemas.{IsKnown, IsOlder, next_schema}
use Rattle.store.specs.Stops.{Leaves, KeepsPicture, KeepsPictureAt}
use Rattle.store.proofs.MigrateLemmas.{all_over_limits}
use Rattle.store.proofs.PartsOfSteps.{own_rules}
use Rattle.store.proofs.OpenLemmas.{of_known, picture_names, names_once}
use Rattle.store.proofs.ChangeSteps.{then, keeps_then}
use Rattle.store.proofs.StopLemmas.{Settles, open_keeps, leaves_committed, on_err}

of_older : (n : ℕ) → IsOlder n → IsKnown n
of_older n older = let high = older.1 in (older.0, omega (arith, high))

newest_known : IsKnown SCHEMA
newest_known = (omega arith, omega arith)

-- Tables of a schema name it.
pub of_schema : (n : ℕ) (P : Picture) → IsOfSchema n P → P.meta.schema ≡ n
of_schema zero P is = is
of_schema (suc zero) P is = is.names
of_schema (suc (suc zero)) P is = is.names
of_schema (suc (suc (suc zero))) P is = is.names
of_schema (suc (suc (suc (suc n)))) P is = is

-- A library has the tables of its schema.
pub library_there : (n : ℕ) → IsKnown n → (db : Database) (P : Picture) → IsLibrary n db P → AreThere n db
library_there n known db P is = record {
  known = known;
  maps = is.0.maps;
  holds = is.0.holds;
  named = λ m names older. names_once is.0.maps m n names (subst (NamesSchema is.0.maps) (of_schema n P is.1) (picture_names is.0.maps P is.0.encodes));
}

-- ---- a step inside a transaction

module _ (a b : State) (n : ℕ)
    (named : (more : List Table) (others : List Index) (maps : Maps) → Holds (grown more others) a.now maps → NamesSchema maps n
    × IsUnchanged a b) where
  -- What is told is named by the tables of each schema, and nothing is changed.
  told_of : (m : ℕ) → IsKnown m → (maps : Maps) → Holds (schema_at m) a.now maps → NamesSchema maps n × IsUnchanged a b
  told_of m known maps holds = of_known (λ maps. NamesSchema maps n × IsUnchanged a b) a.now named m known maps holds

  -- It is the schema of a library.
  told_library : (m : ℕ) → IsKnown m → (P : Picture) → IsLibrary m a.now P → m ≡ n
  told_library m known P is = sym (of_schema m P is.1) ∙ schema_told is.0.maps P n is.0.encodes (told_of m known is.0.maps is.0.holds).0

-- The schema that tables name can be told.
pub can_be_told : (db : Database)
    → ((more : List Table) (others : List Index) (maps : Maps) → Holds (grown more others) db maps → (n : ℕ) → n < 2 ^ 32
    → ¬ NamesSchema maps n) → (m : ℕ) → IsKnown m → (P : Picture) → HasPictureAt m db P
    → P.meta.schema < 2 ^ 32 → ⊥
can_be_told db stored m known P shown less =
    of_known (λ maps. (n : ℕ) → n < 2 ^ 32 → ¬ NamesSchema maps n) db stored m known shown.maps shown.holds P.meta.schema less
    (picture_names shown.maps P shown.encodes)

module _ {S : Type 0} (g : Ghosts S) {old mid : Transaction S} where
  -- It could not be told.
  pub untold : {fault : Fault} (r : Result ℕ Fault) → IsErr r × IsErrAnd r (λ e. e ≡ fault) → TellsSchemaInside g old mid (Err fault)
      → MigratesOnInside g old mid r
  untold (Ok x) is read = absurd (let none = is.0 in cc)
  untold {fault} (Err e) is read = record {
    same_reference = read.works.same_reference;
    survives = read.works.survives;
    kept = λ clean begun n there. read.works.kept clean begun;
    inside = λ clean begun n there. tt;
    migrates = λ clean begun. tt;
    sound = λ clean begun told n known P library.
        let named : e ≡ Stored = cc in
        let same : fault ≡ Stored = sym is.1 ∙ named in
        let failed : Fault → Result ℕ Fault = λ f. Err f in
        let few : n ≤ SCHEMA = known.1 in
        let named_so = of_schema n P library.1 in
        can_be_told (state g old.conn.now).now (read.stored clean (ap failed same)) n known P library.0 (omega (arith, few, named_so));
  }

  module _ (n : ℕ) (read : TellsSchemaInside g old mid (Ok n)) where
    told : HasCleanDisk (state g mid.conn.now) → (m : ℕ) → IsKnown m → (maps : Maps) → Holds (schema_at m) (state g old.conn.now).now maps
        → NamesSchema maps n × IsUnchanged (state g old.conn.now) (state g mid.conn.now)
    told clean = told_of (state g old.conn.now) (state g mid.conn.now) n (read.named clean)

    library_is : HasCleanDisk (state g mid.conn.now) → (m : ℕ) → IsKnown m → (P : Picture) → IsLibrary m (state g old.conn.now).now P → m ≡ n
    library_is clean = told_library (state g old.conn.now) (state g mid.conn.now) n (read.named clean)

    -- It is that of no known schema.
    pub not_led : (IsKnown n → ⊥) → MigratesOnInside g old mid (Err Stored)
    not_led unknown = record {
      same_reference = read.works.same_reference;
      survives = read.works.survives;
      kept = λ clean begun m there. read.works.kept clean begun;
      inside = λ clean begun m there. tt;
      migrates = λ clean begun. tt;
      sound = λ clean begun is m known P library. unknown (subst IsKnown (library_is clean m known P library) known);
    }

    -- It is the newest.
    pub newest_stays : n ≡ SCHEMA → (to : ℕ) → to ≡ SCHEMA → MigratesOnInside g old mid (Ok to)
    newest_stays is to same = record {
      same_reference = read.works.same_reference;
      survives = read.works.survives;
      kept = λ clean begun m there. read.works.kept clean begun;
      inside = λ clean begun m there. subst IsTrue (sym (told clean m there.known there.maps there.holds).1.0.mode) begun;
      migrates = λ clean begun. record {
        migrates = λ m known P library.
            let unchanged = (told clean m known library.0.maps library.0.holds).1 in
            subst (λ k. IsLibrary k (state g old.conn.now).now P → (to ≡ next_schema k) × HasPictureAt (next_schema k) (state g mid.conn.now).now (led_on k P))
            (sym (library_is clean m known P library ∙ is)) (λ here. (same, subst (λ d. HasPictureAt 4 d P) (sym unchanged.0.now_is) here.0)) library;
        rows = λ m older maps holds names.
            let one = names_once maps m n names (told clean m (of_older m older) maps holds).0 in
            let less : m < SCHEMA = older.1 in
            absurd (omega (arith, one, is, less));
        same = λ m known maps holds names. (same, (told clean m known maps holds).1.0.now_is);
        named = λ m known maps holds. (n, (told clean m known maps holds).0, subst IsKnown (sym is) newest_known);
      };
      sound = λ clean begun told m known P library. (let never : ⊥ = cc in never);
    }

    -- It is an older one, and the step leads on from it.
    module _ {new : Transaction S} (older : IsOlder n) (r : Result ℕ Fault) (led : MigratesFrom n g mid new r) (to_next : IfOk r (λ to. to ≡ next_schema n)) where
      late : HasCleanDisk (state g new.conn.now) → HasCleanDisk (state g mid.conn.now)
      late clean = omega (arith, led.survives.clean)

      there_at : HasCleanDisk (state g mid.conn.now) → (m : ℕ) → AreThere m (state g old.conn.now).now
          → HasTablesAt n (state g mid.conn.now).now × IsUnchanged (state g old.conn.now) (state g mid.conn.now)
      there_at clean m there =
          let it = told clean m there.known there.maps there.holds in
          let same : n ≡ m = there.named n it.0 older in (
            (
              there.maps,
              subst (λ d. Holds (schema_at n) d there.maps) (sym it.1.0.now_is)
                  (subst (λ k. Holds (schema_at k) (state g old.conn.now).now there.maps) (sym same) there.holds),
            ),
            it.1,
          )

      library_at : HasCleanDisk (state g mid.conn.now) → (m : ℕ) → IsKnown m → (P : Picture) → IsLibrary m (state g old.conn.now).now P
          → (m ≡ n) × IsLibrary n (state g mid.conn.now).now P × IsUnchanged (state g old.conn.now) (state g mid.conn.now)
      library_at clean m known P library =
          let it = told clean m known library.0.maps library.0.holds in
          let same = library_is clean m known P library in
          (same, subst (λ d. IsLibrary n d P) (sym it.1.0.now_is) (subst (λ k. IsLibrary k (state g old.conn.now).now P) same library), it.1)

      led_is : (to : ℕ) → HasCleanDisk (state g new.conn.now) → IsTrue (state g old.conn.now).in_transaction → MigratesFrom n g mid new (Ok to)
          → to ≡ next_schema n → MigratesOn to (state g old.conn.now).now (state g new.conn.now).now
      led_is to clean begun migrates next = record {
        migrates = λ m known P library.
            let it = library_at (late clean) m known P library in
            subst (λ k. (to ≡ next_schema k) × HasPictureAt (next_schema k) (state g new.conn.now).now (led_on k P)) (sym it.0)
            (next, migrates.migrates clean (subst IsTrue (sym it.2.0.mode) begun) P it.1.0 (it.1.1, it.1.2));
        rows = λ m was_older maps holds names.
            let it = told (late clean) m (of_older m was_older) maps holds in
            let same : n ≡ m = names_once maps n m it.0 names in
            let moved = migrates.rows clean (subst IsTrue (sym it.1.0.mode) begun) maps
            (subst (λ d. Holds (schema_at n) d maps) (sym it.1.0.now_is)
            (subst (λ k. Holds (schema_at k) (state g old.conn.now).now maps) (sym same) holds)) in
            subst (λ k. (to ≡ next_schema k) × ((now : Maps) × Holds (schema_at (next_schema k)) (state g new.conn.now).now now × AreLedOn k maps now)) same
            (next, (moved.0, moved.1, moved.2 n it.0));
        same = λ m known maps holds names.
            let one : n ≡ SCHEMA = names_once maps n SCHEMA (told (late clean) m known maps holds).0 names in
            let less : n < SCHEMA = older.1 in
            absurd (omega (arith, one, less));
        named = λ m known maps holds. (n, (told (late clean) m known maps holds).0, of_older n older);
      }

      pub older_led : MigratesOnInside g old new r
      older_led = record {
        same_reference = led.same_reference ∙ read.works.same_reference;
        survives = then _ _ _ read.works.survives led.survives;
        kept = λ clean begun m there.
            let it = there_at (late clean) m there in
            keeps_then _ _ _ (read.works.kept (late clean) begun) (led.kept clean (subst IsTrue (sym it.1.0.mode) begun) it.0);
        inside = λ clean begun m there. let it = there_at (late clean) m there in led.inside clean (subst IsTrue (sym it.1.0.mode) begun) it.0;
        migrates = λ clean begun. each r (led_is_by clean begun) led to_next;
        sound = λ clean begun is m known P library.
            let it = library_at (late clean) m known P library in
            led.sound clean (subst IsTrue (sym it.2.0.mode) begun) is P it.1.0 (it.1.1, it.1.2);
      }
        where
          led_is_by : HasCleanDisk (state g new.conn.now) → IsTrue (state g old.conn.now).in_transaction → (to : ℕ)
              → MigratesFrom n g mid new (Ok to) → to ≡ next_schema n → MigratesOn to (state g old.conn.now).now (state g new.conn.now).now
          led_is_by clean begun to = led_is to clean begun

          each : (r : Result ℕ Fault) → ((to : ℕ) → MigratesFrom n g mid new (Ok to) → to ≡ next_schema n
              → MigratesOn to (state g old.conn.now).now (state g new.conn.now).now) → MigratesFrom n g mid new r
              → IfOk r (λ to. to ≡ next_schema n)
              → IfOk r (λ to. MigratesOn to (state g old.conn.now).now (state g new.conn.now).now)
          each (Ok to) so migrates next = so to migrates next
          each (Err e) so migrates next = tt

-- ---- all steps that are due

-- Rows within their limits stay so, whichever schema of 32 bits is named.
within_limits : (P : Picture) → InLimits P → (n : ℕ) → n < 2 ^ 32 → InLimits (record P { meta = record P.meta { schema = n } })
within_limits P legal n low = record {
  meta = (omega (arith, low), legal.meta.1, legal.meta.2, legal.meta.3, legal.meta.4);
  branches = legal.branches;
  closed_days = legal.closed_days;
  kinds = legal.kinds;
  rules = legal.rules;
  rules1 = legal.rules1;
  patrons = legal.patrons;
  titles = legal.titles;
  copies = legal.copies;
  loans = legal.loans;
  loans1 = legal.loans1;
  holds = legal.holds;
  holds1 = legal.holds1;
  transits = legal.transits;
  lines = legal.lines;
  kept = legal.kept;
  barcodes = legal.barcodes;
  notes = legal.notes;
}

-- A library of an older schema that was led on is one of the next.
second_library : (old new : Database) (P : Picture) → IsLibrary 1 old P → HasPictureAt 2 new (led_to_2 P) → IsLibrary 2 new (led_to_2 P)
second_library old new P is shown =
    let over = all_over_limits holds_carried P is.2 (λ k r e. is.2.holds1 k r e) in (
      shown,
      record {
        names = refl;
        later_rules = is.1.later_rules;
        later_loans = is.1.later_loans;
        later_labels = record { barcodes = is.1.later_labels.barcodes; notes = is.1.later_labels.notes };
      },
      within_limits (all_over holds1 holds_transfer P) over 2 (omega arith),
    )

third_library : (old new : Database) (P : Picture) → IsLibrary 2 old P → HasPictureAt 3 new (led_to_3 P) → IsLibrary 3 new (led_to_3 P)
third_library old new P is shown =
    let rules_over = all_over_limits rules_carried P is.2 (own_rules P is.2) in
    let over = all_over_limits loans_carried (all_over rules1 rules_transfer P) rules_over (λ k r e. is.2.loans1 k r e) in (
      shown,
      record { names = refl; later_labels = record { barcodes = is.1.later_labels.barcodes; notes = is.1.later_labels.notes } },
      within_limits (all_over loans1 loans_transfer (all_over rules1 rules_transfer P)) over 3 (omega arith),
    )

-- What holds of each older schema, one by one, holds of all.
of_older_each : (Is : ℕ → Type 0) → Is 1 → Is 2 → Is 3 → (n : ℕ) → IsOlder n → Is n
of_older_each Is first second third n older =
    since_first (λ m. m < SCHEMA → Is m) (λ _. first) (λ _. second) (λ _. third) (λ less. absurd (omega (arith, less))) n (of_older n older) older.1

-- Where a known schema is named, it is an older one or the newest.
named_is : (m : ℕ) → IsKnown m → IsOlder m ⊎ (m ≡ SCHEMA)
named_is m known = elim (cases_lt m SCHEMA) [ inl less ↦ inl (known.0, less) | inr most ↦ inr (let high = known.1 in omega (arith, high, most)) ]

-- The next schema is one more.
next_is : (n : ℕ) → IsOlder n → next_schema n ≡ suc n
next_is = of_older_each (λ n. next_schema n ≡ suc n) refl refl refl

-- The schema that a step leads to from tables that name an older one.
record LedOn (n : ℕ) (new : Database) (P : Picture) : Type 0 where
  pub known : IsKnown (suc n)
  pub older : IsOlder (suc n)
  pub library : IsLibrary (suc n) new (led_on n P)

-- A step that led to an older schema was made from the one before it.
led_library : (to : ℕ) (old new : Database) → MigratesOn to old new → to < SCHEMA → (n : ℕ) → IsKnown n → (P : Picture) → IsLibrary n old P → LedOn n new P
led_library to old new led less = since_first (λ n. (P : Picture) → IsLibrary n old P → LedOn n new P)
    (λ P is. record {
      known = (omega arith, omega arith);
      older = (omega arith, omega arith);
      library = second_library old new P is (led.migrates 1 (omega arith, omega arith) P is).1;
    })
    (λ P is. record {
      known = (omega arith, omega arith);
      older = (omega arith, omega arith);
      library = third_library old new P is (led.migrates 2 (omega arith, omega arith) P is).1;
    })
    (λ P is. let next = (led.migrates 3 (omega arith, omega arith) P is).0 in absurd (omega (arith, next, less)))
    (λ P is. let next = (led.migrates 4 newest_known P is).0 in absurd (omega (arith, next, less)))

-- Its tables are there then, name the next schema, and were led on from those before.
record LedMaps (n : ℕ) (maps : Maps) (new : Database) : Type 0 where
  pub older : IsOlder (suc n)
  pub between : Maps
  pub holds : Holds (schema_at (suc n)) new between
  pub led : AreLedOn n maps between
  pub names : NamesSchema between (suc n)

led_maps : (to : ℕ) (old new : Database) → MigratesOn to old new → to < SCHEMA → (n : ℕ) → IsOlder n → (maps : Maps) → Holds (schema_at n) old maps
    → NamesSchema maps n → LedMaps n maps new
led_maps to old new led less n older maps holds names =
    let it = led.rows n older maps holds names in
    let same = next_is n older in
    record {
      older = (omega arith, (let next = it.0 in omega (arith, next, same, less)));
      between = it.1.0;
      holds = subst (λ k. Holds (schema_at k) new it.1.0) same it.1.1;
      led = it.1.2;
      names = subst (NamesSchema it.1.0) same it.1.2.named;
    }

-- The schema that tables name which a step led to an older one.
named_older : (to : ℕ) (old new : Database) → MigratesOn to old new → to < SCHEMA → (n : ℕ) → (there : AreThere n old)
    → IsOlder n × NamesSchema there.maps n
named_older to old new led less n there = go (named_is named.0 named.2)
  where
    named : (m : ℕ) × NamesSchema there.maps m × IsKnown m
    named = led.named n there.known there.maps there.holds

    go : IsOlder named.0 ⊎ (named.0 ≡ SCHEMA) → IsOlder n × NamesSchema there.maps n
    go (inl older) =
        let same : named.0 ≡ n = there.named named.0 named.1 older in
        (subst IsOlder same older, subst (NamesSchema there.maps) same named.1)
    go (inr newest) =
        let next = (led.same n there.known there.maps there.holds (subst (NamesSchema there.maps) newest named.1)).0 in
        absurd (omega (arith, next, less))

next_there : (to : ℕ) (old new : Database) → MigratesOn to old new → to < SCHEMA → (n : ℕ) → AreThere n old → AreThere (suc n) new
next_there to old new led less n there =
    let from = named_older to old new led less n there in
    let it = led_maps to old new led less n from.0 there.maps there.holds from.1 in
    record {
      known = of_older (suc n) it.older;
      maps = it.between;
      holds = it.holds;
      named = λ m other was. names_once it.between m (suc n) other it.names;
    }

-- What a stop leaves of a library between steps.
brought_one : (old db : Database) → MakesOneStep old db → (n : ℕ) → IsKnown n → (P : Picture) → IsLibrary n old P → IsAtSomeSchema n P db
brought_one old db led = since_first (λ n. (P : Picture) → IsLibrary n old P → IsAtSomeSchema n P db)
    (λ P is. (1, (omega arith, (led.1.migrates 1 (omega arith, omega arith) P is).1)))
    (λ P is. (1, (omega arith, (led.1.migrates 2 (omega arith, omega arith) P is).1)))
    (λ P is. (1, (omega arith, (led.1.migrates 3 (omega arith, omega arith) P is).1)))
    (λ P is. (0, (omega arith, (led.1.migrates 4 newest_known P is).1)))

as_it_was : (db : Database) (n : ℕ) → IsKnown n → (P : Picture) → HasPictureAt n db P → IsAtSomeSchema n P db
as_it_was db = since_first (λ n. (P : Picture) → HasPictureAt n db P → IsAtSomeSchema n P db)
    (λ P is. (0, (omega arith, is))) (λ P is. (0, (omega arith, is))) (λ P is. (0, (omega arith, is))) (λ P is. (0, (omega arith, is)))

-- One step more before the others.
one_more : (n : ℕ) → IsKnown n → (P : Picture) (db : Database) → IsAtSomeSchema (suc n) (led_on n P) db → IsAtSomeSchema n P db
one_more n known P db at =
    let same : suc n + at.0 ≡ n + suc at.0 = omega arith in
    (suc at.0, (let few = at.1.0 in omega (arith, few, same), subst (λ k. HasPictureAt k db (led_by at.0 (suc n) (led_on n P))) same at.1.1))

-- A damaged row keeps the tables as they are.
stays_damaged : (old db : Database) → MakesOneStep old db → CannotBeLed old → db ≡ old
stays_damaged old db led cannot = go (named_is named.0 named.2)
  where
    there : AreThere cannot.at old
    there = cannot.there

    named : (m : ℕ) × NamesSchema there.maps m × IsKnown m
    named = led.1.named cannot.at there.known there.maps there.holds

    go : IsOlder named.0 ⊎ (named.0 ≡ SCHEMA) → db ≡ old
    go (inr newest) = (led.1.same cannot.at there.known there.maps there.holds (subst (NamesSchema there.maps) newest named.1)).1
    go (inl older) =
        let same = there.named named.0 named.1 older in
        absurd (cannot.damaged (led.1.rows cannot.at cannot.older there.maps there.holds (subst (NamesSchema there.maps) same named.1)).1.2.legal)

not_damaged : (to : ℕ) (old db : Database) → MigratesOn to old db → to < SCHEMA → CannotBeLed old → ⊥
not_damaged to old db led less cannot =
    let there = cannot.there in
    let named = led.named cannot.at there.known there.maps there.holds in
    elim (named_is named.0 named.2) [
      | inr newest ↦ (let next = (led.same cannot.at there.known there.maps there.holds
          (subst (NamesSchema there.maps) newest named.1)).0 in omega (arith, next, less))
      | inl older ↦ cannot.damaged (led.rows cannot.at cannot.older there.maps there.holds
          (subst (NamesSchema there.maps) (there.named named.0 named.1 older) named.1)).1.2.legal
    ]

-- ---- a chain of steps

-- The database and its last commit are what was there before.
abbrev IsUndone : State → State → Type 0
IsUndone old new = (new.now ≡ old.now) × (new.committed ≡ old.now)

-- What was led up from tables that name a schema at or above this one.
pub record RisesFrom (from : ℕ) (old new : Database) : Type 0 where
  pub rows : (n : ℕ) → from ≤ n → IsOlder n → (maps : Maps) → Holds (schema_at n) old maps → NamesSchema maps n
      → (now : Maps) × Holds (schema_at SCHEMA) new now × AreLedUp n maps now
  pub same : (n : ℕ) → IsKnown n → (maps : Maps) → Holds (schema_at n) old maps → NamesSchema maps SCHEMA → new ≡ old
  pub named : (n : ℕ) → IsKnown n → (maps : Maps) → Holds (schema_at n) old maps → (m : ℕ) × NamesSchema maps m × IsKnown m

-- All due steps from schemas at or above this one: what `Migrates` says of them.
pub record LeadsUp {S T : Type 0} (from : ℕ) (g : Ghosts S) (old new : Held S) (result : Result T Fault) : Type 0 where
  pub clean : HasCleanDisk (state g new) → HasCleanDisk (state g old)
  pub led : HasCleanDisk (state g new) → OnOk result ((n : ℕ) → from ≤ n → IsKnown n → (P : Picture) → IsLibrary n (state g old).now P
      → KeepsPicture (state g new) (led_by (SCHEMA - n) n P))
  pub legal : HasCleanDisk (state g new) → (n : ℕ) → from ≤ n → AreThere n (state g old).now → OnOk result (RisesFrom from (state g old).now (state g new).now)
  pub undone : HasCleanDisk (state g new) → IsTrue (state g new).is_open → OnErr result ((n : ℕ) → from ≤ n → IsKnown n → (P : Picture)
      → IsLibrary n (state g old).now P → (steps : ℕ) × IsNotLedUp n steps × KeepsPictureAt (n + steps) (state g new) (led_by steps n P))
  pub nothing : HasCleanDisk (state g new) → IsTrue (state g new).is_open → (n : ℕ) → from ≤ n → AreThere n (state g old).now
      → OnErr result (IsUndone (state g old) (state g new) ⊎ IsLedInPart (state g old) (state g new))
  pub stop : HasCleanDisk (state g new) → (n : ℕ) → from ≤ n → IsKnown n → (P : Picture) → KeepsPictureAt n (state g old) P → IsOfSchema n P → InLimits P
      → Leaves (state g new) (IsAtSomeSchema n P)
  pub stop_damaged : HasCleanDisk (state g new) → CannotBeLed (state g old).now
      → Leaves (state g old) (λ db. db ≡ (state g old).now) → Leaves (state g new) (λ db. db ≡ (state g old).now)
  pub sound : HasCleanDisk (state g new) → result ≡ Err Stored → (n : ℕ) → from ≤ n → IsKnown n → (P : Picture) → ¬ IsLibrary n (state g old).now P

-- What is led on once more is led up from the schema before.
led_up : (n : ℕ) → IsOlder n → IsOlder (suc n) → (a b c : Maps) → AreLedOn n a b → AreLedUp (suc n) b c → AreLedUp n a c
led_up = of_older_each (λ n. IsOlder (suc n) → (a b c : Maps) → AreLedOn n a b → AreLedUp (suc n) b c → AreLedUp n a c)
    (λ next a b c led up. (b, led, up)) (λ next a b c led up. (b, led, up)) (λ next. let low : 4 < SCHEMA = next.1 in absurd (omega (arith, low)))

led_more : (n : ℕ) → IsOlder n → (P : Picture) → led_by (SCHEMA - suc n) (suc n) (led_on n P) ≡ led_by (SCHEMA - n) n P
led_more = of_older_each (λ n. (P : Picture) → led_by (SCHEMA - suc n) (suc n) (led_on n P) ≡ led_by (SCHEMA - n) n P)
    (λ P. refl) (λ P. refl) (λ P. refl)

module _ {S : Type 0} (g : Ghosts S) (settled : Settles g) where
  module _ {old mid : Held S} where
    -- What a stop of one step leaves.
    step_stopped : {r : Result ℕ Fault} → StepsOn g old mid r → HasCleanDisk (state g mid) → (n : ℕ) → IsKnown n → (P : Picture)
        → KeepsPictureAt n (state g old) P → IsOfSchema n P → InLimits P → Leaves (state g mid) (IsAtSomeSchema n P)
    step_stopped step clean n known P keeps of legal trees may = elim (step.survives.crash clean trees may) [
      | inl before ↦ let it = keeps.left trees before in (it.0, as_it_was it.0 n known P it.1, it.2)
      | inr brought ↦ (brought.0, brought_one (state g old).now brought.0 brought.1 n known P (keeps.now, of, legal), brought.2)
    ]

    step_stopped_damaged : {r : Result ℕ Fault} → StepsOn g old mid r → HasCleanDisk (state g mid) → CannotBeLed (state g old).now
        → Leaves (state g old) (λ db. db ≡ (state g old).now) → Leaves (state g mid) (λ db. db ≡ (state g old).now)
    step_stopped_damaged step clean cannot left trees may = elim (step.survives.crash clean trees may) [
      | inl before ↦ left trees before
      | inr brought ↦ (brought.0, stays_damaged (state g old).now brought.0 brought.1 cannot, brought.2)
    ]

    -- One step is all that is due: of the older schemas it can only have been the last.
    pub leads_one : {T : Type 0} (from to : ℕ) (t : T) → ((n : ℕ) → from ≤ n → IsOlder n → to ≡ next_schema n → n ≡ 3)
        → StepsOn g old mid (Ok to) → LeadsUp {S = S} {T = T} from g old mid (Ok t)
    leads_one from to t last step = record {
      clean = λ clean. omega (arith, step.survives.clean, clean);
      led = λ clean n least known P is.
          let done = step.done clean n (library_there n known (state g old).now P is) in
          open_keeps g settled SCHEMA (state g mid).now mid (led_by (SCHEMA - n) n P) done.is_open refl done.committed
          (newest_led done.made n known least P is);
      legal = λ clean n least there.
          let made = (step.done clean n there).made in
          record { rows = newest_rows made; same = λ m known maps holds names. (made.same m known maps holds names).1; named = made.named };
      undone = λ clean is_open. tt;
      nothing = λ clean is_open n least there. tt;
      stop = λ clean n least. step_stopped step clean n;
      stop_damaged = step_stopped_damaged step;
      sound = λ clean told n least known P is. (let never : ⊥ = cc in never);
    }
      where
        newest_led : MigratesOn to (state g old).now (state g mid).now → (n : ℕ) → IsKnown n → from ≤ n → (P : Picture) → IsLibrary n (state g old).now P
            → HasPictureAt SCHEMA (state g mid).now (led_by (SCHEMA - n) n P)
        newest_led made = since_first (λ n. from ≤ n → (P : Picture) → IsLibrary n (state g old).now P
            → HasPictureAt SCHEMA (state g mid).now (led_by (SCHEMA - n) n P))
            (λ least P is. let three = last 1 least (omega arith, omega arith) (made.migrates 1 (omega arith, omega arith) P is).0 in absurd (omega (arith, three)))
            (λ least P is. let three = last 2 least (omega arith, omega arith) (made.migrates 2 (omega arith, omega arith) P is).0 in absurd (omega (arith, three)))
            (λ least P is. (made.migrates 3 (omega arith, omega arith) P is).1)
            (λ least P is. (made.migrates 4 newest_known P is).1)

        newest_rows : MigratesOn to (state g old).now (state g mid).now → (n : ℕ) → from ≤ n → IsOlder n → (maps : Maps)
            → Holds (schema_at n) (state g old).now maps → NamesSchema maps n
            → (now : Maps) × Holds (schema_at SCHEMA) (state g mid).now now × AreLedUp n maps now
        newest_rows made n least older = of_older_each (λ n. from ≤ n → (maps : Maps) → Holds (schema_at n) (state g old).now maps → NamesSchema maps n
            → (now : Maps) × Holds (schema_at SCHEMA) (state g mid).now now × AreLedUp n maps now)
            (λ least maps holds names.
            let three = last 1 least (omega arith, omega arith) (made.rows 1 (omega arith, omega arith) maps holds names).0 in absurd (omega (arith, three)))
            (λ least maps holds names.
            let three = last 2 least (omega arith, omega arith) (made.rows 2 (omega arith, omega arith) maps holds names).0 in absurd (omega (arith, three)))
            (λ least maps holds names. (made.rows 3 (omega arith, omega arith) maps holds names).1)
            n older least

    -- It failed.
    pub leads_failed : {T : Type 0} (from : ℕ) {fault : Fault} (r : Result T Fault) → IsErr r × IsErrAnd r (λ e. e ≡ fault)
        → StepsOn g old mid (Err fault) → LeadsUp from g old mid r
    leads_failed from (Ok x) is step = absurd (let none = is.0 in cc)
    leads_failed {T} from {fault} (Err e) is step = record {
      clean = λ clean. omega (arith, step.survives.clean, clean);
      led = λ clean. tt;
      legal = λ clean n least there. tt;
      undone = λ clean is_open n least known P is.
          let same = step.undone clean is_open n (library_there n known (state g old).now P is) in
          at_first n known P is (open_keeps g settled n (state g old).now mid P is_open same.0 same.1 is.0);
      nothing = λ clean is_open n least there. inl (step.undone clean is_open n there);
      stop = λ clean n least. step_stopped step clean n;
      stop_damaged = step_stopped_damaged step;
      sound = λ clean told n least known P library.
          let named : e ≡ Stored = cc in
          let same : fault ≡ Stored = sym is.1 ∙ named in
          let failed : Fault → Result ℕ Fault = λ f. Err f in
          step.sound clean (ap failed same) n known P library;
    }
      where
        at_first : (n : ℕ) → IsKnown n → (P : Picture) → IsLibrary n (state g old).now P → KeepsPictureAt n (state g mid) P → (steps : ℕ)
            × IsNotLedUp n steps × KeepsPictureAt (n + steps) (state g mid) (led_by steps n P)
        at_first = since_first (λ n. (P : Picture) → IsLibrary n (state g old).now P → KeepsPictureAt n (state g mid) P → (steps : ℕ)
            × IsNotLedUp n steps × KeepsPictureAt (n + steps) (state g mid) (led_by steps n P))
            (λ P is keeps. (0, (omega arith, λ older. omega arith), keeps)) (λ P is keeps. (0, (omega arith, λ older. omega arith), keeps))
            (λ P is keeps. (0, (omega arith, λ older. omega arith), keeps)) (λ P is keeps. (0, (omega arith, λ older. older.1), keeps))

  -- A step led to an older schema, and the others from there.
  pub leads_then : {T : Type 0} {old mid new : Held S} (from to : ℕ) (r : Result T Fault) → to < SCHEMA → StepsOn g old mid (Ok to)
      → LeadsUp (suc from) g mid new r → LeadsUp from g old new r
  leads_then {old = old} {mid = mid} {new = new} from to r less first rest = record {
    clean = λ clean. let early = rest.clean clean in omega (arith, first.survives.clean, early);
    led = λ clean. on_ok r (λ led n least known P is.
        let at = between clean n known P is in
        subst (KeepsPicture (state g new)) (led_more n (known.0, (let low = at.older.1 in omega (arith, low))) P)
        (led (suc n) (omega (arith, least)) at.known (led_on n P) at.library)) (rest.led clean);
    legal = λ clean n least there.
        let made = (first.done (rest.clean clean) n there).made in
        on_ok r (λ rises. record {
          rows = both_rows made rises;
          same = λ m known maps holds names. (let told = (made.same m known maps holds names).0 in absurd (omega (arith, told, less)));
          named = made.named;
        }) (rest.legal clean (suc n) (omega (arith, least)) (next_there to (state g old).now (state g mid).now made less n there));
    undone = λ clean is_open. on_err r (λ back n least known P is.
        let at = between clean n known P is in
        let it = back (suc n) (omega (arith, least)) at.known (led_on n P) at.library in
        let same : suc n + it.0 ≡ n + suc it.0 = omega arith in (
          suc it.0,
          ((let few = it.1.0 in omega (arith, few, same)), λ older. (let low = it.1.1 at.older in omega (arith, low, same))),
          subst (λ k. KeepsPictureAt k (state g new) (led_by it.0 (suc n) (led_on n P))) same it.2,
        )) (rest.undone clean is_open);
    nothing = λ clean is_open n least there.
        let made = (first.done (rest.clean clean) n there).made in
        on_err r (λ left. in_part made left)
        (rest.nothing clean is_open (suc n) (omega (arith, least)) (next_there to (state g old).now (state g mid).now made less n there));
    stop = λ clean n least known P keeps of legal trees may.
        let is : IsLibrary n (state g old).now P = (keeps.now, of, legal) in
        let done = first.done (rest.clean clean) n (library_there n known (state g old).now P is) in
        let at = between clean n known P is in
        let it =
        rest.stop clean (suc n) (omega (arith, least)) at.known (led_on n P)
        (open_keeps g settled (suc n) (state g mid).now mid (led_on n P) done.is_open refl done.committed at.library.0) at.library.1 at.library.2
        trees may in
        (it.0, one_more n known P it.0 it.1, it.2);
    stop_damaged = λ clean cannot left.
        absurd (not_damaged to (state g old).now (state g mid).now (first.done (rest.clean clean) cannot.at cannot.there).made less cannot);
    sound = λ clean told n least known P library.
        let at = between clean n known P library in
        rest.sound clean told (suc n) (omega (arith, least)) at.known (led_on n P) at.library;
  }
    where
      between : HasCleanDisk (state g new) → (n : ℕ) → IsKnown n → (P : Picture) → IsLibrary n (state g old).now P → LedOn n (state g mid).now P
      between clean n known P is =
          led_library to (state g old).now (state g mid).now
          (first.done (rest.clean clean) n (library_there n known (state g old).now P is)).made less n known P is

      both_rows : MigratesOn to (state g old).now (state g mid).now → RisesFrom (suc from) (state g mid).now (state g new).now
          → (n : ℕ) → from ≤ n → IsOlder n → (maps : Maps) → Holds (schema_at n) (state g old).now maps → NamesSchema maps n
          → (now : Maps) × Holds (schema_at SCHEMA) (state g new).now now × AreLedUp n maps now
      both_rows made rises n least older maps holds names =
          let it = led_maps to (state g old).now (state g mid).now made less n older maps holds names in
          let up = rises.rows (suc n) (omega (arith, least)) it.older it.between it.holds it.names in
          (up.0, up.1, led_up n older it.older maps it.between up.0 it.led up.2)

      in_part : MigratesOn to (state g old).now (state g mid).now → IsUndone (state g mid) (state g new) ⊎ IsLedInPart (state g mid) (state g new)
          → IsUndone (state g old) (state g new) ⊎ IsLedInPart (state g old) (state g new)
      in_part made (inl same) = inr (record { steps = 0; led = (to, less, ((state g mid).now, made, same.0)); committed = same.1 ∙ sym same.0 })
      in_part made (inr led) = inr (record { steps = suc led.steps; led = (to, less, ((state g mid).now, made, led.led)); committed = led.committed })

  -- All steps from the first schema on.
  pub migrates_all : {T : Type 0} {old new : Held S} (r : Result T Fault) → LeadsUp 1 g old new r → Migrates g old new r
  migrates_all {old = old} {new = new} r all = record {
    clean = all.clean;
    led = λ clean. on_ok r (λ led n known P is. led n known.0 known P is) (all.led clean);
    legal = λ clean n there. on_ok r (λ rises. record {
      rows = λ m older. rises.rows m older.0 older;
      same = rises.same;
      named = rises.named;
    }) (all.legal clean n there.known.0 there);
    undone = λ clean is_open. on_err r (λ back n known P is. back n known.0 known P is) (all.undone clean is_open);
    nothing = λ clean is_open n there. on_err r (λ left. as_told is_open left) (all.nothing clean is_open n there.known.0 there);
    stop = λ clean n known P keeps of legal. all.stop clean n known.0 known P keeps of legal;
    stop_damaged = all.stop_damaged;
    sound = λ clean told n known P. all.sound clean told n known.0 known P;
  }
    where
      as_told : IsTrue (state g new).is_open → IsUndone (state g old) (state g new) ⊎ IsLedInPart (state g old) (state g new)
          → IsAsItWas (state g old) (state g new) ⊎ IsLedInPart (state g old) (state g new)
      as_told is_open (inr led) = inr led
      as_told is_open (inl same) = inl (record {
        now = same.0;
        left = λ trees may. let it = leaves_committed g settled new (λ db. db ≡ (state g old).now) is_open same.1 trees may in
            inr (it.2 ∙ ap (λ (db : Database). db.trees) it.1);
      })

-- A step that led to the newest schema was made from it, or from the one before; so was one from the third on.
pub from_newest : (from to : ℕ) → SCHEMA ≤ to → (n : ℕ) → from ≤ n → IsOlder n → to ≡ next_schema n → n ≡ 3
from_newest from to most n least = of_older_each (λ n. to ≡ next_schema n → n ≡ 3)
    (λ next. absurd (omega (arith, next, most))) (λ next. absurd (omega (arith, next, most))) (λ next. refl) n

pub from_third : (to n : ℕ) → 3 ≤ n → IsOlder n → to ≡ next_schema n → n ≡ 3
from_third to n least older next = let less = older.1 in omega (arith, least, less)
