-- What migrating a library to the newest schema writes.
use Rattle.std.proofs.Common.{◌≡◌, ◌≤◌, ◌<◌, ◌+◌, ◌∙◌, ℕ, zero, suc, inl, inr, refl, ap, subst, arith}
use Rattle.std.specs.Prelude.{Result, Ok, Err, ◌-◌}
use Rattle.store.specs.Library.{Ghosts, Held, State, state, HasCleanDisk, IsOpen}
use Rattle.store.specs.Migrating.{Migrates, IsLibrary}
use Rattle.store.specs.Schemas.{IsKnown, IsOlder}
use Rattle.store.specs.Stops.{KeepsPicture, KeepsPictureAt, LeavesPicture}
use Rattle.circ_tables.specs.Encoding.{HasPictureAt}
use Rattle.circ_tables.specs.TableSchemas.{since_first}
use Rattle.terms.specs.Limits.{InLimits}
use Rattle.terms.specs.Schemas.{IsOfSchema, led_on, led_by}
use Rattle.terms.specs.Texts.{fault_number}
use Rattle.terms.specs.declared.fault.Fault.{Fault}
use Rattle.terms.specs.declared.fault.Fault.TheVariants.{Stored}
use Rattle.terms.specs.declared.limits.TheConstants.{SCHEMA}
use Rattle.model.specs.History.{History}
use Rattle.model.specs.Picture.{picture}
use Rattle.model.specs.Requests.{IsLegal}
use Rattle.model.specs.Schemas.{IsLegalAt, picture_at}
use Rattle.model.proofs.RowRanges.{legal-rows}
use Rattle.model.proofs.Schemas.{stands-1, stands-2, stands-3, within-schema-2, within-schema-3, legal-2, legal-3}
use Rattle.model.proofs.Schemas.{of_schema_1, of_schema_2, of_schema_3, led-1, led-2, led-3, limits1, limits2, limits3}
use Rattle.desk.specs.Answering.{Shows}
use Rattle.circ.specs.declared.lines.Exit.TheVariants.{Done, Faulted}
use Rattle.circ.specs.Lines.{schema_line, fault_line}
use Rattle.circ.specs.Migrating.{ShowsAt, IsFrom, LeavesOneSchema, SaysOneOf}

newest : IsKnown SCHEMA
newest = (omega arith, omega arith)

-- A list that was legal with a schema is legal.
legal-now : (n : ℕ) → IsKnown n → (H : History) → IsLegalAt n H → IsLegal H
legal-now = since_first (λ n. (H : History) → IsLegalAt n H → IsLegal H) (λ H was. (stands-1 H was).legal) (λ H was. (stands-2 H was).legal)
    (λ H was. (stands-3 H was).legal) (λ H was. was)

-- Its tables are those of the schema, and keep to their limits.
of-schema : (n : ℕ) → IsKnown n → (H : History) → IsOfSchema n (picture_at n H)
of-schema = since_first (λ n. (H : History) → IsOfSchema n (picture_at n H)) of_schema_1 of_schema_2 of_schema_3 (λ H. refl)

in-limits : (n : ℕ) → IsKnown n → (H : History) → InLimits (picture H) → InLimits (picture_at n H)
in-limits = since_first (λ n. (H : History) → InLimits (picture H) → InLimits (picture_at n H))
    (λ H legal. limits1 H (limits2 H (limits3 H legal))) (λ H legal. limits2 H (limits3 H legal)) limits3 (λ H legal. legal)

is-library : (n : ℕ) → IsKnown n → (s : State) (H : History) → ShowsAt n s H → IsLibrary n s.now (picture_at n H)
is-library n known s H shows = (shows.tables.now, of-schema n known H, in-limits n known H (legal-rows H (legal-now n known H shows.legal) shows.forms))

-- After a step they are those of the same list in the next schema, with which it was legal too.
led-once : (n : ℕ) → IsKnown n → n < SCHEMA → (H : History) → IsLegalAt n H → (led_on n (picture_at n H) ≡ picture_at (suc n) H) × IsLegalAt (suc n) H
led-once = since_first (λ n. n < SCHEMA → (H : History) → IsLegalAt n H → (led_on n (picture_at n H) ≡ picture_at (suc n) H) × IsLegalAt (suc n) H)
    (λ older H legal. let is = stands-1 H legal in (led-1 H is.of_schema, legal-2 H (within-schema-2 H is.of_schema) is.legal))
    (λ older H legal. let is = stands-2 H legal in (led-2 H is.of_schema, legal-3 H (within-schema-3 H is.of_schema) is.legal))
    (λ older H legal. let is = stands-3 H legal in (led-3 H is.of_schema, is.legal))
    (λ older. absurd (omega (arith, older)))

-- After any steps they are those of the schema that these lead to.
led-by : (n : ℕ) → IsKnown n → (steps : ℕ) → n + steps ≤ SCHEMA → (H : History) → IsLegalAt n H
    → (led_by steps n (picture_at n H) ≡ picture_at (n + steps) H) × IsLegalAt (n + steps) H
led-by n known zero few H legal =
    let here : n ≡ n + zero = omega arith in subst (λ m. (picture_at n H ≡ picture_at m H) × IsLegalAt m H) here (refl, legal)
led-by n known (suc steps) few H legal =
    let one = led-once n known (omega (arith, few)) H legal in
    let rest = led-by (suc n) (omega arith, omega (arith, few)) steps (omega (arith, few)) H one.1 in
    let there : suc n + steps ≡ n + suc steps = omega arith in
    subst (λ m. (led_by (suc steps) n (picture_at n H) ≡ picture_at m H) × IsLegalAt m H) there (ap (led_by steps (suc n)) one.0 ∙ rest.0, rest.1)

-- After all of them they are those of the newest.
led-up : (n : ℕ) → IsKnown n → (H : History) → IsLegalAt n H → led_by (SCHEMA - n) n (picture_at n H) ≡ picture H
led-up n known H legal =
    let all : n + (SCHEMA - n) ≡ SCHEMA = omega (arith, known.1) in
    subst (λ m. led_by (SCHEMA - n) n (picture_at n H) ≡ picture_at m H) all (led-by n known (SCHEMA - n) (omega (arith, all)) H legal).0

-- What shows a list in the newest schema shows it as one of that schema.
at-newest : (s : State) (H : History) → Shows s H → ShowsAt SCHEMA s H
at-newest s H shows = record { legal = shows.legal; forms = shows.forms; tables = shows.tables }

module _ {S T : Type 0} (g : Ghosts S) (old new : Held S) where
  says-now : (done : T) → Migrates g old new (Ok done) → HasCleanDisk (state g new) → (n : ℕ) → IsKnown n → (H : History)
      → ShowsAt n (state g old) H → Shows (state g new) H
  says-now done it disk n known H shows = record {
    legal = legal-now n known H shows.legal;
    forms = shows.forms;
    tables = subst (λ P. KeepsPicture (state g new) P) (led-up n known H shows.legal)
        (it.led disk n known (picture_at n H) (is-library n known (state g old) H shows));
  }

  pub says-led : (done : T) → Migrates g old new (Ok done) → SaysOneOf g old new schema_line Done
  says-led done it = inl (record {
    line_is = refl;
    exit_is = refl;
    led = says-now done it;
    same = λ disk H shows. says-now done it disk SCHEMA newest H (at-newest (state g old) H shows);
    legal = it.legal;
  })

  abbrev failed : Fault → Result T Fault
  failed fault = Err fault

  says-still : (fault : Fault) → Migrates {T = T} g old new (Err fault) → HasCleanDisk (state g new) → IsOpen g new → (n : ℕ) → IsKnown n
      → (H : History) → ShowsAt n (state g old) H → (m : ℕ) × IsFrom n m × (IsOlder n → m < SCHEMA) × ShowsAt m (state g new) H
  says-still fault it disk is_open n known H shows =
      let kept = it.undone disk is_open n known (picture_at n H) (is-library n known (state g old) H shows) in
      let led = led-by n known kept.0 kept.1.0 H shows.legal in (
        n + kept.0,
        (omega arith, kept.1.0),
        kept.1.1,
        record { legal = led.1; forms = shows.forms; tables = subst (λ P. KeepsPictureAt (n + kept.0) (state g new) P) led.0 kept.2 },
      )

  pub says-not-led : (fault : Fault) → Migrates {T = T} g old new (Err fault) → SaysOneOf g old new (fault_line (fault_number fault)) Faulted
  says-not-led fault it = inr (record {
    fault = fault;
    line_is = refl;
    exit_is = refl;
    sound = λ disk stored n known H shows.
        let same : failed fault ≡ failed Stored = ap failed stored in
        it.sound disk same n known (picture_at n H) (is-library n known (state g old) H shows);
    shown = says-still fault it;
    same = λ disk is_open H shows.
        let kept = says-still fault it disk is_open SCHEMA newest H (at-newest (state g old) H shows) in
        let low = kept.1.0 in
        let high = kept.1.1 in
        let is : kept.0 ≡ SCHEMA = omega (arith, low, high) in
        let here : ShowsAt SCHEMA (state g new) H = subst (λ m. ShowsAt m (state g new) H) is kept.3 in
        record { legal = here.legal; forms = here.forms; tables = here.tables };
    nothing = it.nothing;
  })

  -- A stop leaves the list in its schema or in a later one.
  pub left-in-one : {r : Result T Fault} → Migrates g old new r → HasCleanDisk (state g new) → (n : ℕ) → IsKnown n → (H : History)
      → ShowsAt n (state g old) H → LeavesOneSchema n (state g new) H
  left-in-one it disk n known H shows trees may =
      let left = it.stop disk n known (picture_at n H) shows.tables (of-schema n known H)
      (in-limits n known H (legal-rows H (legal-now n known H shows.legal) shows.forms)) trees may in
      let led = led-by n known left.1.0 left.1.1.0 H shows.legal in
      (left.0, (n + left.1.0, (omega arith, left.1.1.0), subst (HasPictureAt (n + left.1.0) left.0) led.0 left.1.1.1), left.2)

  pub left-same : {r : Result T Fault} → Migrates g old new r → HasCleanDisk (state g new) → (H : History) → Shows (state g old) H
      → LeavesPicture (state g new) (picture H)
  left-same it disk H shows trees may =
      let left = left-in-one it disk SCHEMA newest H (at-newest (state g old) H shows) trees may in
      let low = left.1.1.0 in
      let high = left.1.1.1 in
      let is : left.1.0 ≡ SCHEMA = omega (arith, low, high) in
      (left.0, subst (λ m. HasPictureAt m left.0 (picture_at m H)) is left.1.2, left.2)
