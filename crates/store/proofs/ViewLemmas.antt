-- Successive reads, each from where the last left the tables.
use Rattle.std.proofs.Common.{◌≡◌, ℕ, List, map, Option, Some, Ok, Err, Result, IfOk, IfErr, sym, ap, subst, ◌∙◌}
use Rattle.std.specs.List.{All}
use Rattle.std.specs.Result.{IsErr, IsErrAnd}
use Rattle.sqlite.specs.Held.{Held, state}
use Rattle.sqlite.specs.Order.{Row}
use Rattle.sqlite.specs.State.{HasCleanDisk}
use Rattle.sqlite.specs.Store.{Ghosts}
use Rattle.sql_maps.specs.Maps.{Map, Maps, First, FirstOf}
use Rattle.terms.specs.Limits.{InLimits, ClosesFewDays}
use Rattle.terms.specs.Orders.{IsOrdered}
use Rattle.terms.specs.Pictures.{Picture}
use Rattle.terms.specs.declared.fault.Fault.{Fault}
use Rattle.terms.specs.declared.fault.Fault.TheVariants.{Stored}
use Rattle.terms.specs.declared.row.CopyRow.{CopyRow}
use Rattle.terms.specs.declared.row.LoanRow.{LoanRow}
use Rattle.terms.specs.declared.row.HoldRow.{HoldRow}
use Rattle.terms.specs.declared.row.TransitRow.{TransitRow}
use Rattle.circ_core.specs.Views.{IsLoanOf, IsHoldOf, IsTravelFor, IsFirstOf, IsLoanOfTitle, IsCount, IsOpenBy, IsActiveBy, IsActiveOn}
use Rattle.circ_tables.specs.Encoding.{AreEncoded, HasPicture, Encodes}
use Rattle.circ_tables.specs.Reading.{Table, Views, Gets, Selects, Counts, Lists, IsSoundIn}
use Rattle.circ_tables.specs.Copies.{copies}
use Rattle.circ_tables.specs.Loans.{loans}
use Rattle.circ_tables.specs.Holds.{holds}
use Rattle.circ_tables.specs.Transits.{transits}
use Rattle.circ_tables.specs.Selections.{is_open_of, is_open_by, is_active_by, is_active_on, names_copy, travels_for, StandsInLine, LendsTitle}
use Rattle.circ_tables.specs.Selections.{StandsFree}
use Rattle.circ_tables.specs.Shape.{copies_place, loans_place, holds_place, transits_place}
use Rattle.circ_tables.proofs.ReadingLemmas.{read_of}
use Rattle.store.proofs.CountLemmas.{open_loans_shown, open_loans_few, active_holds_shown, active_holds_few, active_holds_on_shown, active_holds_on_few}
use Rattle.store.proofs.ReadLemmas.{read_then, read_err, read_fails, picture_then, legal_if}
use Rattle.store.proofs.RowLemmas.{loan_of_shown, hold_of_shown, travel_for_shown, first_of_shown, loan_of_title_shown, least_shelved_shown}
use Rattle.store.specs.Batches.{IsLeastShelved}

if_ok_of : {A : Type 0} (r : Result A Fault) {P Q : A → Type 0} → ((x : A) → P x → Q x) → IfOk r P → IfOk r Q
if_ok_of (Ok x) f h = f x h
if_ok_of (Err e) f h = tt

if_both_of : {A : Type 0} (r : Result A Fault) {P Q U : A → Type 0} → ((x : A) → P x → Q x → U x) → IfOk r P → IfOk r Q → IfOk r U
if_both_of (Ok x) f h i = f x h i
if_both_of (Err e) f h i = tt

infixr 10 ◌⨾◌
-- a read that ended well, and then another: both are seen in the picture of the first
pub ◌⨾◌ : {S A B : Type 0} {g : Ghosts S} {Is : Picture → A → Type 0} {Then : Picture → B → Type 0} {x : A} {r : Result B Fault}
    {a b c : Held S} → Views Is g a b (Ok x) → Views Then g b c r → Views (λ P y. Is P x × Then P y) g a c r
◌⨾◌ {S} {A} {B} {g} {Is} {Then} {x} {r} {a} {b} {c} one two = record {
  read = read_then (state g a) (state g b) (state g c) one.read two.read;
  shown = λ clean.
      let before = two.read.clean clean in
      if_ok_of r (λ y got P shown legal.
      (one.shown before P shown legal, got P (picture_then (state g a) (state g b) one.read before P shown) legal)) (two.shown clean);
}

-- what was seen is what is wanted
pub gives : {S A B : Type 0} {g : Ghosts S} {Is : Picture → A → Type 0} {Wanted : Picture → B → Type 0} {x : A} {y : B} {a b : Held S}
    → Views Is g a b (Ok x) → ((P : Picture) → Is P x → Wanted P y) → Views Wanted g a b (Ok y)
gives seen f = record { read = seen.read; shown = λ clean P shown legal. f P (seen.shown clean P shown legal) }

-- the same, whether it ended well or not
pub seen_as : {S A : Type 0} {g : Ghosts S} {Is Wanted : Picture → A → Type 0} {r : Result A Fault} {a b : Held S} → Views Is g a b r
    → ((P : Picture) (x : A) → Is P x → Wanted P x) → Views Wanted g a b r
seen_as {r = r} seen f = record { read = seen.read; shown = λ clean. if_ok_of r (λ x got P shown legal. f P x (got P shown legal)) (seen.shown clean) }

-- a fault that is handed on
pub fails : {S A B : Type 0} {g : Ghosts S} {Is : Picture → A → Type 0} {Wanted : Picture → B → Type 0} (r : Result B Fault)
    (fault : Fault) {a b : Held S} → IsErr r × IsErrAnd r (λ e. e ≡ fault) → Views Is g a b (Err fault) → Views Wanted g a b r
fails (Ok x) fault is seen = absurd (let none = is.0 in cc)
fails {B = B} {g = g} (Err e) fault {a} {b} is seen = record { read = read_err {A = B} (Err e) fault (state g a) (state g b) is seen.read; shown = λ clean. tt }

-- no fault of a stored row comes of a selection over rows within their limits
pub selects_sound : {S K R : Type 0} {t : Table K R} {Found : Maps → List Row → Type 0} {g : Ghosts S} {r : Result (Option R) Fault} {a b : Held S}
    → ((maps : Maps) (P : Picture) → Encodes maps P → InLimits P → AreEncoded t.cells t.IsLegal (maps t.place)) → Selects t Found g a b r
    → IsSoundIn InLimits g a b r
selects_sound encoded is clean P shown legal err = is.stored clean err shown.maps shown.holds (encoded shown.maps P shown.encodes legal)

-- nor of the row of a key
pub gets_sound : {S K R : Type 0} {t : Table K R} {key : K} {g : Ghosts S} {r : Result (Option R) Fault} {a b : Held S}
    → ((P : Picture) → InLimits P → (x : R) → t.rows P key ≡ Some x → t.IsLegal x) → Gets t key g a b r → IsSoundIn InLimits g a b r
gets_sound {t = t} {key = key} legal is clean P shown within = is.sound clean P shown (legal_if t.IsLegal (t.rows P key) (legal P within))

-- nor after a read that ended well, if none comes of the last one
pub sound_then : {S A B : Type 0} {g : Ghosts S} {Is : Picture → A → Type 0} {Then : Picture → B → Type 0} {x : A} {r : Result B Fault}
    {a b c : Held S} → Views Is g a b (Ok x) → Views Then g b c r → IsSoundIn InLimits g b c r → IsSoundIn InLimits g a c r
sound_then {g = g} {a = a} {b = b} one two sound clean P shown =
    sound clean P (picture_then (state g a) (state g b) one.read (two.read.clean clean) P shown)

-- nor of one that is handed on
pub sound_fails : {S A B : Type 0} {g : Ghosts S} {Is : Picture → A → Type 0} (r : Result B Fault) (fault : Fault) {a b : Held S}
    → IsErr r × IsErrAnd r (λ e. e ≡ fault) → Views Is g a b (Err fault) → IsSoundIn {A = A} InLimits g a b (Err fault) → IsSoundIn InLimits g a b r
sound_fails (Ok x) fault is seen sound clean P shown legal err = absurd (let none = is.0 in cc)
sound_fails (Err e) fault is seen sound clean P shown legal err =
    let same : e ≡ Stored = cc in
    sound clean P shown legal (ap Err (sym is.1 ∙ same))

-- a read that ended well, and then a step of memory alone that failed
pub stops : {S A : Type 0} {g : Ghosts S} {Is : Picture → A → Type 0} {x : A} {a b : Held S} (fault : Fault) → Views Is g a b (Ok x)
    → (fault ≡ Stored → HasCleanDisk (state g b) → (P : Picture) → HasPicture (state g a).now P → InLimits P → ClosesFewDays P → ⊥)
    → Views Is g a b (Err fault)
stops {g = g} {a = a} {b = b} fault seen sound =
    record {
      read = read_fails (state g a) (state g b) seen.read (λ is. sound (let same : fault ≡ Stored = cc in same));
      shown = λ clean. tt;
    }

-- rows that were read, and are taken where they are in order
pub taken : {S A R : Type 0} {g : Ghosts S} {Is : Picture → A → Type 0} {Wanted : Picture → List R → Type 0} {x : A} {a b : Held S}
    (Before : R → R → Type 0) (rows : List R) (r : Result (List R) Fault)
    → IfOk r (λ taken. (taken ≡ rows) × IsOrdered Before rows) → IfErr r (λ fault. (fault ≡ Stored) × ¬ IsOrdered Before rows)
    → Views Is g a b (Ok x) → ((P : Picture) → Is P x → Wanted P rows × IsOrdered Before rows) → Views Wanted g a b r
taken {Wanted = Wanted} Before rows (Ok l) ok err seen are = gives seen (λ P is. subst (Wanted P) (sym ok.0) (are P is).0)
taken {g = g} {x = x} {a = a} {b = b} Before rows (Err fault) ok err seen are = record {
  read = read_fails (state g a) (state g b) seen.read (λ is clean P shown legal few. err.1 (are P (seen.shown clean P shown legal)).1);
  shown = λ clean. tt;
}

-- ---- selections, counts and lists in words of the picture

pub loan_seen : {S : Type 0} {g : Ghosts S} {copy : ℕ} {r : Result (Option LoanRow) Fault} {a b : Held S}
    → Selects loans (λ maps. First (maps loans_place) (is_open_of copy)) g a b r → Views (λ P row. IsLoanOf P copy row) g a b r
loan_seen {g = g} {copy = copy} {r = r} {a = a} {b = b} is =
    record { read = is.read; shown = λ clean. loan_of_shown copy (state g a) (state g b) r (is.first clean) is.limits }

pub hold_seen : {S : Type 0} {g : Ghosts S} {copy : ℕ} {r : Result (Option HoldRow) Fault} {a b : Held S}
    → Selects holds (λ maps. First (maps holds_place) (names_copy copy)) g a b r → Views (λ P row. IsHoldOf P copy row) g a b r
hold_seen {g = g} {copy = copy} {r = r} {a = a} {b = b} is =
    record { read = is.read; shown = λ clean. hold_of_shown copy (state g a) (state g b) r (is.first clean) is.limits }

pub travel_seen : {S : Type 0} {g : Ghosts S} {hold : ℕ} {r : Result (Option TransitRow) Fault} {a b : Held S}
    → Selects transits (λ maps. First (maps transits_place) (travels_for hold)) g a b r → Views (λ P row. IsTravelFor P hold row) g a b r
travel_seen {g = g} {hold = hold} {r = r} {a = a} {b = b} is =
    record { read = is.read; shown = λ clean. travel_for_shown hold (state g a) (state g b) r (is.first clean) is.limits }

pub first_seen : {S : Type 0} {g : Ghosts S} {title today : ℕ} {r : Result (Option HoldRow) Fault} {a b : Held S}
    → Selects holds (λ maps. FirstOf (maps holds_place) (StandsInLine (maps transits_place) title today)) g a b r
    → Views (λ P row. today ≡ P.meta.today → IsFirstOf P title row) g a b r
first_seen {g = g} {title = title} {today = today} {r = r} {a = a} {b = b} is =
    record { read = is.read; shown = λ clean. first_of_shown title today (state g a) (state g b) r (is.first clean) is.limits }

pub title_loan_seen : {S : Type 0} {g : Ghosts S} {patron title : ℕ} {r : Result (Option LoanRow) Fault} {a b : Held S}
    → Selects loans (λ maps. FirstOf (maps loans_place) (LendsTitle (maps copies_place) patron title)) g a b r
    → Views (λ P row. IsLoanOfTitle P patron title row) g a b r
title_loan_seen {g = g} {patron = patron} {title = title} {r = r} {a = a} {b = b} is =
    record { read = is.read; shown = λ clean. loan_of_title_shown patron title (state g a) (state g b) r (is.first clean) is.limits }

pub least_shelved_seen : {S : Type 0} {g : Ghosts S} {title branch : ℕ} {r : Result (Option CopyRow) Fault} {a b : Held S}
    → Selects copies (λ maps. FirstOf (maps copies_place) (StandsFree (maps transits_place) (maps holds_place) (maps loans_place) title branch)) g a b r
    → Views (λ P row. IsLeastShelved P title branch row) g a b r
least_shelved_seen {g = g} {title = title} {branch = branch} {r = r} {a = a} {b = b} is =
    record { read = is.read; shown = λ clean. least_shelved_shown title branch (state g a) (state g b) r (is.first clean) is.limits }

pub open_loans_seen : {S : Type 0} {g : Ghosts S} {patron : ℕ} {r : Result ℕ Fault} {a b : Held S}
    → Counts loans (is_open_by patron) g a b r → Views (λ P n. IsCount (IsOpenBy P patron) n) g a b r
open_loans_seen {g = g} {patron = patron} {r = r} {a = a} {b = b} is = record {
  read = read_of r g a b is.looks (λ clean. if_ok_of r (λ n got maps holds. (got maps holds).1) (is.counts clean))
      (λ clean P shown legal err. let many = is.stored clean err shown.maps shown.holds in open_loans_few patron shown.maps P shown.encodes
      legal many.0 many.1 many.2);
  shown = λ clean. if_ok_of r (λ n got P shown legal. open_loans_shown patron shown.maps P shown.encodes legal n
      (got shown.maps shown.holds).0) (is.counts clean);
}

pub active_holds_seen : {S : Type 0} {g : Ghosts S} {patron : ℕ} {r : Result ℕ Fault} {a b : Held S}
    → Counts holds (is_active_by patron) g a b r → Views (λ P n. IsCount (IsActiveBy P patron) n) g a b r
active_holds_seen {g = g} {patron = patron} {r = r} {a = a} {b = b} is = record {
  read = read_of r g a b is.looks (λ clean. if_ok_of r (λ n got maps holds. (got maps holds).1) (is.counts clean))
      (λ clean P shown legal err. let many = is.stored clean err shown.maps shown.holds in active_holds_few patron shown.maps P
      shown.encodes legal many.0 many.1 many.2);
  shown = λ clean. if_ok_of r (λ n got P shown legal. active_holds_shown patron shown.maps P shown.encodes legal n
      (got shown.maps shown.holds).0) (is.counts clean);
}

pub active_holds_on_seen : {S : Type 0} {g : Ghosts S} {patron title : ℕ} {r : Result ℕ Fault} {a b : Held S}
    → Counts holds (is_active_on patron title) g a b r → Views (λ P n. IsCount (IsActiveOn P patron title) n) g a b r
active_holds_on_seen {g = g} {patron = patron} {title = title} {r = r} {a = a} {b = b} is = record {
  read = read_of r g a b is.looks (λ clean. if_ok_of r (λ n got maps holds. (got maps holds).1) (is.counts clean))
      (λ clean P shown legal err. let many = is.stored clean err shown.maps shown.holds in active_holds_on_few patron title shown.maps P
      shown.encodes legal many.0 many.1 many.2);
  shown = λ clean. if_ok_of r (λ n got P shown legal. active_holds_on_shown patron title shown.maps P shown.encodes legal n
      (got shown.maps shown.holds).0) (is.counts clean);
}

-- the rows of a list
pub rows_seen : {S K R L : Type 0} {t : Table K R} {items : L → List R} {Found : Map → List Row → Type 0} {g : Ghosts S}
    {r : Result L Fault} {a b : Held S} (Are : Picture → List R → Type 0)
    → ((maps : Maps) (P : Picture) → Encodes maps P → InLimits P → (rows : List R) → All t.IsLegal rows → Found (maps t.place) (map t.cells rows) → Are P rows)
    → Lists t items Found g a b r → Views (λ P l. Are P (items l)) g a b r
rows_seen {r = r} Are are is = record {
  read = is.read;
  shown = λ clean. if_both_of r (λ l got limits P shown legal. are shown.maps P shown.encodes legal _ limits (got shown.maps shown.holds).0)
      (is.lists clean) is.limits;
}
