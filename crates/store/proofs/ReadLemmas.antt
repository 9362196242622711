-- Successive reads.
use Rattle.std.proofs.Common.{◌≡◌, inl, inr, List, map, Option, None, Some, Ok, Err, Result, IfOk, OnOk, IsTrue, refl, sym, subst, ap, ◌∙◌}
use Rattle.std.specs.Prelude.{IfSome}
use Rattle.std.specs.List.{All}
use Rattle.std.specs.Result.{result_err, IsErr, IsErrAnd}
use Rattle.sqlite.specs.Held.{Held, state}
use Rattle.sqlite.specs.Order.{Row}
use Rattle.sqlite.specs.Store.{Ghosts}
use Rattle.sqlite.specs.State.{State, HasCleanDisk, IsUnchanged}
use Rattle.sql_maps.specs.Maps.{Map, Maps, Holds}
use Rattle.terms.specs.Limits.{InLimits, ClosesFewDays}
use Rattle.terms.specs.Pictures.{Picture}
use Rattle.terms.specs.declared.fault.Fault.{Fault}
use Rattle.terms.specs.declared.fault.Fault.TheVariants.{Stored}
use Rattle.circ_tables.specs.Encoding.{HasPicture, Encodes}
use Rattle.circ_tables.specs.Reading.{Table, Gets, Lists, Views, IsSame, IsSameOrUndone, IsSoundIn, Reading, StaysReady}
use Rattle.circ_tables.specs.Shape.{schema}
use Rattle.store.specs.Library.{HasTables}
use Rattle.store.specs.Reads.{Reads, Looked, Finds, IsReadable}
use Rattle.sqlite.proofs.StateLemmas.{survives_then, survives_weaker}
use Rattle.store.proofs.ChangeSteps.{same_survives}

-- ---- what a store keeps beside its tables

pub ready_then : (a b c : State) → StaysReady a b → StaysReady b c → StaysReady a c
ready_then a b c one two = survives_then a b c _ _ _ (λ _ _ _. tt) (λ _ _ _. tt) one two

pub ready_same : (s : State) → StaysReady s s
ready_same s = survives_weaker s s _ _ (λ _ _ none. tt) (same_survives s)

-- ---- successive reads

same_then : (a b c : State) → IsSame a b → IsSame b c → IsSame a c
same_then a b c one two = record { now = two.now ∙ one.now; committed = two.committed ∙ one.committed; was_open = λ is. one.was_open (two.was_open is) }

undone_then : (a b c : State) → IsSame a b → IsSameOrUndone b c → IsSameOrUndone a c
undone_then a b c one (inl two) = inl (two ∙ one.now)
undone_then a b c one (inr two) = inr (one.was_open two.0, two.1 ∙ one.committed)

pub held_still : (a b : State) (maps : Maps) → IsSame a b → Holds schema a.now maps → Holds schema b.now maps
held_still a b maps one holds = subst (λ d. Holds schema d maps) (sym one.now) holds

shown_still : (a b : State) (P : Picture) → IsSame a b → HasPicture a.now P → HasPicture b.now P
shown_still a b P one shown = subst (λ d. HasPicture d P) (sym one.now) shown

-- a read that ended well, and then another
pub read_then : {fault : Option Fault} (a b c : State) → Reading None a b → Reading fault b c → Reading fault a c
read_then a b c one two = record {
  ready = ready_then a b c one.ready two.ready;
  clean = λ h. one.clean (two.clean h);
  mode = λ h. two.mode (one.mode h);
  leaves = λ h is maps holds. let same = one.same refl (two.clean h) maps holds in
      undone_then a b c same (two.leaves h is maps (held_still a b maps same holds));
  crash = λ h maps holds trees may. one.crash (two.clean h) maps holds trees
      (two.crash h maps (held_still a b maps (one.same refl (two.clean h) maps holds) holds) trees may);
  same = λ is h maps holds. let same = one.same refl (two.clean h) maps holds in same_then a b c same (two.same is h maps (held_still a b maps same holds));
  sound = λ is h P shown legal few. two.sound is h P (shown_still a b P (one.same refl (two.clean h) shown.maps shown.holds) shown) legal few;
}

-- nothing was read
pub read_none : (a : State) → Reading None a a
read_none a = record {
  ready = ready_same a;
  clean = λ h. h;
  mode = λ h. h;
  leaves = λ h is maps holds. inl refl;
  crash = λ h maps holds trees may. may;
  same = λ is h maps holds. record { now = refl; committed = refl; was_open = λ is. is };
  sound = λ is h P shown legal few. absurd (let e = is in cc);
}

-- the picture is there still
pub picture_then : (a b : State) → Reading None a b → HasCleanDisk b → (P : Picture) → HasPicture a.now P → HasPicture b.now P
picture_then a b one clean P shown = shown_still a b P (one.same refl clean shown.maps shown.holds) shown

-- what a store says of a read
answered_of : {A : Type 0} (r : Result A Fault) (a b : State) → Reading (result_err r) a b → HasCleanDisk b → HasTables a.now → OnOk r (b.now ≡ a.now)
answered_of (Ok x) a b one h tables = (one.same refl h tables.0 tables.1).now
answered_of (Err e) a b one h tables = tt

pub reads_of : {A : Type 0} (r : Result A Fault) (a b : State) → (IsTrue a.is_open → a.now ≡ a.committed) → Reading (result_err r) a b → Reads a b r
reads_of r a b settled one = record {
  ready = one.ready;
  clean = one.clean;
  answered = λ h tables. answered_of r a b one h tables;
  same = λ h is tables. elim (one.leaves h is tables.0 tables.1) [ inl kept ↦ kept | inr undone ↦ undone.1 ∙ sym (settled undone.0) ];
  left = λ h tables. one.crash h tables.0 tables.1;
}

pub legal_if : {R : Type 0} (Good : R → Type 0) (o : Option R) → ((r : R) → o ≡ Some r → Good r) → IfSome o Good
legal_if Good None own = tt
legal_if Good (Some r) own = own r refl

-- a read that ended well, and then a step that failed
pub read_fails : {fault : Option Fault} (a b : State) → Reading None a b
    → (fault ≡ Some Stored → HasCleanDisk b → (P : Picture) → HasPicture a.now P → InLimits P → ClosesFewDays P → ⊥) → Reading fault a b
read_fails a b one sound = record { ready = one.ready; clean = one.clean; mode = one.mode; leaves = one.leaves; crash = one.crash; same = λ _. one.same refl; sound = sound }

-- a fault that is handed on
pub read_err : {A : Type 0} (r : Result A Fault) (fault : Fault) (a b : State) → IsErr r × IsErrAnd r (λ e. e ≡ fault)
    → Reading (Some fault) a b → Reading (result_err r) a b
read_err (Ok x) fault a b is one = absurd (let none = is.0 in cc)
read_err (Err e) fault a b is one = subst (λ f. Reading (Some f) a b) (sym is.1) one

-- what is read and that the tables are as they were
pub shown_same : {A : Type 0} (Q : A → Picture → Type 0) (r : Result A Fault) (a b : State) → HasCleanDisk b → Reading (result_err r) a b
    → (HasCleanDisk b → IfOk r (λ x. (P : Picture) → HasPicture a.now P → InLimits P → Q x P))
    → IfOk r (λ x. (P : Picture) → HasPicture a.now P → InLimits P → Q x P × (b.now ≡ a.now))
shown_same Q (Ok x) a b clean one got = λ P shown legal. (got clean P shown legal, (one.same refl clean shown.maps shown.holds).now)
shown_same Q (Err e) a b clean one got = tt

pub sound_of : {A : Type 0} (r : Result A Fault) (a b : State) → Reading (result_err r) a b → HasCleanDisk b → r ≡ Err Stored
    → (P : Picture) → HasPicture a.now P → InLimits P → ClosesFewDays P → ⊥
sound_of r a b one clean is P shown legal few = one.sound (ap result_err is) clean P shown legal few

-- ---- what a store says of a read

ok_then : {A : Type 0} {P Q : A → Type 0} (r : Result A Fault) → ((x : A) → P x → Q x) → IfOk r P → IfOk r Q
ok_then (Ok x) f h = f x h
ok_then (Err e) f h = tt

-- of a row of a key
pub looked_of : {K R S : Type 0} (t : Table K R) (key : K) (g : Ghosts S)
    (legal : (P : Picture) → InLimits P → (r : R) → t.rows P key ≡ Some r → t.IsLegal r) (old new : Held S)
    (result : Result (Option R) Fault)
    → (IsTrue (state g old).is_open → (state g old).now ≡ (state g old).committed) → Gets t key g old new result → Finds t key g old new result
looked_of t key g legal old new result settled is = record {
  reads = reads_of result (state g old) (state g new) settled is.view.read;
  shown = λ clean. ok_then result (λ row got P shown within. let both = got P shown within in (both.0, both.1.0.now_is)) (is.shows clean);
  sound = λ clean err P shown within. is.sound clean P shown (legal_if t.IsLegal (t.rows P key) (legal P within)) err;
}

-- the same where all rows lie within their limits
pub looked_row : {K R S : Type 0} (t : Table K R) (key : K) (g : Ghosts S)
    (legal : (P : Picture) → InLimits P → (r : R) → t.rows P key ≡ Some r → t.IsLegal r) (old new : Held S)
    (result : Result (Option R) Fault)
    → (IsTrue (state g old).is_open → (state g old).now ≡ (state g old).committed) → Gets t key g old new result
    → Looked InLimits (λ P row. row ≡ t.rows P key) InLimits g old new result
looked_row t key g legal old new result settled is =
    let found = looked_of t key g legal old new result settled is in
    record {
      reads = found.reads;
      shown = λ clean. ok_then result (λ row got P shown within. got P shown (legal_if t.IsLegal (t.rows P key) (legal P within))) (found.shown clean);
      sound = found.sound;
    }

-- of a view
pub looked_view : {A S : Type 0} (Is : Picture → A → Type 0) (g : Ghosts S) (old new : Held S) (result : Result A Fault)
    → (IsTrue (state g old).is_open → (state g old).now ≡ (state g old).committed) → Views Is g old new result → Looked InLimits Is IsReadable g old new result
looked_view Is g old new result settled is = record {
  reads = reads_of result (state g old) (state g new) settled is.read;
  shown = λ clean. shown_same (λ x P. Is P x) result (state g old) (state g new) clean is.read is.shown;
  sound = λ clean err P shown good. is.read.sound (ap result_err err) clean P shown good.0 good.1;
}

-- of a view of which no fault of a stored row comes where all rows lie within their limits
pub looked_sound : {A S : Type 0} (Is : Picture → A → Type 0) (g : Ghosts S) (old new : Held S) (result : Result A Fault)
    → (IsTrue (state g old).is_open → (state g old).now ≡ (state g old).committed) → Views Is g old new result → IsSoundIn InLimits g old new result
    → Looked InLimits Is InLimits g old new result
looked_sound Is g old new result settled is sound = record {
  reads = reads_of result (state g old) (state g new) settled is.read;
  shown = λ clean. shown_same (λ x P. Is P x) result (state g old) (state g new) clean is.read is.shown;
  sound = λ clean err P shown legal. sound clean P shown legal err;
}

list_same : {R L : Type 0} (items : L → List R) (Good : R → Type 0) (Found : Maps → List R → Type 0) (Are : Picture → List R → Type 0)
    → ((maps : Maps) (P : Picture) → Encodes maps P → InLimits P → (rows : List R) → All Good rows → Found maps rows → Are P rows)
    → (r : Result L Fault) (a b : State) → IfOk r (λ l. (maps : Maps) → Holds schema a.now maps → Found maps (items l) × IsUnchanged a b)
    → IfOk r (λ l. All Good (items l))
    → IfOk r (λ l. (P : Picture) → HasPicture a.now P → InLimits P → Are P (items l) × (b.now ≡ a.now))
list_same items Good Found Are are (Ok l) a b got limits = λ P shown legal. let all = got shown.maps shown.holds in
    (are shown.maps P shown.encodes legal (items l) limits all.0, all.1.0.now_is)
list_same items Good Found Are are (Err e) a b got limits = tt

-- of a list
pub looked_list : {K R L S : Type 0} (t : Table K R) (items : L → List R) (Found : Map → List Row → Type 0) (Are : Picture → List R → Type 0)
    → ((maps : Maps) (P : Picture) → Encodes maps P → InLimits P → (rows : List R) → All t.IsLegal rows → Found (maps t.place) (map t.cells rows) → Are P rows)
    → (g : Ghosts S) (old new : Held S) (result : Result L Fault)
    → (IsTrue (state g old).is_open → (state g old).now ≡ (state g old).committed) → Lists t items Found g old new result
    → Looked InLimits (λ P l. Are P (items l)) InLimits g old new result
looked_list t items Found Are are g old new result settled is = record {
  reads = reads_of result (state g old) (state g new) settled is.read;
  shown = λ clean. list_same items t.IsLegal (λ maps rows. Found (maps t.place) (map t.cells rows)) Are are result (state g old)
      (state g new) (is.lists clean) is.limits;
  sound = λ clean err P shown legal. is.sound clean P shown legal err;
}
