-- Successive reads of the store, in terms of a picture whose rows are within their limits.
use Rattle.std.proofs.Common.{◌≡◌, ◌∙◌, refl, sym, subst}
use Rattle.std.specs.Prelude.{Result, Ok, Err, OnOk}
use Rattle.std.specs.Result.{IsErr, IsErrAnd}
use Rattle.store.specs.Library.{Ghosts, Held, State, state, HasCleanDisk, HasTables}
use Rattle.store.specs.Reads.{Reads, Looked}
use Rattle.store.proofs.ReadLemmas.{ready_same, ready_then}
use Rattle.circ_tables.specs.Encoding.{HasPicture}
use Rattle.terms.specs.Limits.{InLimits}
use Rattle.terms.specs.Pictures.{Picture}
use Rattle.terms.specs.declared.fault.Fault.{Fault}
use Rattle.terms.specs.declared.fault.Fault.TheVariants.{Memory, Stored}
use Rattle.desk.proofs.Results.{on-ok}

-- What was found in tables whose rows lie in their limits. Fault 93 comes of no such tables.
abbrev pub Found : {S A : Type 0} → (Picture → A → Type 0) → Ghosts S → Held S → Held S → Result A Fault → Type 0
Found Is = Looked InLimits Is InLimits

-- A read that was answered, and then another.
reads-then : {A B : Type 0} (a b c : State) (x : A) (r : Result B Fault) → Reads {A = A} a b (Ok x) → Reads b c r → Reads a c r
reads-then a b c x r one two = record {
  ready = ready_then a b c one.ready two.ready;
  clean = λ disk. one.clean (two.clean disk);
  answered = λ disk tables. on-ok r (λ same. same ∙ one.answered (two.clean disk) tables) (two.answered disk (kept disk tables));
  same = λ disk is_open tables. two.same disk is_open (kept disk tables) ∙ one.answered (two.clean disk) tables;
  left = λ disk tables trees may. one.left (two.clean disk) tables trees (two.left disk (kept disk tables) trees may);
}
  where
    kept : HasCleanDisk c → HasTables a.now → HasTables b.now
    kept disk tables = subst HasTables (sym (one.answered (two.clean disk) tables)) tables

-- Whatever is made of an answer.
reads-as : {A B : Type 0} (a b : State) (x : A) (r : Result B Fault) → Reads {A = A} a b (Ok x) → Reads a b r
reads-as {B = B} a b x r one = record {
  ready = one.ready;
  clean = one.clean;
  answered = λ disk tables. given r (one.answered disk tables);
  same = λ disk is_open tables. one.answered disk tables;
  left = one.left;
}
  where
    given : {P : Type 0} (q : Result B Fault) → P → OnOk q P
    given (Ok y) p = p
    given (Err e) p = tt

-- Nothing was asked yet.
pub found-nothing : {S : Type 0} {g : Ghosts S} {a : Held S} {Is : Picture → Unit {0} → Type 0} → ((P : Picture) → InLimits P → Is P tt)
    → Found Is g a a (Ok tt)
found-nothing {g = g} {a = a} is = record {
  reads = record {
    ready = ready_same (state g a);
    clean = λ disk. disk;
    answered = λ disk tables. refl;
    same = λ disk is_open tables. refl;
    left = λ disk tables trees may. may;
  };
  shown = λ disk P shown legal. (is P legal, refl);
  sound = λ disk e. let never : ⊥ = cc in absurd never;
}

module _ {S A : Type 0} {g : Ghosts S} {a b : Held S} {Is : Picture → A → Type 0} {x : A} (first : Found Is g a b (Ok x)) where
  -- What is made of an answer.
  pub found-as : {B : Type 0} {Wanted : Picture → B → Type 0} {y : B} → ((P : Picture) → InLimits P → Is P x → Wanted P y) → Found Wanted g a b (Ok y)
  found-as {y = y} f = record {
    reads = reads-as (state g a) (state g b) x (Ok y) first.reads;
    shown = λ disk P shown legal. let one = first.shown disk P shown legal in (f P legal one.0, one.1);
    sound = λ disk e. let never : ⊥ = cc in absurd never;
  }

  -- It is told that a row is damaged, which comes of no tables whose rows lie in their limits.
  pub found-never : {B : Type 0} {Wanted : Picture → B → Type 0} → ((P : Picture) → InLimits P → Is P x → ⊥) → Found {A = B} Wanted g a b (Err Stored)
  found-never {B} f = record {
    reads = reads-as {B = B} (state g a) (state g b) x (Err Stored) first.reads;
    shown = λ disk. tt;
    sound = λ disk e P shown legal. f P legal (first.shown disk P shown legal).0;
  }

  -- After an answer memory ran out.
  pub found-stops : {B : Type 0} {Wanted : Picture → B → Type 0} (r : Result B Fault) → IsErr r × IsErrAnd r (λ e. e ≡ Memory) → Found Wanted g a b r
  found-stops (Ok y) is = let never : ⊥ = cc (is.0) in absurd never
  found-stops {B} (Err e) is = record {
    reads = reads-as {B = B} (state g a) (state g b) x (Err e) first.reads;
    shown = λ disk. tt;
    sound = λ disk stored. let memory : e ≡ Memory = is.1 in let never : ⊥ = cc in absurd never;
  }

  module _ {B : Type 0} {c : Held S} {Then : Picture → B → Type 0} where
    -- One read after another.
    pub found-then : {C : Type 0} {Wanted : Picture → C → Type 0} {y : B} {z : C} → Found Then g b c (Ok y)
        → ((P : Picture) → InLimits P → Is P x → Then P y → Wanted P z) → Found Wanted g a c (Ok z)
    found-then {y = y} {z = z} second f = record {
      reads = reads-then (state g a) (state g b) (state g c) x (Ok z) first.reads (reads-as (state g b) (state g c) y (Ok z) second.reads);
      shown = λ disk P shown legal.
          let one = first.shown (second.reads.clean disk) P shown legal in
          let two = second.shown disk P (subst (λ d. HasPicture d P) (sym one.1) shown) legal in
          (f P legal one.0 two.0, two.1 ∙ one.1);
      sound = λ disk e. let never : ⊥ = cc in absurd never;
    }

    -- The fault of a read is handed on.
    pub found-fault : {C : Type 0} {Wanted : Picture → C → Type 0} {fault : Fault} (r : Result C Fault) → IsErr r
        × IsErrAnd r (λ e. e ≡ fault) → Found Then g b c (Err fault) → Found Wanted g a c r
    found-fault (Ok z) is second = let never : ⊥ = cc (is.0) in absurd never
    found-fault {C} {fault = fault} (Err e) is second =
        let same : e ≡ fault = is.1 in
        let again : Reads {A = C} (state g b) (state g c) (Err e) =
        record {
          ready = second.reads.ready;
          clean = second.reads.clean;
          answered = λ disk tables. tt;
          same = second.reads.same;
          left = second.reads.left;
        } in
        record {
          reads = reads-then (state g a) (state g b) (state g c) x (Err e) first.reads again;
          shown = λ disk. tt;
          sound = λ disk stored P shown legal.
              let one = first.shown (second.reads.clean disk) P shown legal in
              let asked : Err fault ≡ Err Stored = cc in
              second.sound disk asked P (subst (λ d. HasPicture d P) (sym one.1) shown) legal;
        }

-- A fault is that of what was asked.
pub found-err : {S A B : Type 0} {g : Ghosts S} {a b : Held S} {Is : Picture → A → Type 0} {Wanted : Picture → B → Type 0} {fault : Fault}
    (r : Result B Fault) → IsErr r × IsErrAnd r (λ e. e ≡ fault) → Found Is g a b (Err fault) → Found Wanted g a b r
found-err r is asked = found-fault (found-nothing {Is = λ _ _. Unit {0}} (λ _ _. tt)) r is asked
