-- Calls that change nothing, whatever rows the tables have.
use Rattle.std.proofs.Common.{◌≡◌, ℕ, List, inl, inr, refl, sym, ◌∙◌, ap, subst}
use Rattle.std.specs.Prelude.{Result, Ok, Err, OnErr, IfOk}
use Rattle.std.specs.Result.{IsErr, IsErrAnd}
use Rattle.sqlite.specs.Effect.{Database}
use Rattle.store.specs.Library.{Ghosts, Held, State, state, HasCleanDisk, HasTables, IsAsItWas, IsClean, IsOpen, StaysReady}
use Rattle.store.specs.Reads.{Reads, IsUsed}
use Rattle.store.proofs.ReadLemmas.{ready_same, ready_then}
use Rattle.store.specs.Stops.{Leaves, KeepsPicture}
use Rattle.circ_tables.specs.Encoding.{HasPicture}
use Rattle.terms.specs.Pictures.{Picture}
use Rattle.terms.specs.declared.command.Owner.{Owner}
use Rattle.terms.specs.declared.fault.Fault.{Fault}
use Rattle.terms.specs.declared.refusal.Refusal.{Refusal}
use Rattle.terms.specs.declared.reply.Reply.{Reply}
use Rattle.terms.specs.declared.reply.Reply.TheVariants.{Refused}
use Rattle.model.specs.Picture.{picture}
use Rattle.desk.specs.Answering.{ChangesNothing, HandlesAny, Stays}
use Rattle.desk.proofs.Results.{on-ok, on-err, on-ok-any, on-err-any, if-ok-any}

-- ---- the database is as it was

pub as-it-was : (s : State) → IsAsItWas s s
as-it-was s = record { now = refl; left = λ trees may. inl may }

pub as-then : (a b c : State) → IsAsItWas a b → IsAsItWas b c → IsAsItWas a c
as-then a b c one two = record {
  now = two.now ∙ one.now;
  left = λ trees may. elim (two.left trees may) [ inl was ↦ one.left trees was | inr is ↦ inr (is ∙ ap (λ (db : Database). db.trees) one.now) ];
}

-- A stop leaves what was there.
pub as-left : (old new : State) → new.now ≡ old.now → Leaves new (λ db. db ≡ old.now) → IsAsItWas old new
as-left old new now leaves = record { now = now; left = λ trees may. let one = leaves trees may in inr (one.2 ∙ ap (λ (db : Database). db.trees) one.1) }

pub tables-as : (a b : State) → IsAsItWas a b → HasTables a.now → HasTables b.now
tables-as a b same tables = subst HasTables (sym same.now) tables

-- The tables of a picture are there.
pub tables-of : (s : State) (P : Picture) → HasPicture s.now P → HasTables s.now
tables-of s P shown = (shown.maps, shown.holds)

pub keeps-as : (a b : State) (P : Picture) → IsAsItWas a b → KeepsPicture a P → KeepsPicture b P
keeps-as a b P same keeps = record {
  now = subst (λ db. HasPicture db P) (sym same.now) keeps.now;
  left = λ trees may. elim (same.left trees may) [ inl was ↦ keeps.left trees was | inr is ↦ (a.now, keeps.now, is) ];
}

pub stays-as : (a b : State) → IsAsItWas a b → Stays a b
stays-as a b same H shows = record { legal = shows.legal; forms = shows.forms; tables = keeps-as a b (picture H) same shows.tables }

-- ---- calls that change nothing

-- A read of the store.
pub nothing-read : {A : Type 0} (a b : State) (r : Result A Fault) → Reads a b r → ChangesNothing a b r
nothing-read a b r reads = record {
  ready = reads.ready;
  answered = λ disk tables. on-ok r (λ same. record { now = same; left = λ trees may. inl (reads.left disk tables trees may) }) (reads.answered disk tables);
  failed = λ disk is_open tables. on-err-any r (record { now = reads.same disk is_open tables; left = λ trees may. inl (reads.left disk tables trees may) });
}

-- Nothing was asked.
pub nothing-asked : {T E : Type 0} (s : State) (r : Result T E) → ChangesNothing s s r
nothing-asked s r = record {
  ready = ready_same s;
  answered = λ disk tables. on-ok-any r (as-it-was s);
  failed = λ disk is_open tables. on-err-any r (as-it-was s);
}

-- One call after another that was answered.
pub nothing-then : {T U E F : Type 0} (a b c : State) (x : T) (r : Result U F) → (HasCleanDisk c → HasCleanDisk b)
    → ChangesNothing {T = T} {E = E} a b (Ok x) → ChangesNothing {T = U} {E = F} b c r
    → ChangesNothing {T = U} {E = F} a c r
nothing-then a b c x r clean first next = record {
  ready = ready_then a b c first.ready next.ready;
  answered = λ disk tables. let one = first.answered (clean disk) tables in on-ok r (as-then a b c one) (next.answered disk (tables-as a b one tables));
  failed = λ disk is_open tables. let one = first.answered (clean disk) tables in
      on-err r (as-then a b c one) (next.failed disk is_open (tables-as a b one tables));
}

-- Whatever is made of an answer.
pub nothing-as : {T U E F : Type 0} (a b : State) (x : T) (r : Result U F) → ChangesNothing {T = T} {E = E} a b (Ok x) → ChangesNothing {T = U} {E = F} a b r
nothing-as a b x r first = record {
  ready = first.ready;
  answered = λ disk tables. on-ok-any r (first.answered disk tables);
  failed = λ disk is_open tables. on-err-any r (first.answered disk tables);
}

-- A fault is an error of whatever was asked.
pub nothing-failed : {T U E F : Type 0} (a b : State) (e : E) (f : F) → ChangesNothing {T = T} {E = E} a b (Err e) → ChangesNothing {T = U} {E = F} a b (Err f)
nothing-failed a b e f first = record { ready = first.ready; answered = λ disk tables. tt; failed = first.failed }

pub nothing-fault : {T U : Type 0} (a b : State) (fault : Fault) (r : Result U Fault) → IsErr r × IsErrAnd r (λ e. e ≡ fault)
    → ChangesNothing {T = T} {E = Fault} a b (Err fault) → ChangesNothing a b r
nothing-fault a b fault (Ok x) is first = let never : ⊥ = cc (is.0) in absurd never
nothing-fault a b fault (Err e) is first = nothing-failed a b fault e first

-- One call after another that was answered, where the second changes nothing of tables that are as they were.
pub nothing-after : {T U E F : Type 0} (a b c : State) (x : T) (r : Result U F) → (HasCleanDisk c → HasCleanDisk b)
    → ChangesNothing {T = T} {E = E} a b (Ok x) → StaysReady b c
    → (IsAsItWas a b → ChangesNothing {T = U} {E = F} b c r) → ChangesNothing {T = U} {E = F} a c r
nothing-after a b c x r clean first ready next = record {
  ready = ready_then a b c first.ready ready;
  answered = λ disk tables. let one = first.answered (clean disk) tables in
      on-ok r (as-then a b c one) ((next one).answered disk (tables-as a b one tables));
  failed = λ disk is_open tables. let one = first.answered (clean disk) tables in
      on-err r (as-then a b c one) ((next one).failed disk is_open (tables-as a b one tables));
}

pub used-as : (owner : Owner) (key : List ℕ) (a b : State) → IsAsItWas a b → IsUsed owner key a.now → IsUsed owner key b.now
used-as owner key a b same used = subst (IsUsed owner key) (sym same.now) used

-- ---- requests, over any rows

module _ {S : Type 0} (g : Ghosts S) where
  -- A request that changed nothing.
  pub any-nothing : (a b : Held S) (r : Result Reply Fault) → ChangesNothing (state g a) (state g b) r → HandlesAny g a b r
  any-nothing a b r nothing = record {
    ready = nothing.ready;
    tables = λ disk tables. on-ok r (λ same. tables-as (state g a) (state g b) same tables) (nothing.answered disk tables);
    refused = λ disk tables. if-ok-any r (λ same reply refusal is. same) (nothing.answered disk tables);
    failed = nothing.failed;
  }

  -- A request after a call that changed nothing.
  pub any-after : {T E : Type 0} (a b c : Held S) (x : T) (r : Result Reply Fault) → (IsClean g c → IsClean g b)
      → ChangesNothing {T = T} {E = E} (state g a) (state g b) (Ok x) → HandlesAny g b c r
      → HandlesAny g a c r
  any-after a b c x r clean first next = record {
    ready = ready_then (state g a) (state g b) (state g c) first.ready next.ready;
    tables = λ disk tables. next.tables disk (tables-as (state g a) (state g b) (first.answered (clean disk) tables) tables);
    refused = λ disk tables.
        let one = first.answered (clean disk) tables in
        refused-then r (as-then (state g a) (state g b) (state g c) one) (next.refused disk (tables-as (state g a) (state g b) one tables));
    failed = λ disk is_open tables.
        let one = first.answered (clean disk) tables in
        on-err r (as-then (state g a) (state g b) (state g c) one) (next.failed disk is_open (tables-as (state g a) (state g b) one tables));
  }
    where
      refused-then : {P Q : Type 0} (q : Result Reply Fault) → (P → Q) → IfOk q (λ reply. (refusal : Refusal) → reply ≡ Refused refusal → P)
          → IfOk q (λ reply. (refusal : Refusal) → reply ≡ Refused refusal → Q)
      refused-then (Ok reply) f same = λ refusal is. f (same refusal is)
      refused-then (Err fault) f same = tt

  -- A fault of a call before it is the fault of the request.
  pub any-fault : {T : Type 0} (a b : Held S) (fault : Fault) (r : Result Reply Fault) → IsErr r × IsErrAnd r (λ e. e ≡ fault)
      → ChangesNothing {T = T} {E = Fault} (state g a) (state g b) (Err fault)
      → HandlesAny g a b r
  any-fault a b fault r is nothing = any-nothing a b r (nothing-fault (state g a) (state g b) fault r is nothing)

  -- A fault after which nothing is changed.
  pub any-failed : (a b : Held S) (fault : Fault) (r : Result Reply Fault) → IsErr r × IsErrAnd r (λ e. e ≡ fault)
      → StaysReady (state g a) (state g b) → (IsClean g b → IsOpen g b → IsAsItWas (state g a) (state g b)) → HandlesAny g a b r
  any-failed a b fault (Ok reply) is ready same = let never : ⊥ = cc (is.0) in absurd never
  any-failed a b fault (Err e) is ready same =
      record { ready = ready; tables = λ disk tables. tt; refused = λ disk tables. tt; failed = λ disk is_open tables. same disk is_open }

  -- After a fault a history is shown still.
  pub any-undone : (a b : Held S) (r : Result Reply Fault) → HandlesAny g a b r → IsClean g b → IsOpen g b → OnErr r (Stays (state g a) (state g b))
  any-undone a b (Ok reply) any disk is_open = tt
  any-undone a b (Err fault) any disk is_open =
      λ H shows. stays-as (state g a) (state g b) (any.failed disk is_open (tables-of (state g a) (picture H) shows.tables.now)) H shows
