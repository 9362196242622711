-- The numbers that a command gives, from what was looked at inside its transaction.
use Rattle.std.proofs.Common.{◌≡◌, ◌⊎◌, ◌≤◌, ◌<◌, ◌+◌, inl, inr, ℕ, true, false, List, Option, Some, None, Ok, Err, Result, IfOk, IfErr, OnOk}
use Rattle.std.proofs.Common.{refl, sym, ap, subst, ◌∙◌, arith, true≢false}
use Rattle.std.specs.Prelude.{is_some, unwrap_or}
use Rattle.std.specs.Result.{IsErr, IsErrAnd}
use Rattle.std.proofs.lemmas.Bool.{cases_lt}
use Rattle.sqlite.specs.Held.{state}
use Rattle.sqlite.specs.State.{HasCleanDisk}
use Rattle.sqlite.specs.Store.{Ghosts}
use Rattle.sqlite.specs.declared.transaction.Transaction.{Transaction}
use Rattle.sql_maps.specs.Maps.{Holds}
use Rattle.sql_maps.proofs.CallLemmas.{on_ok, same_keeps}
use Rattle.terms.specs.Limits.{IsMeta, IsOwner}
use Rattle.terms.specs.Pictures.{Picture}
use Rattle.terms.specs.declared.fault.Fault.{Fault}
use Rattle.terms.specs.declared.fault.Fault.TheVariants.{Database, Stored}
use Rattle.terms.specs.declared.limits.TheConstants.{SCHEMA}
use Rattle.terms.specs.declared.row.KeptRow.{KeptRow}
use Rattle.terms.specs.declared.row.MetaRow.{MetaRow}
use Rattle.circ_core.specs.Tables.{change, changed}
use Rattle.circ_core.specs.declared.changes.RowChange.{RowChange}
use Rattle.circ_core.specs.declared.changes.RowChange.TheVariants.{PutMeta}
use Rattle.circ_tables.specs.Encoding.{HasPicture}
use Rattle.circ_tables.specs.Puts.{ChangesRows}
use Rattle.circ_tables.specs.Reading.{Table, TellsRowInside, GetsMetaInside}
use Rattle.circ_tables.specs.Shape.{schema}
use Rattle.circ_tables.specs.TableSchemas.{has_first, has_fourth}
use Rattle.store.specs.Commit.{after_commit, command_made, MakesCommand, Takes, ShowsAfter}
use Rattle.store.specs.Numbers.{AreUnused, AreFree, LooksInside, IsDatabaseOrStored, put_after}
use Rattle.store.proofs.ChangeSteps.{then, keeps_then, same_survives}

if_ok : {A : Type 0} {P Q : A → Type 0} (r : Result A Fault) → ((a : A) → P a → Q a) → IfOk r P → IfOk r Q
if_ok (Ok a) f h = f a h
if_ok (Err e) f h = tt

-- ---- the row of `meta` that is left

pub meta_after : (x : RowChange) (before : Option MetaRow) (m : MetaRow) (P : Picture) → P.meta ≡ unwrap_or before m
    → (change x P).meta ≡ unwrap_or (put_after x before) m
meta_after (PutMeta row) before m P same = refl
meta_after _ before m P same = same

-- ---- what is looked at inside a transaction

none_there : {R : Type 0} (o : Option R) → false ≡ is_some o → o ≡ None
none_there None e = refl
none_there (Some r) e = absurd (true≢false (sym e))

module _ {S : Type 0} {g : Ghosts S} where
  -- nothing was looked at
  pub inside_none : {A : Type 0} {Is : Picture → A → Type 0} {Good : Picture → Type 0} (a : Transaction S) (x : A) → ((P : Picture) → Is P x)
      → LooksInside Is Good g a a (Ok x)
  inside_none a x is = record {
    works = record { same_reference = refl; kept = λ clean begun. same_keeps (state g a.conn.now); survives = same_survives (state g a.conn.now) };
    inside = λ clean begun. begun;
    same = λ clean maps holds. refl;
    shown = λ clean P p. is P;
    sound = λ clean told. absurd (let never = told in cc);
    fault = tt;
  }

  -- something was, and then something else
  pub inside_then : {A B : Type 0} {Is : Picture → A → Type 0} {Good : Picture → Type 0} {Then : Picture → B → Type 0} {Fine : Picture → Type 0}
      {x : A} {r : Result B Fault} {a b c : Transaction S} → LooksInside Is Good g a b (Ok x) → LooksInside Then Fine g b c r
      → LooksInside (λ P y. Is P x × Then P y) (λ P. Is P x → Fine P) g a c r
  inside_then {r = r} {a = a} {b = b} {c = c} one two = record {
    works = record {
      same_reference = two.works.same_reference ∙ one.works.same_reference;
      kept = λ clean begun. keeps_then _ _ _ (one.works.kept (early clean) begun) (two.works.kept clean (one.inside (early clean) begun));
      survives = then _ _ _ one.works.survives two.works.survives;
    };
    inside = λ clean begun. two.inside clean (one.inside (early clean) begun);
    same = λ clean. on_ok r (λ same maps holds.
        let first = one.same (early clean) maps holds in
        same maps (subst (λ d. Holds schema d maps) (sym first) holds) ∙ first) (two.same clean);
    shown = λ clean. if_ok r (λ y is P p. (one.shown (early clean) P p, is P (still clean P p))) (two.shown clean);
    sound = λ clean told P p good. two.sound clean told P (still clean P p) (good (one.shown (early clean) P p));
    fault = two.fault;
  }
    where
      early : HasCleanDisk (state g c.conn.now) → HasCleanDisk (state g b.conn.now)
      early clean = omega (arith, two.works.survives.clean)

      still : HasCleanDisk (state g c.conn.now) → (P : Picture) → HasPicture (state g a.conn.now).now P → HasPicture (state g b.conn.now).now P
      still clean P p = subst (λ d. HasPicture d P) (sym (one.same (early clean) p.maps p.holds)) p

  -- less is said, and more is asked
  pub inside_as : {A : Type 0} {Is Says : Picture → A → Type 0} {Good Fine : Picture → Type 0} {r : Result A Fault} {a b : Transaction S}
      → LooksInside Is Good g a b r → ((P : Picture) (x : A) → Is P x → Says P x) → ((P : Picture) → Fine P → Good P)
      → LooksInside Says Fine g a b r
  inside_as {r = r} seen f h = record {
    works = seen.works;
    inside = seen.inside;
    same = seen.same;
    shown = λ clean. if_ok r (λ x is P p. f P x (is P p)) (seen.shown clean);
    sound = λ clean told P p fine. seen.sound clean told P p (h P fine);
    fault = seen.fault;
  }

  -- a fault that is handed on
  pub inside_fails : {A B : Type 0} {Is : Picture → A → Type 0} {Good : Picture → Type 0} (Says : Picture → B → Type 0) (r : Result B Fault)
      (fault : Fault) {a b : Transaction S} → IsErr r × IsErrAnd r (λ e. e ≡ fault) → LooksInside Is Good g a b (Err fault) → LooksInside Says Good g a b r
  inside_fails Says (Ok x) fault is seen = absurd (let none = is.0 in cc)
  inside_fails Says (Err e) fault is seen = record {
    works = seen.works;
    inside = λ clean begun. tt;
    same = λ clean. tt;
    shown = λ clean. tt;
    sound = λ clean told. let same : e ≡ Stored = cc in seen.sound clean (ap Err (sym is.1 ∙ same));
    fault = subst IsDatabaseOrStored (sym is.1) seen.fault;
  }

  -- ---- whether a number has a row

  pub number_free : {R : Type 0} {t : Table ℕ R} {k : ℕ} {a b : Transaction S} (Good : Picture → Type 0) → TellsRowInside t k g a b (Ok false)
      → LooksInside (λ P (_ : Unit {0}). t.rows P k ≡ None) Good g a b (Ok tt)
  number_free {t = t} {k = k} Good seen = record {
    works = seen.works;
    inside = seen.inside;
    same = λ clean maps holds. (seen.tells clean maps holds).1.0.now_is;
    shown = λ clean P p. none_there (t.rows P k) (seen.shows clean P p).0;
    sound = λ clean told. absurd (let never = told in cc);
    fault = tt;
  }

  pub number_taken : {A R : Type 0} {t : Table ℕ R} {k : ℕ} {a b : Transaction S} (Says : Picture → A → Type 0) → TellsRowInside t k g a b (Ok true)
      → LooksInside Says (λ P. t.rows P k ≡ None) g a b (Err Stored)
  number_taken Says seen = record {
    works = seen.works;
    inside = λ clean begun. tt;
    same = λ clean. tt;
    shown = λ clean. tt;
    sound = λ clean told P p none. true≢false ((seen.shows clean P p).0 ∙ ap is_some none);
    fault = inr refl;
  }

  pub number_unread : {A R : Type 0} {t : Table ℕ R} {k : ℕ} {a b : Transaction S} (Says : Picture → A → Type 0) (Good : Picture → Type 0)
      (r : Result A Fault) (fault : Fault) → IsErr r × IsErrAnd r (λ e. e ≡ fault) → TellsRowInside t k g a b (Err fault)
      → LooksInside Says Good g a b r
  number_unread Says Good (Ok x) fault is seen = absurd (let none = is.0 in cc)
  number_unread Says Good (Err e) fault is seen = record {
    works = seen.works;
    inside = λ clean begun. tt;
    same = λ clean. tt;
    shown = λ clean. tt;
    sound = λ clean told. let same : e ≡ Stored = cc in let other : e ≡ Database = is.1 ∙ seen.fault in absurd (let never = sym same ∙ other in cc);
    fault = inl (is.1 ∙ seen.fault);
  }

  -- ---- the row of `meta`

  pub meta_seen : {row : MetaRow} {a b : Transaction S} → GetsMetaInside g a b (Ok row) → LooksInside (λ P row. row ≡ P.meta) (λ P. IsMeta P.meta) g a b (Ok row)
  meta_seen seen = record {
    works = seen.works;
    inside = seen.inside;
    same = λ clean maps holds. (seen.gets SCHEMA has_first clean maps holds).1.0.now_is;
    shown = λ clean P p. (seen.shows SCHEMA has_first clean P p).0;
    sound = λ clean told. absurd (let never = told in cc);
    fault = tt;
  }

  pub meta_unseen : {fault : Fault} {a b : Transaction S} (told : Fault) → IsDatabaseOrStored told → (told ≡ Stored → fault ≡ Stored)
      → GetsMetaInside g a b (Err fault) → LooksInside (λ P row. row ≡ P.meta) (λ P. IsMeta P.meta) g a b (Err told)
  meta_unseen told is stored seen = record {
    works = seen.works;
    inside = λ clean begun. tt;
    same = λ clean. tt;
    shown = λ clean. tt;
    sound = λ clean err P p legal. let same : told ≡ Stored = cc in seen.sound SCHEMA has_first clean P p legal (ap Err (stored same));
    fault = is;
  }

-- ---- numbers without a row

pub none_unused : {R : Type 0} (t : ℕ → Option R) (first last : ℕ) → last ≤ first → AreUnused t first last
none_unused t first last past n low high = absurd (omega (arith, past, low, high))

pub more_unused : {R : Type 0} (t : ℕ → Option R) (first last : ℕ) → AreUnused t first last → t last ≡ None → AreUnused t first (last + 1)
more_unused t first last before at n low high = go (cases_lt n last)
  where
    go : (n < last) ⊎ (last ≤ n) → t n ≡ None
    go (inl less) = before n low less
    go (inr not_less) = let same : n ≡ last = omega (arith, high, not_less) in ap t same ∙ at

pub fewer_unused : {R : Type 0} (t : ℕ → Option R) (first last more : ℕ) → last ≤ more → AreUnused t first more → AreUnused t first last
fewer_unused t first last more up unused n low high = unused n low (omega (arith, up, high))

-- the three tables, from the row of `meta` that was read
pub free_from : (P : Picture) (row after : MetaRow) → row ≡ P.meta → AreUnused P.loans row.next_loan after.next_loan
    → AreUnused P.holds row.next_hold after.next_hold → AreUnused P.lines row.next_line after.next_line → AreFree P after
free_from P row after same loans holds lines = record {
  loans = subst (λ (m : MetaRow). AreUnused P.loans m.next_loan after.next_loan) same loans;
  holds = subst (λ (m : MetaRow). AreUnused P.holds m.next_hold after.next_hold) same holds;
  lines = subst (λ (m : MetaRow). AreUnused P.lines m.next_line after.next_line) same lines;
}

pub loans_free : (P : Picture) (row after : MetaRow) → row ≡ P.meta → AreFree P after → AreUnused P.loans row.next_loan after.next_loan
loans_free P row after same free = subst (λ (m : MetaRow). AreUnused P.loans m.next_loan after.next_loan) (sym same) free.loans

pub holds_free : (P : Picture) (row after : MetaRow) → row ≡ P.meta → AreFree P after → AreUnused P.holds row.next_hold after.next_hold
holds_free P row after same free = subst (λ (m : MetaRow). AreUnused P.holds m.next_hold after.next_hold) (sym same) free.holds

pub lines_free : (P : Picture) (row after : MetaRow) → row ≡ P.meta → AreFree P after → AreUnused P.lines row.next_line after.next_line
lines_free P row after same free = subst (λ (m : MetaRow). AreUnused P.lines m.next_line after.next_line) (sym same) free.lines

-- what `meta` names already gives no number
pub none_given : (P : Picture) (after : MetaRow) → after ≡ P.meta → AreFree P after
none_given P after same = record {
  loans = none_unused P.loans P.meta.next_loan after.next_loan (let e = ap (λ (m : MetaRow). m.next_loan) same in omega (arith, e));
  holds = none_unused P.holds P.meta.next_hold after.next_hold (let e = ap (λ (m : MetaRow). m.next_hold) same in omega (arith, e));
  lines = none_unused P.lines P.meta.next_line after.next_line (let e = ap (λ (m : MetaRow). m.next_line) same in omega (arith, e));
}

-- ---- the command, if they are free

both_made : {A : Type 0} (P Q R : Type 0) (r : Result A Fault) → OnOk r P → (Q → OnOk r R) → OnOk r (P × (Q → R))
both_made P Q R (Ok x) one two = (one, two)
both_made P Q R (Err e) one two = tt

always : {A P : Type 0} (r : Result A Fault) → P → OnOk r P
always (Ok x) p = p
always (Err e) p = tt

only_database : {A : Type 0} (r : Result A Fault) → IfErr r (λ e. e ≡ Database) → IfErr r IsDatabaseOrStored
only_database (Ok x) is = tt
only_database (Err e) is = inl is

never_stored : {A : Type 0} (r : Result A Fault) → IfErr r (λ e. e ≡ Database) → r ≡ Err Stored → ⊥
never_stored (Ok x) is told = cc
never_stored (Err e) is told = let same : e ≡ Stored = cc in let never : Stored ≡ Database = sym same ∙ is in cc

module _ {S : Type 0} (g : Ghosts S) (changes : List RowChange) (kept : KeptRow) where
  abbrev Given : Picture → Type 0
  Given P = AreFree P (changed changes P).meta

  pub made_if_free : {A : Type 0} {a b c : Transaction S} {x : Unit {0}} (r : Result A Fault)
      → LooksInside (λ P _. Given P) (λ P. IsMeta P.meta × Given P) g a b (Ok x)
      → ChangesRows SCHEMA (after_commit changes kept) (IsOwner kept.caller) (command_made changes kept) g b c r
      → MakesCommand changes kept g a c r
  made_if_free {a = a} {b = b} {c = c} r one two = record {
    works = record {
      same_reference = two.works.same_reference ∙ one.works.same_reference;
      kept = λ clean begun. keeps_then _ _ _ (one.works.kept (early clean) begun) (two.works.kept clean);
      survives = then _ _ _ one.works.survives two.works.survives;
    };
    inside = λ clean begun. on_ok r (λ each. (each SCHEMA has_fourth).is_inside) (two.steps clean (one.inside (early clean) begun));
    made = λ clean begun.
        let inside = one.inside (early clean) begun in
        both_made (Takes (after_commit changes kept) (state g a.conn.now).now (state g c.conn.now).now) (IsOwner kept.caller)
        (ShowsAfter (command_made changes kept) (state g a.conn.now).now (state g c.conn.now).now) r
        (on_ok r (λ each maps holds. (each SCHEMA has_fourth).maps maps
        (subst (λ d. Holds schema d maps) (sym (one.same (early clean) maps holds)) holds)) (two.steps clean inside))
        (λ owner. on_ok r (λ each P p. (each SCHEMA has_fourth).picture P
        (subst (λ d. HasPicture d P) (sym (one.same (early clean) p.maps p.holds)) p)) (two.draws clean inside owner));
    gives = record {
      free = λ clean. always r (one.shown (early clean));
      sound = λ clean told. absurd (never_stored r two.fault told);
    };
    fault = only_database r two.fault;
  }
    where
      early : HasCleanDisk (state g c.conn.now) → HasCleanDisk (state g b.conn.now)
      early clean = omega (arith, two.works.survives.clean)

  pub made_unless_free : {A B : Type 0} {a b : Transaction S} (r : Result B Fault) (fault : Fault) → IsErr r × IsErrAnd r (λ e. e ≡ fault)
      → LooksInside {A = A} (λ P _. Given P) (λ P. IsMeta P.meta × Given P) g a b (Err fault) → MakesCommand changes kept g a b r
  made_unless_free (Ok x) fault is seen = absurd (let none = is.0 in cc)
  made_unless_free (Err e) fault is seen = record {
    works = seen.works;
    inside = λ clean begun. tt;
    made = λ clean begun. tt;
    gives = record {
      free = λ clean. tt;
      sound = λ clean told P p legal free. let same : e ≡ Stored = cc in seen.sound clean (ap Err (sym is.1 ∙ same)) P p (legal, free);
    };
    fault = subst IsDatabaseOrStored (sym is.1) seen.fault;
  }
