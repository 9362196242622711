-- Successive tables, each read to its end.
use Rattle.std.proofs.Common.{◌≡◌, ◌<◌, ◌-◌, List, [], length, Some, Ok, Err, Result, IfOk, IfErr, refl, sym, subst}
use Rattle.std.specs.Prelude.{slice_get}
use Rattle.std.specs.Result.{IsErr, IsErrAnd}
use Rattle.std.proofs.lemmas.List.Elements.{All-contains}
use Rattle.sqlite.specs.Held.{Held, state}
use Rattle.sqlite.specs.Order.{Row}
use Rattle.sqlite.specs.Store.{Ghosts}
use Rattle.sqlite_rules.proofs.ListLemmas.{contains_had}
use Rattle.sqlite_rules.proofs.ProbeLemmas.{has_mapped}
use Rattle.sqlite.specs.State.{HasCleanDisk}
use Rattle.sql_maps.specs.Maps.{Maps, Holds, ListedBy, PairBelow}
use Rattle.sql_maps.specs.Batches.{FirstRowsBy}
use Rattle.circ_tables.specs.Encoding.{AreEncoded}
use Rattle.circ_tables.specs.Reading.{Table, Views, Lists, GetsMeta}
use Rattle.circ_tables.specs.Cells.{owner_number, meta_cells}
use Rattle.circ_tables.specs.Kept.{kept}
use Rattle.circ_tables.specs.Selections.{is_any, is_after, is_kept_after}
use Rattle.circ_tables.specs.declared.by_number.TheConstants.{BATCH_ROWS}
use Rattle.circ_tables.specs.Shape.{schema, meta_place}
use Rattle.terms.specs.Limits.{IsMeta}
use Rattle.terms.specs.Orders.{IsOrdered}
use Rattle.terms.specs.Pictures.{Picture}
use Rattle.terms.specs.declared.fault.Fault.{Fault}
use Rattle.terms.specs.declared.fault.Fault.TheVariants.{Database, Stored}
use Rattle.terms.specs.declared.row.KeptRow.{KeptRow}
use Rattle.terms.specs.declared.row.MetaRow.{MetaRow}
use Rattle.store.specs.Legal.{HasLegal, HasLegalTables, Reviews, OverMaps, IsKeptBatch, AnswersLegal}
use Rattle.store.specs.Lists.{AreKeptByCaller}
use Rattle.store.specs.Batches.{IsPassedOver, with_callers}
use Rattle.store.proofs.CallerLemmas.{none_taken}
use Rattle.store.proofs.KeptOfAnyTables.{AreKeptMet, first_met, more_kept_met, kept_legal, kept_taken, batch_of_caller, batch_past_caller}
use Rattle.store.proofs.BatchLemmas.{passed_over}
use Rattle.store.proofs.ReadLemmas.{held_still, read_fails}
use Rattle.store.proofs.ViewLemmas.{fails, taken}
use Rattle.store.proofs.ViewLemmas as views

if_ok : {A : Type 0} (r : Result A Fault) {P Q : A → Type 0} → ((x : A) → P x → Q x) → IfOk r P → IfOk r Q
if_ok (Ok x) f h = f x h
if_ok (Err e) f h = tt

if_both : {A : Type 0} (r : Result A Fault) {P Q U : A → Type 0} → ((x : A) → P x → Q x → U x) → IfOk r P → IfOk r Q → IfOk r U
if_both (Ok x) f h i = f x h i
if_both (Err e) f h i = tt

infixr 10 ◌⨟◌
-- one table after another
pub ◌⨟◌ : {S A B : Type 0} {g : Ghosts S} {Is : Picture → A → Type 0} {Met : Maps → Type 0} {Then : Picture → B → Type 0}
    {More : Maps → Type 0} {x : A} {r : Result B Fault} {a b c : Held S}
    → Reviews Is Met g a b (Ok x) → Reviews Then More g b c r → Reviews (λ P y. Is P x × Then P y) (λ maps. Met maps × More maps) g a c r
◌⨟◌ {g = g} {r = r} {a = a} {b = b} one two = record {
  view = views.◌⨾◌ one.view two.view;
  met = λ clean.
      let before = two.view.read.clean clean in
      if_ok r (λ y got maps holds. (
        one.met before maps holds,
        got maps (held_still (state g a) (state g b) maps (one.view.read.same refl before maps holds) holds),
      )) (two.met clean);
}

-- what was seen and met is what is wanted
pub tells : {S A B : Type 0} {g : Ghosts S} {Is : Picture → A → Type 0} {Met : Maps → Type 0} {Wanted : Picture → B → Type 0}
    {Told : Maps → Type 0} {x : A} {y : B} {a b : Held S}
    → Reviews Is Met g a b (Ok x) → ((P : Picture) → Is P x → Wanted P y) → ((maps : Maps) → Met maps → Told maps) → Reviews Wanted Told g a b (Ok y)
tells seen f to = record { view = views.gives seen.view f; met = λ clean maps holds. to maps (seen.met clean maps holds) }

-- a fault that is handed on
pub faults : {S A B : Type 0} {g : Ghosts S} {Is : Picture → A → Type 0} {Wanted : Picture → B → Type 0} {Told : Maps → Type 0}
    (r : Result B Fault) (fault : Fault) {a b : Held S}
    → IsErr r × IsErrAnd r (λ e. e ≡ fault) → Views Is g a b (Err fault) → Reviews Wanted Told g a b r
faults (Ok x) fault is seen = absurd (let none = is.0 in cc)
faults (Err e) fault is seen = record { view = fails (Err e) fault is seen; met = λ clean. tt }

-- rows that were read, and are taken where they are in order
pub rows_taken : {S A R : Type 0} {g : Ghosts S} {Is : Picture → A → Type 0} {Met : Maps → Type 0} {Wanted : Picture → List R → Type 0}
    {Told : Maps → Type 0} {x : A} {a b : Held S}
    (Before : R → R → Type 0) (rows : List R) (r : Result (List R) Fault) → IfOk r (λ taken. (taken ≡ rows) × IsOrdered Before rows)
    → IfErr r (λ fault. (fault ≡ Stored) × ¬ IsOrdered Before rows)
    → Reviews Is Met g a b (Ok x) → ((P : Picture) → Is P x → Wanted P rows × IsOrdered Before rows)
    → ((maps : Maps) → Met maps → Told maps) → Reviews Wanted Told g a b r
rows_taken Before rows (Ok l) ok err seen are to =
    record { view = taken Before rows (Ok l) ok err seen.view are; met = λ clean maps holds. to maps (seen.met clean maps holds) }
rows_taken Before rows (Err fault) ok err seen are to = record { view = taken Before rows (Err fault) ok err seen.view are; met = λ clean. tt }

-- what was seen of it, and that an answer comes only where no row is damaged
pub viewed : {S A : Type 0} {g : Ghosts S} {Is : Picture → A → Type 0} {Met : Maps → Type 0} {r : Result A Fault} {a b : Held S}
    → Reviews Is Met g a b r → Views Is g a b r
viewed is = is.view

pub answers_legal : {S A : Type 0} {g : Ghosts S} {Is : Picture → A → Type 0} (r : Result A Fault) {a b : Held S}
    → Reviews Is HasLegalTables g a b r → AnswersLegal g a b r
answers_legal (Ok x) is = λ clean. is.met clean
answers_legal (Err e) is = λ clean. tt

-- nothing is said of what a fault ends
pub if_fails : {A : Type 0} (P : A → Type 0) (r : Result A Fault) (fault : Fault) → IsErr r × IsErrAnd r (λ e. e ≡ fault) → IfOk r P
if_fails P (Ok x) fault is = absurd (let none = is.0 in cc)
if_fails P (Err e) fault is = tt

-- ---- whole tables

-- all rows were listed, each within its limits
pub listed : {S K R L : Type 0} {t : Table K R} {items : L → List R} {Before : Row → Row → Type 0} {Is : Picture → L → Type 0}
    {g : Ghosts S} {r : Result L Fault} {a b : Held S}
    → Lists t items (λ m. ListedBy Before m is_any) g a b r → Views Is g a b r → Reviews Is (HasLegal t) g a b r
listed {t = t} {items = items} {r = r} is seen = record {
  view = seen;
  met = λ clean. if_both r (λ l got limits maps holds k v e.
      let it = has_mapped t.cells (items l) v ((got maps holds).0.whole k v e refl) in
      (it.0, All-contains t.IsLegal (items l) it.0 limits (contains_had (items l) it.0 it.1), it.2)) (is.lists clean) is.limits;
}

-- the one row of `meta`
pub lone_met : {S : Type 0} {g : Ghosts S} {r : Result MetaRow Fault} {a b : Held S} → GetsMeta g a b r
    → Reviews (λ P row. row ≡ P.meta) (λ maps. AreEncoded meta_cells IsMeta (maps meta_place)) g a b r
lone_met {r = r} is = record {
  view = is.view;
  met = λ clean. if_both r (λ row got limits maps holds k v e. (row, limits, got maps holds k v e)) (is.alone clean) is.limits;
}

-- ---- what is kept, batch by batch

-- the caller has more that is kept
pub more_of_caller : {S L : Type 0} {items : L → List KeptRow} {g : Ghosts S} {l : L} {a b : Held S} (last : KeptRow) → 0 < length (items l)
    → Lists kept items (λ m. FirstRowsBy PairBelow BATCH_ROWS m (is_kept_after (owner_number last.caller) last.key)) g a b (Ok l)
    → OverMaps (λ batch. IsKeptBatch last (items batch)) g a b (Ok l)
more_of_caller {items = items} {l = l} last some is =
    λ clean maps holds. batch_of_caller _ maps holds last (items l) is.limits (is.lists clean maps holds).0 some

-- the caller has no more
pub past_caller : {S L : Type 0} {items : L → List KeptRow} {g : Ghosts S} {l : L} {r : Result L Fault} {a b c : Held S} (last : KeptRow) → length (items l) ≡ 0
    → Lists kept items (λ m. FirstRowsBy PairBelow BATCH_ROWS m (is_kept_after (owner_number last.caller) last.key)) g a b (Ok l)
    → Lists kept items (λ m. FirstRowsBy PairBelow BATCH_ROWS m (is_after (owner_number last.caller))) g b c r
    → OverMaps (λ batch. IsKeptBatch last (items batch)) g a c r
past_caller {items = items} {g = g} {l = l} {r = r} {a = a} {b = b} last none one two = λ clean.
    let before = two.read.clean clean in
    if_both r (λ past got fine maps holds.
    batch_past_caller _ maps holds last (items l) one.limits (one.lists before maps holds).0 none (items past) fine
    (got maps (held_still (state g a) (state g b) maps (one.read.same refl before maps holds) holds)).0)
    (two.lists clean) two.limits

-- the first batch
pub begun : {S L : Type 0} {items : L → List KeptRow} {g : Ghosts S} {l : L} {a b : Held S} (rows : List KeptRow) → rows ≡ []
    → Lists kept items (λ m. FirstRowsBy PairBelow BATCH_ROWS m is_any) g a b (Ok l)
    → Reviews {A = Unit {0}} IsPassedOver (AreKeptMet (with_callers rows (items l)) (items l)) g a b (Ok tt)
begun {items = items} {l = l} rows none is =
    record {
      view = views.gives (passed_over is) (λ P all. tt);
      met = λ clean maps holds. subst (λ (taken : List KeptRow). AreKeptMet (with_callers taken (items l)) (items l) maps) (sym none)
          (first_met maps (items l) is.limits (is.lists clean maps holds).0);
    }

-- one batch more
pub gone_on : {S L : Type 0} (items : L → List KeptRow) {g : Ghosts S} {l : L} {a b c : Held S} (rows batch more : List KeptRow) (last : KeptRow)
    → slice_get batch (length batch - 1) ≡ Some last → more ≡ with_callers rows batch
    → Reviews {A = Unit {0}} IsPassedOver (AreKeptMet (with_callers rows batch) batch) g a b (Ok tt) → Views IsPassedOver g b c (Ok l)
    → OverMaps (λ next. IsKeptBatch last (items next)) g b c (Ok l)
    → Reviews {A = Unit {0}} IsPassedOver (AreKeptMet (with_callers more (items l)) (items l)) g a c (Ok tt)
gone_on items {g = g} {l = l} {a = a} {b = b} rows batch more last end is so_far seen next = record {
  view = views.gives (views.◌⨾◌ so_far.view seen) (λ P all. tt);
  met = λ clean maps holds.
      let before = seen.read.clean clean in
      subst (λ (taken : List KeptRow). AreKeptMet (with_callers taken (items l)) (items l) maps) (sym is)
      (more_kept_met maps (with_callers rows batch) batch (items l) last end (so_far.met before maps holds)
      (next clean maps (held_still (state g a) (state g b) maps (so_far.view.read.same refl before maps holds) holds)));
}

-- nothing is left
pub all_gone : {S : Type 0} {g : Ghosts S} {a b : Held S} (rows batch : List KeptRow) → length batch ≡ 0
    → Reviews {A = Unit {0}} IsPassedOver (AreKeptMet (with_callers rows batch) batch) g a b (Ok tt)
    → Reviews {A = Unit {0}} (λ P _. AreKeptByCaller P rows) (HasLegal kept) g a b (Ok tt)
all_gone {g = g} {a = a} {b = b} rows batch none so_far = record {
  view = record {
    read = so_far.view.read;
    shown = λ clean P shown legal. kept_taken shown.maps P shown.encodes legal rows batch none (taken clean shown.maps shown.holds);
  };
  met = λ clean maps holds. kept_legal maps rows batch none (taken clean maps holds);
}
  where
    taken : HasCleanDisk (state g b) → (maps : Maps) → Holds schema (state g a).now maps → AreKeptMet rows batch maps
    taken clean maps holds = subst (λ (taken : List KeptRow). AreKeptMet taken batch maps) (none_taken rows batch none) (so_far.met clean maps holds)

-- given up: the database is at fault
pub given_up : {S A B : Type 0} {g : Ghosts S} {Is : Picture → A → Type 0} {Met : Maps → Type 0} {Wanted : Picture → B → Type 0}
    {Told : Maps → Type 0} {x : A} {a b : Held S} → Reviews Is Met g a b (Ok x) → Reviews Wanted Told g a b (Err Database)
given_up {g = g} {a = a} {b = b} is = record {
  view = record { read = read_fails (state g a) (state g b) is.view.read (λ e. let never : ⊥ = cc in absurd never); shown = λ clean. tt };
  met = λ clean. tt;
}
