-- What the first batch of a table tells of its first row.
use Rattle.std.proofs.Common.{arith, ◌≡◌, ◌<◌, ◌≤◌, ℕ, true, List, [], ◌∷◌, length, map, Option, Some, None, Ok, Err, Result, inl, inr, refl, sym, ◌∙◌, ap, subst}
use Rattle.std.specs.Prelude.{◌⊎◌, ◌↔◌, IsSome, is_some, option_map, slice_get}
use Rattle.std.specs.List.{All}
use Rattle.std.specs.Result.{IsErr, IsErrAnd}
use Rattle.sqlite.specs.Held.{Held, state}
use Rattle.sqlite.specs.Order.{Row}
use Rattle.sqlite.specs.State.{HasCleanDisk}
use Rattle.sqlite.specs.Store.{Ghosts}
use Rattle.sqlite_rules.specs.Lists.{Has}
use Rattle.sqlite_rules.proofs.ListLemmas.{has_contained, contains_had, all_has}
use Rattle.sql_maps.specs.Maps.{Map, Maps, Holds, PairBelow}
use Rattle.sql_maps.specs.Batches.{FirstRows, FirstRowsBy}
use Rattle.circ_tables.specs.Cells.{pair_key, rule1_cells}
use Rattle.circ_tables.specs.Encoding.{Any, Encodes, Pair}
use Rattle.circ_tables.specs.Numbered.{IsNumberTable}
use Rattle.circ_tables.specs.Reading.{Table, Views, Lists}
use Rattle.circ_tables.specs.RulesOfSchema1.{rules1}
use Rattle.circ_tables.specs.Selections.{is_any, is_next}
use Rattle.circ_tables.specs.Shape.{schema, rules1_place, loans1_place, holds1_place}
use Rattle.circ_tables.specs.declared.by_number.TheConstants.{BATCH_ROWS}
use Rattle.terms.specs.Limits.{InLimits, IsRule1}
use Rattle.terms.specs.Orders.{IsPairBefore}
use Rattle.terms.specs.Pictures.{Picture}
use Rattle.terms.specs.declared.fault.Fault.{Fault}
use Rattle.terms.specs.declared.row.RuleRow1.{RuleRow1}
use Rattle.store.specs.Batches.{AreNumbered, AreRowsAfter}
use Rattle.store.specs.Older.{IsLeastNumber, IsLeastPair, IsFirstOldRow, IsEmpty, TellsOldRows, FindsFirst, FindsOldRow}
use Rattle.store.specs.declared.older.OldRow.{OldRow}
use Rattle.store.specs.declared.older.OldRow.TheVariants.{Rule, Loan, Hold}
use Rattle.store.proofs.BatchLemmas.{batch_seen}
use Rattle.store.proofs.ListLemmas.{pair_before}
use Rattle.store.proofs.ReadLemmas.{held_still}
use Rattle.store.proofs.ReviewLemmas.{if_fails}
use Rattle.store.proofs.ViewLemmas.{◌⨾◌, gives, fails, rows_seen}

-- ---- the first batch of a map

module _ (Before : Row → Row → Type 0) (m : Map) where
  -- If it is empty, so is the map.
  empty_of : FirstRowsBy Before BATCH_ROWS m is_any [] → IsEmpty m
  empty_of first k = go (m k) refl
    where
      go : (o : Option Row) → m k ≡ o → m k ≡ None
      go None e = e
      go (Some v) e = elim (first.whole k v e refl) [
        | inl has ↦ absurd has
        | inr rest ↦ (let full : 0 ≡ BATCH_ROWS = rest.0 in absurd (omega (arith, full)))
      ]

  -- Else its first row is one of the map, and comes before each other one.
  stands_of : (v : Row) (more : List Row) → FirstRowsBy Before BATCH_ROWS m is_any (v ∷ more) → IsEmpty m → ⊥
  stands_of v more first empty = let at = first.sound v (inl refl) in let none : Some v ≡ None = sym at.1 ∙ empty at.0 in cc

  begins : (v : Row) (more : List Row) → FirstRowsBy Before BATCH_ROWS m is_any (v ∷ more) → (k w : Row) → m k ≡ Some w → (w ≡ v) ⊎ Before v w
  begins v more first k w e = at (first.whole k w e refl)
    where
      at : Has (v ∷ more) w ⊎ ((length (v ∷ more) ≡ BATCH_ROWS) × ((u : Row) → Has (v ∷ more) u → Before u w)) → (w ≡ v) ⊎ Before v w
      at (inl (inl same)) = inl same
      at (inl (inr later)) = inr (all_has (Before v) more w first.rises.0 later)
      at (inr rest) = inr (rest.1 v (inl refl))

-- Whether there is a row, by the first of the batch.
tells_of : {R : Type 0} (Before : Row → Row → Type 0) (m : Map) (cells : R → Row) (number_of : R → ℕ) (rows : List R)
    → FirstRowsBy Before BATCH_ROWS m is_any (map cells rows) → (option_map number_of (slice_get rows 0) ≡ None) ↔ IsEmpty m
tells_of Before m cells number_of [] first = (λ e. empty_of Before m first, λ empty. refl)
tells_of Before m cells number_of (r ∷ rows) first = (
  λ e. let none : Some (number_of r) ≡ None = e in absurd (cc),
  λ empty. absurd (stands_of Before m (cells r) (map cells rows) first empty),
)

-- ---- the least number

there_is : {R : Type 0} (o : Option R) (r : R) → o ≡ Some r → IsSome o
there_is o r e = ap is_some e

least_of : {R : Type 0} (t : ℕ → Option R) (number_of : R → ℕ) (rows : List R) → AreNumbered t number_of → AreRowsAfter t number_of 0 rows
    → IsLeastNumber t (option_map number_of (slice_get rows 0))
least_of t number_of [] numbered are = none
  where
    none : (n : ℕ) → t n ≡ None
    none n = go (t n) refl
      where
        go : (o : Option _) → t n ≡ o → t n ≡ None
        go None e = e
        go (Some r) e =
            let own = numbered n r e in
            let one : 1 ≤ n = own.1 in
            let same : number_of r ≡ n = own.0 in
            elim (are.whole n r e (omega (arith, one, same))) [
              | inl there ↦ absurd (has_contained [] r there)
              | inr rest ↦ (let full : 0 ≡ BATCH_ROWS = rest.0 in absurd (omega (arith, full)))
            ]
least_of t number_of (r ∷ rows) numbered are = (there_is (t (number_of r)) r (are.sound r (contains_had (r ∷ rows) r (inl refl))).0, below)
  where
    below : (m : ℕ) → m < number_of r → t m ≡ None
    below m less = go (t m) refl
      where
        go : (o : Option _) → t m ≡ o → t m ≡ None
        go None e = e
        go (Some s) e =
            let own = numbered m s e in
            let one : 1 ≤ m = own.1 in
            let same : number_of s ≡ m = own.0 in
            elim (are.whole m s e (omega (arith, one, same))) [
              | inl there ↦ absurd (at (has_contained (r ∷ rows) s there) same)
              | inr rest ↦ (let more : number_of r < m = rest.1 r (contains_had (r ∷ rows) r (inl refl)) in absurd (omega (arith, less, more)))
            ]
          where
            at : Has (r ∷ rows) s → number_of s ≡ m → ⊥
            at (inl is) same = let mine : number_of s ≡ number_of r = ap number_of is in omega (arith, less, same, mine)
            at (inr later) same =
                let more : number_of r < number_of s = all_has (λ z. number_of r < number_of z) rows s are.rise.0 later in
                omega (arith, less, same, more)

pub number_found : {R : Type 0} {t : Table ℕ R} {number_of : R → ℕ} (table : IsNumberTable t number_of) {S L : Type 0} {items : L → List R}
    {g : Ghosts S} {l : L} {a b : Held S} → Lists t items (λ m. FirstRows BATCH_ROWS m (is_next None)) g a b (Ok l)
    → FindsFirst (λ P. IsLeastNumber (t.rows P)) t.place g a b (Ok (option_map number_of (slice_get (items l) 0)))
number_found {t = t} {number_of = number_of} table {items = items} {l = l} is = record {
  view = gives (batch_seen table None is) (λ P all. least_of (t.rows P) number_of (items l) all.0 all.1);
  tells = λ clean maps holds. tells_of _ (maps t.place) t.cells number_of (items l) (is.lists clean maps holds).0;
}

-- ---- the least pair

none_under : {R : Type 0} (cells : R → Row) (o : Option R) → option_map cells o ≡ None → o ≡ None
none_under cells None e = refl
none_under cells (Some r) e = let none : Some (cells r) ≡ None = e in absurd (cc)

some_under : {R : Type 0} (cells : R → Row) (o : Option R) (v : Row) → option_map cells o ≡ Some v → (r : R) × (o ≡ Some r) × (cells r ≡ v)
some_under cells None v e = let none : None ≡ Some v = e in absurd (cc)
some_under cells (Some r) v e = (r, refl, (let same : Some (cells r) ≡ Some v = e in cc))

never_both : (j b k c : ℕ) → IsPairBefore (j, b) (k, c) → IsPairBefore (k, c) (j, b) → ⊥
never_both j b k c (inl less) (inl more) = omega (arith, less, more)
never_both j b k c (inl less) (inr tied) = let same : k ≡ j = tied.0 in omega (arith, less, same)
never_both j b k c (inr tied) (inl more) = let same : j ≡ k = tied.0 in omega (arith, more, same)
never_both j b k c (inr tied) (inr other) = let less : b < c = tied.1 in let more : c < b = other.1 in omega (arith, less, more)

never_itself : (j b k c : ℕ) → j ≡ k → b ≡ c → IsPairBefore (j, b) (k, c) → ⊥
never_itself j b k c p q (inl less) = omega (arith, p, less)
never_itself j b k c p q (inr tied) = let less : b < c = tied.1 in omega (arith, q, less)

same_kinds : (s r : RuleRow1) → rule1_cells s ≡ rule1_cells r → (s.kind ≡ r.kind) × (s.copy_kind ≡ r.copy_kind)
same_kinds s r e = ((let same : s.kind ≡ r.kind = cc in same), (let same : s.copy_kind ≡ r.copy_kind = cc in same))

module _ (maps : Maps) (P : Picture) (is : Encodes maps P) (legal : InLimits P) where
  -- The encoded row of a pair.
  under : (k c : ℕ) → maps rules1_place (pair_key k c) ≡ option_map rule1_cells (P.rules1 k c)
  under k c = is.rules1.there (k, c) tt

  pair_of : (rows : List RuleRow1) → All IsRule1 rows → FirstRowsBy PairBelow BATCH_ROWS (maps rules1_place) is_any (map rule1_cells rows)
      → IsLeastPair P.rules1 (option_map (λ r. r.copy_kind) (slice_get rows 0))
  pair_of [] limits first =
      λ k c. none_under rule1_cells (P.rules1 k c) (sym (under k c) ∙ empty_of PairBelow (maps rules1_place) first (pair_key k c))
  pair_of (r ∷ rows) limits first = (r.kind, there_is (P.rules1 r.kind r.copy_kind) here.0 there, below)
    where
      at : (k : Row) × (maps rules1_place k ≡ Some (rule1_cells r)) × (is_any (rule1_cells r) ≡ true)
      at = first.sound (rule1_cells r) (inl refl)

      key : (k : Pair) × Any k × (at.0 ≡ pair_key k.0 k.1)
      key = is.rules1.only at.0 (rule1_cells r) at.1

      here : (s : RuleRow1) × (P.rules1 key.0.0 key.0.1 ≡ Some s) × (rule1_cells s ≡ rule1_cells r)
      here = some_under rule1_cells (P.rules1 key.0.0 key.0.1) (rule1_cells r)
          (sym (under key.0.0 key.0.1) ∙ sym (ap (maps rules1_place) key.2) ∙ at.1)

      there : P.rules1 r.kind r.copy_kind ≡ Some here.0
      there =
          let own = legal.rules1 key.0.0 key.0.1 here.0 here.1 in
          let same = same_kinds here.0 r here.2 in
          let first_is : r.kind ≡ key.0.0 = sym same.0 ∙ own.0 in
          let second_is : r.copy_kind ≡ key.0.1 = sym same.1 ∙ own.1 in
          (λ i. P.rules1 (first_is i) (second_is i)) ∙ here.1

      below : (j b : ℕ) → IsPairBefore (j, b) (r.kind, r.copy_kind) → P.rules1 j b ≡ None
      below j b less = go (P.rules1 j b) refl
        where
          go : (o : Option RuleRow1) → P.rules1 j b ≡ o → P.rules1 j b ≡ None
          go None e = e
          go (Some s) e = absurd (never (begins PairBelow (maps rules1_place) (rule1_cells r) (map rule1_cells rows) first (pair_key j b)
              (rule1_cells s) (under j b ∙ ap (option_map rule1_cells) e)))
            where
              never : (rule1_cells s ≡ rule1_cells r) ⊎ PairBelow (rule1_cells r) (rule1_cells s) → ⊥
              never (inl same) =
                  let own = legal.rules1 j b s e in
                  let both = same_kinds s r same in
                  never_itself j b r.kind r.copy_kind (sym own.0 ∙ both.0) (sym own.1 ∙ both.1) less
              never (inr more) =
                  let own = legal.rules1 j b s e in
                  never_both j b r.kind r.copy_kind less
                  (subst (λ (p : Pair). IsPairBefore (r.kind, r.copy_kind) p) (λ i. (own.0 i, own.1 i))
                  (pair_before r.kind r.copy_kind s.kind s.copy_kind more))

pub rule_found : {S L : Type 0} {items : L → List RuleRow1} {g : Ghosts S} {l : L} {a b : Held S}
    → Lists rules1 items (λ m. FirstRowsBy PairBelow BATCH_ROWS m is_any) g a b (Ok l)
    → FindsFirst (λ P. IsLeastPair P.rules1) rules1_place g a b (Ok (option_map (λ r. r.copy_kind) (slice_get (items l) 0)))
rule_found {items = items} {l = l} is = record {
  view = gives (rows_seen (λ P rows. IsLeastPair P.rules1 (option_map (λ r. r.copy_kind) (slice_get rows 0))) pair_of is) (λ P least. least);
  tells = λ clean maps holds. tells_of PairBelow (maps rules1_place) rule1_cells (λ r. r.copy_kind) (items l) (is.lists clean maps holds).0;
}

-- ---- a fault, and one table after another

-- A fault that is handed on.
pub first_fails : {S A B : Type 0} {g : Ghosts S} {Is : Picture → B → Type 0} {Wanted : Picture → Option A → Type 0} {place : ℕ}
    (r : Result (Option A) Fault) (fault : Fault) {a b : Held S} → IsErr r × IsErrAnd r (λ e. e ≡ fault) → Views Is g a b (Err fault)
    → FindsFirst Wanted place g a b r
first_fails r fault is seen = record { view = fails r fault is seen; tells = λ clean. if_fails _ r fault is }

pub old_fails : {S B : Type 0} {g : Ghosts S} {Is : Picture → B → Type 0} (r : Result (Option OldRow) Fault) (fault : Fault) {a b : Held S}
    → IsErr r × IsErrAnd r (λ e. e ≡ fault) → Views Is g a b (Err fault) → FindsOldRow g a b r
old_fails r fault is seen = record { view = fails r fault is seen; tells = λ clean. if_fails _ r fault is }

-- What was seen, and whether there is a row.
pub old_view : {S : Type 0} {g : Ghosts S} {r : Result (Option OldRow) Fault} {a b : Held S} → FindsOldRow g a b r → Views IsFirstOldRow g a b r
old_view is = is.view

pub old_tells : {S : Type 0} {g : Ghosts S} {r : Result (Option OldRow) Fault} {a b : Held S} → FindsOldRow g a b r → TellsOldRows g a b r
old_tells is = is.tells

-- The tables are as they were before a read that ended well.
maps_still : {S A : Type 0} {g : Ghosts S} {Is : Picture → A → Type 0} {x : A} {a b : Held S} → Views Is g a b (Ok x)
    → HasCleanDisk (state g b) → (maps : Maps) → Holds schema (state g a).now maps → Holds schema (state g b).now maps
maps_still {g = g} {a = a} {b = b} one clean maps holds = held_still (state g a) (state g b) maps (one.read.same refl clean maps holds) holds

-- What was found is one thing, or nothing.
pub at_is : {S A : Type 0} {Is : Picture → Option A → Type 0} {place : ℕ} {g : Ghosts S} {o p : Option A} {a b : Held S}
    → FindsFirst Is place g a b (Ok o) → o ≡ p → FindsFirst Is place g a b (Ok p)
at_is {Is = Is} {place = place} {g = g} {a = a} {b = b} found is = subst (λ (o : Option _). FindsFirst Is place g a b (Ok o)) is found

pub at_none : {S A : Type 0} {Is : Picture → Option A → Type 0} {place : ℕ} {g : Ghosts S} (o : Option A) {a b : Held S}
    → FindsFirst Is place g a b (Ok o) → ((x : A) → o ≡ Some x → ⊥) → FindsFirst Is place g a b (Ok None)
at_none None found none = found
at_none (Some x) found none = absurd (none x refl)

-- Something was found.
not_none : {A : Type 0} (x : A) {T : Type 0} → Some x ≡ None → T
not_none x e = let none : Some x ≡ None = e in absurd (cc)

module _ {S : Type 0} {g : Ghosts S} {a b : Held S} where
  pub rule_first : (kind : ℕ) → FindsFirst (λ P. IsLeastPair P.rules1) rules1_place g a b (Ok (Some kind)) → FindsOldRow g a b (Ok (Some (Rule kind)))
  rule_first kind one = record {
    view = gives one.view (λ P least. least);
    tells = λ clean maps holds. (λ e. not_none (Rule kind) e, λ empty. not_none kind ((one.tells clean maps holds).1 empty.rules));
  }

  pub loan_first : {c : Held S} (loan : ℕ) → FindsFirst (λ P. IsLeastPair P.rules1) rules1_place g a b (Ok None)
      → FindsFirst (λ P. IsLeastNumber P.loans1) loans1_place g b c (Ok (Some loan)) → FindsOldRow g a c (Ok (Some (Loan loan)))
  loan_first loan one two = record {
    view = gives (one.view ⨾ two.view) (λ P all. (all.0, all.1));
    tells = λ clean maps holds. (
      λ e. not_none (Loan loan) e,
      λ empty. not_none loan ((two.tells clean maps (maps_still one.view (two.view.read.clean clean) maps holds)).1 empty.loans),
    );
  }

  module _ {c d : Held S} (one : FindsFirst (λ P. IsLeastPair P.rules1) rules1_place g a b (Ok None))
      (two : FindsFirst (λ P. IsLeastNumber P.loans1) loans1_place g b c (Ok None)) where
    pub hold_first : (hold : ℕ) → FindsFirst (λ P. IsLeastNumber P.holds1) holds1_place g c d (Ok (Some hold)) → FindsOldRow g a d (Ok (Some (Hold hold)))
    hold_first hold three = record {
      view = gives (one.view ⨾ two.view ⨾ three.view) (λ P all. (all.0, all.1.0, all.1.1));
      tells = λ clean maps holds.
          let third = three.view.read.clean clean in
          let second = two.view.read.clean third in (
            λ e. not_none (Hold hold) e,
            λ empty. not_none hold
                ((three.tells clean maps (maps_still two.view third maps (maps_still one.view second maps holds))).1 empty.holds),
          );
    }

    pub none_first : FindsFirst (λ P. IsLeastNumber P.holds1) holds1_place g c d (Ok None) → FindsOldRow g a d (Ok None)
    none_first three = record {
      view = gives (one.view ⨾ two.view ⨾ three.view) (λ P all. (all.0, all.1.0, all.1.1));
      tells = λ clean maps holds.
          let third = three.view.read.clean clean in
          let second = two.view.read.clean third in
          let held = maps_still one.view second maps holds in (
            λ e. record {
              rules = (one.tells second maps holds).0 refl;
              loans = (two.tells third maps held).0 refl;
              holds = (three.tells clean maps (maps_still two.view third maps held)).0 refl;
            },
            λ empty. refl,
          );
    }
