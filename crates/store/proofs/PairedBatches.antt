-- What the batches of one first number hold, in tables that are keyed by two columns.
use Rattle.std.proofs.Common.{arith, ◌≡◌, ◌<◌, ℕ, true, List, [], ◌∷◌, map, Some, inl, inr, refl, sym, ap, subst, ◌∙◌}
use Rattle.std.specs.Prelude.{option_map}
use Rattle.std.specs.List.{All, Contains}
use Rattle.std.proofs.lemmas.List.{length-map}
use Rattle.std.proofs.lemmas.List.Elements.{All-contains}
use Rattle.sqlite_rules.specs.Lists.{Has}
use Rattle.sqlite_rules.proofs.ListLemmas.{has_contained, contains_had, all_from, all_has}
use Rattle.sqlite_rules.proofs.ProbeLemmas.{has_mapped, mapped_has}
use Rattle.sqlite_trees.specs.Tree.{IsAscending}
use Rattle.sql_maps.specs.Maps.{Maps, PairBelow}
use Rattle.sql_maps.specs.Batches.{FirstRowsBy}
use Rattle.terms.specs.Limits.{InLimits, IsRule}
use Rattle.terms.specs.Orders.{Rise, IsPairBefore}
use Rattle.terms.specs.Pictures.{Picture}
use Rattle.terms.specs.declared.row.ClosedDayRow.{ClosedDayRow}
use Rattle.terms.specs.declared.row.RuleRow.{RuleRow}
use Rattle.circ_tables.specs.Cells.{rule_cells}
use Rattle.circ_tables.specs.ClosedDays.{closed_days}
use Rattle.circ_tables.specs.Encoding.{IsEncoded, Any, Encodes, Pair, day_cells, IsClosedDay}
use Rattle.circ_tables.specs.Reading.{Table}
use Rattle.circ_tables.specs.Rules.{rules}
use Rattle.circ_tables.specs.Selections.{is_second_after}
use Rattle.circ_tables.specs.Shape.{closed_days_place, rules_place}
use Rattle.circ_tables.specs.declared.by_number.TheConstants.{BATCH_ROWS}
use Rattle.circ_tables.proofs.CellLemmas.{same_if, if_same, above_if, if_above, both, from_both}
use Rattle.circ_tables.proofs.InverseLemmas.{rule_told}
use Rattle.store.specs.Batches.{AreRowsAfter, AreClosedDaysAfter}
use Rattle.store.proofs.ListLemmas.{found_at, pair_before, day_told, days_are_encoded, day_own}

module _ {R : Type 0} (t : Table Pair R) (first_of second_of : R → ℕ)
    (told : (a b : R) → t.IsLegal a → t.IsLegal b → t.cells a ≡ t.cells b → a ≡ b)
    (before : (a b : R) → t.IsLegal a → t.IsLegal b → PairBelow (t.cells a) (t.cells b) → IsPairBefore (first_of a, second_of a) (first_of b, second_of b))
    (passes : (first after : ℕ) (r : R) → is_second_after first after (t.cells r) ≡ true → (first_of r ≡ first) × (after < second_of r))
    (back : (first after : ℕ) (r : R) → first_of r ≡ first → after < second_of r → is_second_after first after (t.cells r) ≡ true)
    (encoded : (maps : Maps) (P : Picture) → Encodes maps P → IsEncoded Any t.key t.cells (maps t.place) (t.rows P))
    (own : (P : Picture) → InLimits P → (k : Pair) (r : R) → t.rows P k ≡ Some r → Any k × ((first_of r, second_of r) ≡ k) × t.IsLegal r) where
  -- of two rows of one first number, the one that comes before has the lower second number
  second_below : (first : ℕ) (a b : R) → t.IsLegal a → t.IsLegal b → first_of a ≡ first → first_of b ≡ first → PairBelow (t.cells a) (t.cells b)
      → second_of a < second_of b
  second_below first a b p q mine other less = elim (before a b p q less) [
    | inl lower ↦ (let lt : first_of a < first_of b = lower in absurd (omega (arith, lt, mine, other)))
    | inr tied ↦ tied.1
  ]

  seconds_rise : (first : ℕ) (rows : List R) → ((r : R) → Has rows r → t.IsLegal r × (first_of r ≡ first)) → IsAscending PairBelow (map t.cells rows)
      → Rise second_of rows
  seconds_rise first [] good up = tt
  seconds_rise first (r ∷ rows) good up = (
    all_from (λ s. second_of r < second_of s) rows (λ s there.
        let mine = good r (inl refl) in
        let other = good s (inr there) in
        second_below first r s mine.0 other.0 mine.1 other.1
        (all_has (PairBelow (t.cells r)) (map t.cells rows) (t.cells s) up.0 (mapped_has t.cells rows s there))),
    seconds_rise first rows (λ s there. good s (inr there)) up.1,
  )

  module _ (maps : Maps) (P : Picture) (is : Encodes maps P) (legal : InLimits P) (first after : ℕ) (rows : List R) (limits : All t.IsLegal rows)
      (firsts : FirstRowsBy PairBelow BATCH_ROWS (maps t.place) (is_second_after first after) (map t.cells rows)) where
    good : (r : R) → Has rows r → t.IsLegal r × (first_of r ≡ first)
    good r there =
        let row = firsts.sound (t.cells r) (mapped_has t.cells rows r there) in
        (All-contains t.IsLegal rows r limits (contains_had rows r there), (passes first after r row.2).0)

    sound : (r : R) → Contains rows r → (t.rows P (first, second_of r) ≡ Some r) × (after < second_of r)
    sound r there =
        let row = firsts.sound (t.cells r) (mapped_has t.cells rows r (has_contained rows r there)) in
        let key = (encoded maps P is).only row.0 (t.cells r) row.1 in
        let tests = passes first after r row.2 in
        let at = found_at t (λ s. (first_of s, second_of s)) (λ a b. IsPairBefore (first_of a, second_of a) (first_of b, second_of b)) Any told before
        encoded own P legal r (All-contains t.IsLegal rows r limits there) key.0 (t.rows P key.0) refl
        (sym (subst (λ i. maps t.place i ≡ Some (t.cells r)) key.2 row.1) ∙ (encoded maps P is).there key.0 key.1) in
        (subst (λ n. t.rows P (n, second_of r) ≡ Some r) tests.0 at, tests.1)

    pub seconds_are : AreRowsAfter (λ n. t.rows P (first, n)) second_of after rows
    seconds_are = record {
      sound = sound;
      whole = λ n r e more.
          let mine = own P legal (first, n) r e in
          let same_first : first_of r ≡ first = ap (λ (k : Pair). k.0) mine.1 in
          let same_second : second_of r ≡ n = ap (λ (k : Pair). k.1) mine.1 in
          elim (firsts.whole (t.key (first, n)) (t.cells r) ((encoded maps P is).there (first, n) mine.0 ∙ ap (option_map t.cells) e)
          (back first after r same_first more)) [
            | inl has ↦
                let it = has_mapped t.cells rows (t.cells r) has in
                let there = contains_had rows it.0 it.1 in
                let same : r ≡ it.0 = told r it.0 mine.2 (All-contains t.IsLegal rows it.0 limits there) it.2 in
                inl (subst (Contains rows) (sym same) there)
            | inr rest ↦ inr (
              sym (length-map rows t.cells) ∙ rest.0,
              λ s there.
                  let other = good s (has_contained rows s there) in
                  let less = second_below first s r other.0 mine.2 other.1 same_first
                  (rest.1 (t.cells s) (mapped_has t.cells rows s (has_contained rows s there))) in
                  omega (arith, less, same_second),
            )
          ];
      rise = seconds_rise first rows good firsts.rises;
      few = let same = length-map rows t.cells in let few = firsts.few in omega (arith, same, few);
    }

pub rules_after_are : (maps : Maps) (P : Picture) → Encodes maps P → InLimits P → (kind after : ℕ) (rows : List RuleRow) → All IsRule rows
    → FirstRowsBy PairBelow BATCH_ROWS (maps rules_place) (is_second_after kind after) (map rule_cells rows)
    → AreRowsAfter (P.rules kind) (λ r. r.copy_kind) after rows
rules_after_are =
    seconds_are rules (λ r. r.kind) (λ r. r.copy_kind) rule_told
    (λ a b p q less. pair_before a.kind a.copy_kind b.kind b.copy_kind less)
    (λ first after r good. let tests = both _ _ good in (same_if r.kind first tests.0, above_if r.copy_kind after tests.1))
    (λ first after r mine more. from_both _ _ (if_same r.kind first mine) (if_above r.copy_kind after more))
    (λ maps P is. is.rules) (λ P legal k r e. let mine = legal.rules k.0 k.1 r e in (tt, (λ i. (mine.0 i, mine.1 i)), mine.2))

pub closed_days_after_are : (maps : Maps) (P : Picture) → Encodes maps P → InLimits P → (branch after : ℕ) (rows : List ClosedDayRow)
    → All IsClosedDay rows
    → FirstRowsBy PairBelow BATCH_ROWS (maps closed_days_place) (is_second_after branch after) (map day_cells rows)
    → AreClosedDaysAfter P branch after rows
closed_days_after_are =
    seconds_are closed_days (λ r. r.branch) (λ r. r.day) (λ a b p q e. day_told a b e)
    (λ a b p q less. pair_before a.branch a.day b.branch b.day less)
    (λ first after r good. let tests = both _ _ good in (same_if r.branch first tests.0, above_if r.day after tests.1))
    (λ first after r mine more. from_both _ _ (if_same r.branch first mine) (if_above r.day after more))
    days_are_encoded (λ P legal k r e. day_own P legal k (P.closed_days k.0 k.1) refl r e)
