-- What the batches hold, in terms of the typed tables.
use Rattle.std.proofs.Common.{arith, ◌≡◌, ◌<◌, ◌+◌, ℕ, pos, Bool, true, List, map, Option, Some, None, Result, inl, inr, ◌∙◌, ◌≤◌, refl, sym, subst, Less}
use Rattle.std.specs.Prelude.{unwrap_or}
use Rattle.std.specs.List.{All, Contains}
use Rattle.std.proofs.lemmas.Bool.{and_parts, and_from}
use Rattle.std.proofs.lemmas.List.{length-map}
use Rattle.std.proofs.lemmas.List.Elements.{All-contains}
use Rattle.sqlite.specs.Held.{Held}
use Rattle.sqlite.specs.Order.{Row, column}
use Rattle.sqlite.specs.Store.{Ghosts}
use Rattle.sqlite_value.specs.Order.{value_cmp}
use Rattle.circ_tables.specs.Reading.{Table, Lists, Views}
use Rattle.sqlite_rules.proofs.ListLemmas.{has_contained, contains_had}
use Rattle.sqlite_rules.proofs.ProbeLemmas.{has_mapped, mapped_has}
use Rattle.sql_maps.specs.Maps.{Map, Maps}
use Rattle.sql_maps.specs.Batches.{FirstRows}
use Rattle.terms.specs.Limits.{InLimits, IsPatron, IsCopy, IsLoan, IsHold, IsTransit, IsLine}
use Rattle.terms.specs.Pictures.{Picture}
use Rattle.terms.specs.declared.fault.Fault.{Fault}
use Rattle.terms.specs.declared.row.Condition.TheVariants.{Missing}
use Rattle.terms.specs.declared.row.LoanRow.{LoanRow}
use Rattle.terms.specs.declared.row.HoldRow.{HoldRow}
use Rattle.terms.specs.declared.row.HoldState.TheVariants.{Waiting, Ready}
use Rattle.terms.specs.declared.row.LineRow.{LineRow}
use Rattle.terms.specs.declared.row.CopyRow.{CopyRow}
use Rattle.terms.specs.declared.row.PatronRow.{PatronRow}
use Rattle.terms.specs.declared.row.TransitRow.{TransitRow}
use Rattle.circ_tables.specs.Cells.{number, number_key, patron_cells, copy_cells, loan_cells, hold_cells, transit_cells, line_cells}
use Rattle.circ_tables.specs.Encoding.{Encodes}
use Rattle.circ_tables.specs.Numbered.{IsNumberTable}
use Rattle.circ_tables.specs.Selections.{is_ready_after, is_overdue_after, is_line_after, is_account_line_after, is_copy_of_after}
use Rattle.circ_tables.specs.Selections.{is_waiting_after, is_waiting_for_after, is_debtor_after, is_transit_to_after, is_next}
use Rattle.circ_tables.specs.Selections.{is_missing_after, is_loan_of_after}
use Rattle.circ_tables.specs.Shape.{patrons_place, copies_place, loans_place, holds_place, transits_place, lines_place}
use Rattle.circ_tables.specs.Patrons.{patrons_are}
use Rattle.circ_tables.specs.Copies.{copies_are}
use Rattle.circ_tables.specs.Transits.{transits_are}
use Rattle.circ_tables.specs.Loans.{loans_are}
use Rattle.circ_tables.specs.Holds.{holds_are}
use Rattle.circ_tables.specs.Lines.{lines_are}
use Rattle.circ_tables.specs.declared.by_number.TheConstants.{BATCH_ROWS}
use Rattle.circ_tables.proofs.CellLemmas.{is_least, least_if, if_least, same_if, if_same, none_if, if_none, waits_if, if_waits}
use Rattle.circ_tables.proofs.CellLemmas.{ready_if, if_ready, missing_if, if_missing, below_if}
use Rattle.circ_tables.proofs.CellLemmas.{if_below, above_if, if_above, alone, from_alone, both, from_both}
use Rattle.circ_tables.proofs.InverseLemmas.{told}
use Rattle.circ_tables.proofs.DayLemmas.{below}
use Rattle.circ_tables.proofs.ShownLemmas.{one_found, stands, rows_rise}
use Rattle.store.specs.Batches.{AreFirstRows, AreRowsAfter, AreNumbered, IsPassedOver, AreReadyAfter, AreOverdueAfter, AreLinesAfter}
use Rattle.store.specs.Batches.{AreAccountLinesAfter, AreCopiesAfter, AreWaitingAfter, AreWaitingForAfter, AreDebtorsAfter, AreTransitsAfter}
use Rattle.store.specs.Batches.{AreMissingAfter, AreLoansOfAfter}
use Rattle.store.proofs.ViewLemmas.{rows_seen}
use Rattle.store.proofs.ListLemmas.{rise_is}

module _ {R : Type 0} {t : Table ℕ R} {number_of : R → ℕ} (table : IsNumberTable t number_of) where
  are_first : (maps : Maps) (P : Picture) → Encodes maps P → InLimits P → (good : Row → Bool) (Passes : R → Type 0)
      → ((r : R) → t.IsLegal r → good (t.cells r) ≡ true → Passes r) → ((r : R) → Passes r → good (t.cells r) ≡ true) → (rows : List R)
      → All t.IsLegal rows → FirstRows BATCH_ROWS (maps t.place) good (map t.cells rows)
      → AreFirstRows (t.rows P) number_of Passes rows
  are_first maps P is legal good Passes to from rows limits first = record {
    sound = λ r there.
        let row = first.sound (t.cells r) (mapped_has t.cells rows r (has_contained rows r there)) in
        (one_found table maps P is legal r (All-contains t.IsLegal rows r limits there) row.0 row.1, to r (All-contains t.IsLegal rows r limits there) row.2);
    whole = λ n r e passes. elim (first.whole (number_key n) (t.cells r) (stands table maps P is legal n r e) (from r passes)) [
      | inl has ↦
          let it = has_mapped t.cells rows (t.cells r) has in
          let there = contains_had rows it.0 it.1 in
          let same : r ≡ it.0 = told table r it.0 (table.legal P legal n r e).1 (All-contains t.IsLegal rows it.0 limits there) it.2 in
          inl (subst (Contains rows) (sym same) there)
      | inr rest ↦ inr (
        sym (length-map rows t.cells) ∙ rest.0,
        λ s there.
            let less = rest.1 (t.cells s) (mapped_has t.cells rows s (has_contained rows s there)) in
            let under = below (number_of s) (number_of r)
            (subst (λ v. value_cmp v (number (number_of r)) ≡ Less) (table.first_cell s)
            (subst (λ v. value_cmp (column (t.cells s) 0) v ≡ Less) (table.first_cell r) less)) in
            let mine = (table.legal P legal n r e).0 in
            omega (arith, under, mine),
      )
    ];
    rise = rise_is number_of rows (rows_rise table maps P is legal rows first.rises);
    few = let same = length-map rows t.cells in let few = first.few in omega (arith, same, few);
  }

module _ (maps : Maps) (P : Picture) (is : Encodes maps P) (legal : InLimits P) where
  pub ready_after_are : (branch after : ℕ) (rows : List HoldRow) → All IsHold rows
      → FirstRows BATCH_ROWS (maps holds_place) (is_ready_after branch after) (map hold_cells rows) → AreReadyAfter P branch after rows
  ready_after_are branch after =
      are_first holds_are maps P is legal (is_ready_after branch after) (λ r. (r.branch ≡ branch) × (r.state ≡ Ready) × (after < r.hold))
      (λ r legal good. let first = and_parts _ _ good in let tests = both _ _ first.1 in
      (same_if r.branch branch first.0, ready_if r.state tests.0, above_if r.hold after tests.1))
      (λ r passes. and_from _ _ (if_same r.branch branch passes.0) (from_both _ _ (if_ready r.state passes.1) (if_above r.hold after passes.2)))

  pub overdue_after_are : (branch day after : ℕ) (rows : List LoanRow) → All IsLoan rows
      → FirstRows BATCH_ROWS (maps loans_place) (is_overdue_after branch day after) (map loan_cells rows)
      → AreOverdueAfter P branch day after rows
  overdue_after_are branch day after =
      are_first loans_are maps P is legal (is_overdue_after branch day after)
      (λ r. (r.branch ≡ branch) × (r.ended ≡ None) × (r.due < day) × (after < r.loan))
      (λ r legal good.
      let first = and_parts _ _ good in
      let second = and_parts _ _ first.1 in
      let tests = both _ _ second.1 in
      (same_if r.branch branch first.0, none_if r.ended second.0, below_if r.due day tests.0, above_if r.loan after tests.1))
      (λ r passes. and_from _ _ (if_same r.branch branch passes.0)
      (and_from _ _ (if_none r.ended passes.1) (from_both _ _ (if_below r.due day passes.2) (if_above r.loan after passes.3))))

  pub lines_after_are : (day after : ℕ) (rows : List LineRow) → All IsLine rows
      → FirstRows BATCH_ROWS (maps lines_place) (is_line_after day after) (map line_cells rows) → AreLinesAfter P day after rows
  lines_after_are day after =
      are_first lines_are maps P is legal (is_line_after day after) (λ r. (r.day ≡ day) × (after < r.line))
      (λ r legal good. let tests = both _ _ good in (same_if r.day day tests.0, above_if r.line after tests.1))
      (λ r passes. from_both _ _ (if_same r.day day passes.0) (if_above r.line after passes.1))

  pub account_lines_after_are : (patron after : ℕ) (rows : List LineRow) → All IsLine rows
      → FirstRows BATCH_ROWS (maps lines_place) (is_account_line_after patron after) (map line_cells rows) → AreAccountLinesAfter P patron after rows
  account_lines_after_are patron after =
      are_first lines_are maps P is legal (is_account_line_after patron after) (λ r. (r.patron ≡ patron) × (after < r.line))
      (λ r legal good. let tests = both _ _ good in (same_if r.patron patron tests.0, above_if r.line after tests.1))
      (λ r passes. from_both _ _ (if_same r.patron patron passes.0) (if_above r.line after passes.1))

  pub copies_after_are : (title after : ℕ) (rows : List CopyRow) → All IsCopy rows
      → FirstRows BATCH_ROWS (maps copies_place) (is_copy_of_after title after) (map copy_cells rows) → AreCopiesAfter P title after rows
  copies_after_are title after =
      are_first copies_are maps P is legal (is_copy_of_after title after) (λ r. (r.title ≡ title) × (after < r.copy))
      (λ r legal good. let tests = both _ _ good in (same_if r.title title tests.0, above_if r.copy after tests.1))
      (λ r passes. from_both _ _ (if_same r.title title passes.0) (if_above r.copy after passes.1))

  pub missing_after_are : (after : ℕ) (rows : List CopyRow) → All IsCopy rows
      → FirstRows BATCH_ROWS (maps copies_place) (is_missing_after after) (map copy_cells rows) → AreMissingAfter P after rows
  missing_after_are after =
      are_first copies_are maps P is legal (is_missing_after after) (λ r. (r.condition ≡ Missing) × (after < r.copy))
      (λ r legal good. let tests = both _ _ good in (missing_if r.condition tests.0, above_if r.copy after tests.1))
      (λ r passes. from_both _ _ (if_missing r.condition passes.0) (if_above r.copy after passes.1))

  pub loans_of_after_are : (copy after : ℕ) (rows : List LoanRow) → All IsLoan rows
      → FirstRows BATCH_ROWS (maps loans_place) (is_loan_of_after copy after) (map loan_cells rows) → AreLoansOfAfter P copy after rows
  loans_of_after_are copy after =
      are_first loans_are maps P is legal (is_loan_of_after copy after) (λ r. (r.copy ≡ copy) × (after < r.loan))
      (λ r legal good. let tests = both _ _ good in (same_if r.copy copy tests.0, above_if r.loan after tests.1))
      (λ r passes. from_both _ _ (if_same r.copy copy passes.0) (if_above r.loan after passes.1))

  pub waiting_after_are : (after : ℕ) (rows : List HoldRow) → All IsHold rows
      → FirstRows BATCH_ROWS (maps holds_place) (is_waiting_after after) (map hold_cells rows) → AreWaitingAfter P after rows
  waiting_after_are after =
      are_first holds_are maps P is legal (is_waiting_after after) (λ r. (r.state ≡ Waiting) × (after < r.hold))
      (λ r legal good. let tests = both _ _ good in (waits_if r.state tests.0, above_if r.hold after tests.1))
      (λ r passes. from_both _ _ (if_waits r.state passes.0) (if_above r.hold after passes.1))

  pub waiting_for_after_are : (title after : ℕ) (rows : List HoldRow) → All IsHold rows
      → FirstRows BATCH_ROWS (maps holds_place) (is_waiting_for_after title after) (map hold_cells rows) → AreWaitingForAfter P title after rows
  waiting_for_after_are title after =
      are_first holds_are maps P is legal (is_waiting_for_after title after) (λ r. (r.title ≡ title) × (r.state ≡ Waiting) × (after < r.hold))
      (λ r legal good. let first = and_parts _ _ good in let tests = both _ _ first.1 in
      (same_if r.title title first.0, waits_if r.state tests.0, above_if r.hold after tests.1))
      (λ r passes. and_from _ _ (if_same r.title title passes.0) (from_both _ _ (if_waits r.state passes.1) (if_above r.hold after passes.2)))

  pub debtors_after_are : (after : ℕ) (rows : List PatronRow) → All IsPatron rows
      → FirstRows BATCH_ROWS (maps patrons_place) (is_debtor_after after) (map patron_cells rows) → AreDebtorsAfter P after rows
  debtors_after_are after =
      are_first patrons_are maps P is legal (is_debtor_after after) (λ r. (0 < r.owed) × (after < r.patron))
      (λ r legal good. let tests = both _ _ good in (above_if r.owed 0 tests.0, above_if r.patron after tests.1))
      (λ r passes. from_both _ _ (if_above r.owed 0 passes.0) (if_above r.patron after passes.1))

  pub transits_after_are : (branch after : ℕ) (rows : List TransitRow) → All IsTransit rows
      → FirstRows BATCH_ROWS (maps transits_place) (is_transit_to_after branch after) (map transit_cells rows) → AreTransitsAfter P branch after rows
  transits_after_are branch after =
      are_first transits_are maps P is legal (is_transit_to_after branch after) (λ r. (r.goal ≡ branch) × (after < r.copy))
      (λ r legal good. let tests = both _ _ good in (same_if r.goal branch tests.0, above_if r.copy after tests.1))
      (λ r passes. from_both _ _ (if_same r.goal branch passes.0) (if_above r.copy after passes.1))

-- a batch of all rows of a table, from 1 on
module _ {R : Type 0} {t : Table ℕ R} {number_of : R → ℕ} (table : IsNumberTable t number_of) where
  pub numbered : (P : Picture) → InLimits P → AreNumbered (t.rows P) number_of
  numbered P legal n r e =
      let it = table.legal P legal n r e in
      let one : 1 ≤ number_of r = table.from_one r it.1 in
      let same : number_of r ≡ n = it.0 in
      (same, omega (arith, one, same))

  pub above : (after : Option ℕ) (r : R) → t.IsLegal r → is_next after (t.cells r) ≡ true → unwrap_or after 0 < number_of r
  above None r legal good = let one : 1 ≤ number_of r = table.from_one r legal in omega (arith, one)
  above (Some n) r legal good = let least : n + 1 ≤ number_of r =
      least_if (number_of r) (n + 1) (subst (λ v. is_least v (pos (n + 1)) ≡ true) (table.first_cell r) (alone _ good)) in
      omega (arith, least)

  passes : (after : Option ℕ) (r : R) → unwrap_or after 0 < number_of r → is_next after (t.cells r) ≡ true
  passes None r more = refl
  passes (Some n) r more = from_alone _
      (subst (λ v. is_least v (pos (n + 1)) ≡ true) (sym (table.first_cell r)) (if_least (number_of r) (n + 1) (omega (arith, more))))

  -- a batch of them, where the maps encode the picture
  pub batch_are : (maps : Maps) (P : Picture) → Encodes maps P → InLimits P → (after : Option ℕ) (rows : List R) → All t.IsLegal rows
      → FirstRows BATCH_ROWS (maps t.place) (is_next after) (map t.cells rows)
      → AreNumbered (t.rows P) number_of × AreRowsAfter (t.rows P) number_of (unwrap_or after 0) rows
  batch_are maps P shown legal after rows limits first = (
    numbered P legal,
    are_first table maps P shown legal (is_next after) (λ r. unwrap_or after 0 < number_of r) (above after)
        (passes after) rows limits first,
  )

  pub batch_seen : (after : Option ℕ) → {S L : Type 0} {items : L → List R} {g : Ghosts S} {r : Result L Fault} {a b : Held S}
      → Lists t items (λ m. FirstRows BATCH_ROWS m (is_next after)) g a b r
      → Views (λ P l. AreNumbered (t.rows P) number_of × AreRowsAfter (t.rows P) number_of (unwrap_or after 0) (items l)) g a b r
  batch_seen after is =
      rows_seen (λ P rows. AreNumbered (t.rows P) number_of × AreRowsAfter (t.rows P) number_of (unwrap_or after 0) rows)
      (λ maps P shown legal. batch_are maps P shown legal after) is

-- rows that are read and of which nothing is said
pub passed_over : {S R L : Type 0} {K : Type 0} {t : Table K R} {items : L → List R} {Found : Map → List Row → Type 0} {g : Ghosts S}
    {r : Result L Fault} {a b : Held S} → Lists t items Found g a b r → Views IsPassedOver g a b r
passed_over is = rows_seen (λ P rows. Unit {0}) (λ maps P shown legal rows limits found. tt) is
