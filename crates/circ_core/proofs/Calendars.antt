-- A view's calendar is the history's.
use Rattle.calendar.specs.declared.limits.TheConstants.{FIRST_DAY, LAST_DAY}
use Rattle.std.proofs.Common.{◌≡◌, ℕ, suc, ◌+◌, ◌≤◌, ◌<◌, Bool, true, false, not, List, [], ◌∷◌, length, refl, sym, ◌∙◌, ap, arith}
use Rattle.std.specs.Prelude.{Option, Some, None, is_none, unwrap_or, nat_le, ◌&&◌, slice_index_or}
use Rattle.std.specs.List.{list_any}
use Rattle.calendar.specs.Openings.{Closings, weekday, open_days_after}
use Rattle.calendar.specs.Openings as openings
use Rattle.model.specs.Calendar.{is_single, opens, least, late}
use Rattle.model.specs.History.{History, week_of, singles_of, is_open, BranchFacts, branch_of}
use Rattle.model.specs.Invariant.{Invariant}
use Rattle.model.specs.Refusals.{has_branch}
use Rattle.model.specs.Picture.{picture, branch_columns}
use Rattle.model.proofs.CalendarsMeet.{calendars_agree}
use Rattle.model.proofs.OpenDays.{open-exists}
use Rattle.circ_core.specs.DueDay.{due_from}
use Rattle.circ_core.specs.Views.{AreBranchClosings, IsCalendarOf}
use Rattle.circ_core.proofs.DueDays.{one_test as calendar_test}
use Rattle.circ_core.proofs.Rows.{none-map, option_map-is}

-- The calendar is missing exactly where the branch is.
pub calendar_there : (H : History) (b : ℕ) (o : Option Closings) → IsCalendarOf (picture H) b o → is_none o ≡ not (has_branch H b)
calendar_there H b (Some closings) w = ap is_none (sym w.there) ∙ none-map (branch_columns H b) (branch_of H b)
calendar_there H b None w = ap is_none (sym w) ∙ none-map (branch_columns H b) (branch_of H b)

open_weekday : (xs : List Bool) → list_any (λ x. not x) xs ≡ true → (w : ℕ) × (w < length xs) × (slice_index_or xs w false ≡ false)
open_weekday [] e = let never : ⊥ = cc in absurd never
open_weekday (true ∷ xs) e = let r : (w : ℕ) × (w < length xs) × (slice_index_or xs w false ≡ false) = open_weekday xs e in (suc r.0, omega (arith, r.1), r.2)
open_weekday (false ∷ xs) e = (0, omega arith, refl)

module _ (H : History) (b : ℕ) (closings : Closings) (w : AreBranchClosings (picture H) b closings) where
  weekly_same : closings.weekly ≡ week_of H b
  weekly_same =
      let f : (f : BranchFacts) × (branch_of H b ≡ Some f) × (branch_columns H b f ≡ w.row) =
      option_map-is (branch_columns H b) (branch_of H b) w.row w.there in
      w.weekly ∙ ap (λ r. r.week) (sym f.2)

  open_same : (d : ℕ) → opens closings.weekly closings.single d ≡ is_open H b d
  open_same d =
      ap (λ week. elim (nat_le FIRST_DAY d && (nat_le d LAST_DAY && not (slice_index_or week (weekday d) false))) as (λ _. Bool)
      [ true ↦ not (is_single closings.single d) | false ↦ false ]) weekly_same
      ∙ ap (λ x. elim (nat_le FIRST_DAY d && (nat_le d LAST_DAY && not (slice_index_or (week_of H b) (weekday d) false))) as (λ _. Bool)
      [ true ↦ not x | false ↦ false ]) (w.single d)

  -- the two tests are one function
  one_test : opens closings.weekly closings.single ≡ is_open H b
  one_test = λ i. λ d. open_same d i

  -- The least open day of the calendar is that of the history.
  pub least_is : (from : ℕ) → least (openings.is_open closings) from ≡ least (is_open H b) from
  least_is from = ap (λ (test : ℕ → Bool). least test from) (sym (calendar_test closings) ∙ one_test)

  -- As many days are late.
  pub late_same : (due now : ℕ) → open_days_after closings due now ≡ late (is_open H b) due now
  late_same due now = sym (calendars_agree.late_days closings due now) ∙ ap (λ (test : ℕ → Bool). late test due now) one_test

  -- From a day that leaves room enough the calendar has an open day.
  pub opens_again : Invariant H → (from : ℕ) → FIRST_DAY ≤ from → from + 2806 ≤ LAST_DAY → is_none (least (is_open H b) from) ≡ false
  opens_again inv from low high =
      let seven : length closings.weekly ≡ 7 = w.weekdays.seven in
      let day : (k : ℕ) × (k < length closings.weekly) × (slice_index_or closings.weekly k false ≡ false) = open_weekday closings.weekly w.weekdays.some_open in
      let at : slice_index_or (week_of H b) day.0 false ≡ false = ap (λ week. slice_index_or week day.0 false) (sym weekly_same) ∙ day.2 in
      let found : (e : ℕ) × (least (is_open H b) from ≡ Some e) =
      open-exists (week_of H b) (singles_of H b) day.0 from (omega (arith, day.1, seven)) at (inv.few_singles b) low high in
      ap is_none found.1

-- The due day on the rows is the least open day of the history.
pub due_from-is : (H : History) (b : ℕ) (o : Option Closings) → IsCalendarOf (picture H) b o → not (has_branch H b) ≡ false → (from : ℕ)
    → due_from o from ≡ least (is_open H b) from
unfolding due_from
due_from-is H b (Some closings) w has from = least_is H b closings w from
due_from-is H b None w has from = let no_branch : not (has_branch H b) ≡ true = sym (calendar_there H b None w) in let never : ⊥ = cc in absurd never

-- From a day that leaves room enough there is one.
pub due_from-there : (H : History) → Invariant H → (b : ℕ) (o : Option Closings) → IsCalendarOf (picture H) b o → not (has_branch H b) ≡ false
    → (from : ℕ) → FIRST_DAY ≤ from → from + 2806 ≤ LAST_DAY → is_none (due_from o from) ≡ false
unfolding due_from
due_from-there H inv b (Some closings) w has from low high = ap is_none (least_is H b closings w from) ∙ opens_again H b closings w inv from low high
due_from-there H inv b None w has from low high =
    let no_branch : not (has_branch H b) ≡ true = sym (calendar_there H b None w) in let never : ⊥ = cc in absurd never

-- A day that is there, whatever would stand for it.
pub same_day : (o : Option ℕ) (x y : ℕ) → is_none o ≡ false → unwrap_or o x ≡ unwrap_or o y
same_day (Some d) x y e = refl
same_day None x y e = let never : ⊥ = cc in absurd never
