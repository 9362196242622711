-- Batches and rows of the lists of settings.
use Rattle.std.proofs.Common.{◌≡◌, ℕ, ◌<◌, Bool, true, false, cond, List, refl, sym, ◌∙◌, ap, subst}
use Rattle.std.specs.Prelude.{Option, Some, None, option_map}
use Rattle.store.specs.Batches.{AreRowsAfter, AreClosedDaysAfter}
use Rattle.circ_tables.specs.ClosedDays.{closed_days}
use Rattle.terms.specs.declared.row.BranchRow.{BranchRow}
use Rattle.terms.specs.declared.row.ClosedDayRow.{ClosedDayRow}
use Rattle.terms.specs.declared.row.KindRow.{KindRow}
use Rattle.terms.specs.declared.row.RuleRow.{RuleRow}
use Rattle.model.specs.Asking.{branches_list, closed_days_list, kinds_list, rules_list}
use Rattle.model.specs.AskingLaws.{has_number}
use Rattle.model.specs.History.{History, today, branch_of, kind_of, rule_of}
use Rattle.model.specs.Picture.{picture, branch_columns, kind_columns, rule_columns}
use Rattle.model.proofs.Asking.{lists-rise}
use Rattle.model.proofs.Settings.{branches-shown, closed-days-shown, kinds-shown, rules-shown}
use Rattle.desk.specs.Listing.{HasBatch}
use Rattle.desk.proofs.ListNumbers.{all-batch, batch-of}

-- A row that is made of what is there has its number.
numbered : {F R : Type 0} (columns : F → R) (number_of : R → ℕ) (k : ℕ) → ((f : F) → number_of (columns f) ≡ k) → (o : Option F) (r : R)
    → option_map columns o ≡ Some r → number_of r ≡ k
numbered columns number_of k is (Some f) r e = let same : columns f ≡ r = cc in sym (ap number_of same) ∙ is f
numbered columns number_of k is None r e = let never : ⊥ = cc in absurd never

-- Whether a day is closed, by its row.
closed-by : (b k : ℕ) (x : Bool) (r : ClosedDayRow) → ◌≡◌ {A = Option ClosedDayRow} (cond x (Some (record { branch = b; day = k })) None) (Some r)
    → (x ≡ true) × (r.day ≡ k)
closed-by b k true r e =
    let same : ◌≡◌ {A = ClosedDayRow} (record { branch = b; day = k }) r = cc in
    (refl, sym (ap (λ (x : ClosedDayRow). x.day) same))
closed-by b k false r e = let never : ⊥ = cc in absurd never

closed-of : (b k : ℕ) (x : Bool) → x ≡ true
    → ◌≡◌ {A = Option ClosedDayRow} (cond x (Some (record { branch = b; day = k })) None) (Some (record { branch = b; day = k }))
closed-of b k true e = refl
closed-of b k false e = let never : ⊥ = cc in absurd never

module _ (H : History) where
  pub branches-batch : (at : ℕ) (rows : List BranchRow) → AreRowsAfter (picture H).branches (λ r. r.branch) at rows
      → HasBatch (λ r. r.branch) (λ r. (picture H).branches r.branch ≡ Some r) (branches_list H) at rows
  branches-batch = all-batch (picture H).branches (λ r. r.branch) (branches_list H)
      (λ k r there. numbered (branch_columns H k) (λ x. x.branch) k (λ f. refl) (branch_of H k) r there)
      (λ k is. (branches-shown H k).0 is) ((lists-rise H).branches)

  pub kinds-batch : (at : ℕ) (rows : List KindRow) → AreRowsAfter (picture H).kinds (λ r. r.kind) at rows
      → HasBatch (λ r. r.kind) (λ r. (picture H).kinds r.kind ≡ Some r) (kinds_list H) at rows
  kinds-batch = all-batch (picture H).kinds (λ r. r.kind) (kinds_list H)
      (λ k r there. numbered (kind_columns H k) (λ x. x.kind) k (λ f. refl) (kind_of H k) r there)
      (λ k is. (kinds-shown H k).0 is) ((lists-rise H).kinds)

  pub rules-batch : (k at : ℕ) (rows : List RuleRow) → AreRowsAfter ((picture H).rules k) (λ r. r.copy_kind) at rows
      → HasBatch (λ r. r.copy_kind) (λ r. (picture H).rules k r.copy_kind ≡ Some r) (rules_list H k) at rows
  rules-batch k = all-batch ((picture H).rules k) (λ r. r.copy_kind) (rules_list H k)
      (λ c r there. numbered (rule_columns H k c) (λ x. x.copy_kind) c (λ f. refl) (rule_of H k c) r there)
      (λ c is. (rules-shown H k c).0 is) ((lists-rise H).rules k)

  -- a day's row, where it is closed
  closed-row : (b d : ℕ) → (picture H).closed_days b d ≡ true → closed_days.rows (picture H) (b, d) ≡ Some (record { branch = b; day = d })
  closed-row b d closed = closed-of b d ((picture H).closed_days b d) closed

  -- the days after today, from above a number on, where those were read that come after a later one
  pub closed-days-batch : (b day at from : ℕ) → day ≡ today H → ((d : ℕ) → from < d → (day < d) × (at < d)) → ((d : ℕ) → at < d → day < d → from < d)
      → (rows : List ClosedDayRow) → AreClosedDaysAfter (picture H) b from rows
      → HasBatch (λ r. r.day) (λ r. (closed_days.rows (picture H) (b, r.day) ≡ Some r) × (day < r.day)) (closed_days_list H b) at rows
  closed-days-batch b day at from now after_both from_both rows batch =
      batch-of (λ d. closed_days.rows (picture H) (b, d)) (λ r. r.day) (λ r. day < r.day) (closed_days_list H b)
      (λ d r there. (closed-by b d ((picture H).closed_days b d) r there).1)
      (λ d is. let shown = (closed-days-shown H b d).0 is in
      (record { branch = b; day = d }, closed-row b d shown.0, subst (λ (n : ℕ). n < d) (sym now) shown.1))
      ((lists-rise H).closed_days b) (λ r. from < r.day) at rows (λ r more. after_both r.day more)
      (λ r later less. from_both r.day less later) batch

  -- a closed day that was read is one of the list
  pub closed-day-listed : (b day : ℕ) (r : ClosedDayRow) → day ≡ today H → closed_days.rows (picture H) (b, r.day) ≡ Some r → day < r.day
      → has_number (closed_days_list H b).numbers r.day
  closed-day-listed b day r now there later =
      (closed-days-shown H b r.day).1
      ((closed-by b r.day ((picture H).closed_days b r.day) r there).0, subst (λ (n : ℕ). n < r.day) now later)
