-- Due days and shelf limits of a legal history.
use Rattle.std.specs.Prelude.{◌≡◌, List, ℕ, ◌+◌, ◌==◌, Bool, true, false, [], ◌∷◌, length, Some, None, is_some, option_map, unwrap_or}
use Rattle.terms.specs.declared.command.Command.{Command}
use Rattle.terms.specs.declared.command.Command.TheVariants.{Week, CheckOut, CheckIn, Renew, Unshelve, UnshelveCancelled}
use Rattle.terms.specs.declared.command.Owner.{Owner}
use Rattle.terms.specs.declared.command.Request.{Request}
use Rattle.terms.specs.declared.row.HoldState.TheVariants.{Ready}
use Rattle.model.specs.Calendar.{IsLeast}
use Rattle.model.specs.History.{History, today, is_open, next_loan, branch_of}
use Rattle.model.specs.Places.{state, route, kept_for, is_kept_for, unshelved_to, goal_of, limit, limit_now}
use Rattle.model.specs.Loans.{LoanFacts, loan_of, due, first_due}
use Rattle.model.specs.Refusals.{refusal}
use Rattle.model.specs.Requests.{IsLegal, after}

-- A week command covers all seven weekdays.
abbrev pub IsWholeWeek : Command → Type 0
IsWholeWeek (Week branch closed) = length closed ≡ 7
IsWholeWeek _ = Unit {0}

-- Each week command of the history covers all seven weekdays, as every one that can be sent does.
abbrev pub HasWholeWeeks : History → Type 0
HasWholeWeeks [] = Unit {0}
HasWholeWeeks (e ∷ H) = IsWholeWeek e.command × HasWholeWeeks H

-- Each week command among the requests covers all seven weekdays.
abbrev pub AskWholeWeeks : List Request → Type 0
AskWholeWeeks [] = Unit {0}
AskWholeWeeks (r ∷ rs) = IsWholeWeek r.command × AskWholeWeeks rs

-- Requests with whole weeks keep the history's weeks whole.
abbrev pub WholeWeeksStay : Type 0
WholeWeeksStay = (H : History) (rs : List Request) → HasWholeWeeks H → AskWholeWeeks rs → HasWholeWeeks (after H rs)

-- A check-out sets the due day of the loan that it makes, a renewal that of its loan.
abbrev pub sets_due : History → Command → ℕ → Bool
sets_due H (CheckOut p c b) l = next_loan H == l
sets_due H (Renew n) l = n == l
sets_due H _ l = false

-- The end of the loan period that a command sets: counted from today at check-out, from the old due day at
-- renewal.
abbrev pub period_end : History → Command → ℕ → LoanFacts → ℕ
period_end H (Renew n) l r = due H l + r.terms.period
period_end H _ l r = today H + r.terms.period

-- The day was the lending branch's least open day from the end of the period, by the calendar when the due
-- day was last set.
abbrev pub IsDue : History → ℕ → LoanFacts → ℕ → Type 0
IsDue [] l r d = ⊥
IsDue (e ∷ H) l r d = elim (sets_due H e.command l) [ true ↦ IsLeast (is_open H r.branch) (period_end H e.command l r) d | false ↦ IsDue H l r d ]

-- Every loan's due day is the least open day from the end of its period, by the calendar when it was last
-- set.
abbrev pub DueDays : Type 0
DueDays = (H : History) (l : ℕ) (r : LoanFacts) → IsLegal H → HasWholeWeeks H → loan_of H l ≡ Some r → IsDue H l r (due H l)

-- Whether a command brings a copy to the hold shelf for h.
abbrev pub comes_to_shelf : History → Command → ℕ → Bool
comes_to_shelf H (CheckIn c b) h = is_kept_for (route H c b) h
comes_to_shelf H (Unshelve g) h = is_kept_for (unshelved_to H g (kept_for H g)) h
comes_to_shelf H (UnshelveCancelled g) h = is_kept_for (unshelved_to H g (kept_for H g)) h
comes_to_shelf H _ h = false

-- The day was the pick-up branch's least open day from the end of the pick-up period, by the calendar when a
-- copy last came to the hold shelf for h.
abbrev pub IsLimit : History → ℕ → ℕ → Type 0
IsLimit [] h d = ⊥
IsLimit (e ∷ H) h d = elim (comes_to_shelf H e.command h) [
  | true ↦ IsLeast (is_open H (goal_of H h)) (today H + unwrap_or (option_map (λ r. r.pickup) (branch_of H (goal_of H h))) 0) d
  | false ↦ IsLimit H h d
]

-- Every ready hold has a shelf limit: the least open day from the end of the pick-up period, by the calendar
-- when the hold became ready.
abbrev pub ShelfLimits : Type 0
ShelfLimits = (H : History) (h : ℕ) → IsLegal H → HasWholeWeeks H → state H h ≡ Some Ready → (d : ℕ) × (limit H h ≡ Some d) × IsLimit H h d

-- A check-out that isn't refused has a due day.
abbrev pub DueDaysExist : Type 0
DueDaysExist = (H : History) (o : Owner) (p c b : ℕ) → IsLegal H → HasWholeWeeks H → refusal H o (CheckOut p c b) ≡ None → is_some (first_due H p c b) ≡ true

-- A hold that becomes ready has a shelf limit.
abbrev pub LimitsExist : Type 0
LimitsExist = (H : History) (h : ℕ) → IsLegal H → HasWholeWeeks H → is_some (limit_now H h) ≡ true
