-- What holds of every legal history.
use Rattle.calendar.specs.declared.limits.TheConstants.{MOST_CLOSED_DAYS, FIRST_DAY}
use Rattle.terms.specs.declared.limits.TheConstants.{LAST_TODAY, LAST_NUMBER, LONGEST_PICKUP, LONGEST_PERIOD, HIGHEST_CAP, HIGHEST_PRICE}
use Rattle.std.specs.Prelude.{◌≡◌, ℕ, ◌*◌, ◌≤◌, ◌<◌, ◌==◌, true, false, [], length, replicate, Option, Some, None}
use Rattle.std.specs.List.{list_any, IsDistinct}
use Rattle.terms.specs.declared.row.HoldState.{HoldState}
use Rattle.model.specs.History.{History, today, week_of, singles_of, BranchFacts, branch_of, Terms, rule_of, patron_of, HoldFacts, hold_of}
use Rattle.model.specs.History.{holds, CopyFacts, copy_of, copies, loans}
use Rattle.model.specs.Places.{Place, Nowhere, Shelf, HoldShelf, Transit, Loan, place, state, goal_of, home_of, title_of_hold, title_of_copy}
use Rattle.model.specs.Loans.{LoanFacts, loan_of, ended, renewals}
use Rattle.model.specs.Accounts.{lines, account, charges, credits, owed}
use Rattle.terms.specs.declared.row.HoldState.TheVariants.{Waiting, Ready}
use Rattle.model.specs.Requests.{IsLegal}

-- A copy in this place stands on the hold shelf for h or travels for it.
abbrev pub Serves : Place → ℕ → Type 0
Serves (HoldShelf g) h = g ≡ h
Serves (Transit b (Some g)) h = g ≡ h
Serves _ h = ⊥

-- A hold served by a copy in this place is ready, or it waits and the copy goes to its branch.
abbrev pub Fits : (ℕ → ℕ) → Place → ℕ → Option HoldState → Type 0
Fits goal (HoldShelf g) h s = s ≡ Some Ready
Fits goal (Transit b (Some g)) h s = (s ≡ Some Waiting) × (goal h ≡ b)
Fits goal _ h s = Unit {0}

-- The bindings of copies and holds: at most one copy serves a hold, in a state that fits; each ready hold has
-- its copy.
pub record Bound (goal : ℕ → ℕ) (places : ℕ → Place) (states : ℕ → Option HoldState) : Type 0 where
  pub once : (c d h : ℕ) → Serves (places c) h → Serves (places d) h → c ≡ d
  pub fits : (c h : ℕ) → Serves (places c) h → Fits goal (places c) h (states h)
  pub kept : (h : ℕ) → states h ≡ Some Ready → (c : ℕ) × (places c ≡ HoldShelf h)

-- The invariant of every legal history.
pub record Invariant (H : History) : Type 0 where
  -- Today lies in the calendar, and not at its very end.
  pub today_from : FIRST_DAY ≤ today H
  pub today_to : today H ≤ LAST_TODAY
  -- A branch that doesn't exist has no closed days; no branch has a single day twice, or too many.
  pub unset : (b : ℕ) → branch_of H b ≡ None → (week_of H b ≡ replicate 7 false) × (singles_of H b ≡ [])
  pub singles_once : (b : ℕ) → IsDistinct ◌==◌ (singles_of H b)
  pub few_singles : (b : ℕ) → length (singles_of H b) ≤ MOST_CLOSED_DAYS
  -- Periods, caps and prices are within their limits.
  pub pickups : (b : ℕ) (r : BranchFacts) → branch_of H b ≡ Some r → r.pickup ≤ LONGEST_PICKUP
  pub terms : (k c : ℕ) (t : Terms) → rule_of H k c ≡ Some t → (t.period ≤ LONGEST_PERIOD) × (t.cap ≤ HIGHEST_CAP)
  pub loan_caps : (l : ℕ) (r : LoanFacts) → loan_of H l ≡ Some r → r.terms.cap ≤ HIGHEST_CAP
  pub prices : (c : ℕ) (r : CopyFacts) → copy_of H c ≡ Some r → r.price ≤ HIGHEST_PRICE
  -- Borrowers are enrolled; a patron who isn't has no lines.
  pub borrowers : (l : ℕ) (r : LoanFacts) → loan_of H l ≡ Some r → patron_of H r.patron ≡ None → ⊥
  pub strangers : (p : ℕ) → patron_of H p ≡ None → account H p ≡ []
  -- Credits never exceed charges, and a debt is at most the highest price for each line.
  pub covered : (p : ℕ) → credits (account H p) ≤ charges (account H p)
  pub debts : (p : ℕ) → owed H p ≤ HIGHEST_PRICE * length (lines H)
  -- A copy on loan belongs to an open loan, and an open loan's copy is on that loan.
  pub on_loan : (c l : ℕ) → place H c ≡ Loan l → (r : LoanFacts) × (loan_of H l ≡ Some r) × (r.copy ≡ c) × (ended H l ≡ None)
  pub open_loan : (l : ℕ) (r : LoanFacts) → loan_of H l ≡ Some r → ended H l ≡ None → place H r.copy ≡ Loan l
  -- Numbers are given in order, up to the last number.
  pub made_loan : (l : ℕ) (r : LoanFacts) → loan_of H l ≡ Some r → (1 ≤ l) × (l ≤ loans H)
  pub loan_numbered : (l : ℕ) → 1 ≤ l → l ≤ loans H → (r : LoanFacts) × (loan_of H l ≡ Some r)
  pub fresh_loan : (l : ℕ) → loans H < l → (renewals H l ≡ 0) × (ended H l ≡ None)
  pub made_hold : (h : ℕ) (r : HoldFacts) → hold_of H h ≡ Some r → (1 ≤ h) × (h ≤ holds H)
  pub hold_numbered : (h : ℕ) → 1 ≤ h → h ≤ holds H → (r : HoldFacts) × (hold_of H h ≡ Some r)
  pub loans_left : loans H ≤ LAST_NUMBER
  pub holds_left : holds H ≤ LAST_NUMBER
  pub lines_left : length (lines H) ≤ LAST_NUMBER
  -- A hold has a state exactly if it was placed.
  pub placed : (h : ℕ) (s : HoldState) → state H h ≡ Some s → (r : HoldFacts) × (hold_of H h ≡ Some r)
  pub stated : (h : ℕ) (r : HoldFacts) → hold_of H h ≡ Some r → (s : HoldState) × (state H h ≡ Some s)
  -- A copy has a place exactly if it was acquired.
  pub acquired : (c : ℕ) (r : CopyFacts) → copy_of H c ≡ Some r → (place H c ≡ Nowhere → ⊥) × (list_any (λ x. c == x) (copies H) ≡ true)
  pub unknown : (c : ℕ) → copy_of H c ≡ None → place H c ≡ Nowhere
  -- A copy on the shelf is at home.
  pub at_home : (c b : ℕ) → place H c ≡ Shelf b → home_of H c ≡ b
  -- The bindings of copies and holds; a hold and the copy that serves it have the same title.
  pub bound : Bound (goal_of H) (place H) (state H)
  pub of_title : (c h : ℕ) → Serves (place H c) h → title_of_hold H h ≡ title_of_copy H c

-- Every legal history keeps the invariant.
abbrev pub Invariants : Type 0
Invariants = (H : History) → IsLegal H → Invariant H
