-- Which check of a command fails first.
use Rattle.calendar.specs.declared.limits.TheConstants.{MOST_CLOSED_DAYS}
use Rattle.terms.specs.declared.limits.TheConstants.{LAST_TODAY, LAST_NUMBER}
use Rattle.std.specs.Prelude.{ℕ, ◌+◌, ◌==◌, nat_le, nat_lt, Bool, true, false, ◌&&◌, ◌||◌, not, List, [], ◌∷◌, filter, length, Option, Some}
use Rattle.std.specs.Prelude.{None, is_some, is_none, option_map, unwrap_or, bytes_eq}
use Rattle.std.specs.List.{list_any, list_all}
use Rattle.terms.specs.declared.command.Owner.{Owner}
use Rattle.terms.specs.declared.command.Owner.TheVariants.{Desk, Patron as Reader}
use Rattle.terms.specs.declared.command.Command.{Command}
use Rattle.terms.specs.declared.command.Command.TheVariants.{BeginDay, Branch, Week, CloseDay, OpenDay, Kind, Rule, Grace, Patron, Acquire}
use Rattle.terms.specs.declared.command.Command.TheVariants.{SetCardKey, AmendPatron, AmendBranch, AmendTitle, AmendCopy, Rehome}
use Rattle.terms.specs.declared.command.Command.TheVariants.{CopyBarcode, PatronBarcode, DropBarcode, Charge, PayAt}
use Rattle.terms.specs.declared.command.Command.TheVariants.{CheckOut, CheckIn, Renew, PlaceHold, CancelHold, Unshelve, UnshelveCancelled}
use Rattle.terms.specs.declared.command.Command.TheVariants.{Missing, Withdraw, Pay, Waive, Page, Ask}
use Rattle.terms.specs.declared.question.Question.{Question}
use Rattle.terms.specs.declared.question.Question.TheVariants as question
use Rattle.terms.specs.declared.refusal.Refusal.{Refusal}
use Rattle.terms.specs.declared.refusal.Refusal.TheVariants.{UnknownBranch, UnknownPatron, UnknownTitle, UnknownCopy, UnknownLoan}
use Rattle.terms.specs.declared.refusal.Refusal.TheVariants.{UnknownHold, NoRule, UnknownKind, OtherContent, OutOfLimits, AllWeekdaysClosed}
use Rattle.terms.specs.declared.refusal.Refusal.TheVariants.{BadDay, AlreadyClosed, NotClosed, Elsewhere, OnLoan, InTransit, OnHoldShelf}
use Rattle.terms.specs.declared.refusal.Refusal.TheVariants.{CopyMissing, CopyWithdrawn, HoldWaits, TooManyLoans, OwesTooMuch, PastCalendar}
use Rattle.terms.specs.declared.refusal.Refusal.TheVariants.{LoanEnded, Overdue, NoRenewalsLeft, AlreadyHolds, TooManyHolds, HasOnLoan}
use Rattle.terms.specs.declared.refusal.Refusal.TheVariants.{WrongHoldState, LimitNotPassed, BadAmount, NumbersUsedUp}
use Rattle.terms.specs.declared.refusal.Refusal.TheVariants.{UnknownBarcode, BarcodeTaken}
use Rattle.terms.specs.declared.row.Thing.{Thing}
use Rattle.terms.specs.declared.row.Thing.TheVariants as thing
use Rattle.terms.specs.Pictures.{same_thing}
use Rattle.model.specs.Calendar.{is_single}
use Rattle.model.specs.Checks.{Check, first_failing, is_within_limits}
use Rattle.model.specs.History.{History, numbers_to, today, singles_of, branch_of, KindFacts, kind_of, rule_of, patron_of, title_of, thing_of}
use Rattle.model.specs.History.{copy_of, loans, holds, hold_of}
use Rattle.model.specs.Places.{Place, Shelf, HoldShelf, Transit, Loan, MissingCopy, WithdrawnCopy, title_of_copy, title_of_hold}
use Rattle.model.specs.Places.{patron_of_hold, goal_of, is_waiting, is_ready}
use Rattle.model.specs.Loans.{loan_of, due, ended, terms_for, renewed_due, renewals_left, open_loans, has_on_loan, title_of_loan}
use Rattle.model.specs.Accounts.{Returned, Lost, lines_posted, borrower}
use Rattle.model.specs.Sights.{Sight, sight, line_seen, fills_seen, owed_seen}

-- ---- tests on a history

module _ (H : History) where
  -- The day isn't after today, or it is one that can never be today.
  abbrev pub is_bad_day : ℕ → Bool
  is_bad_day d = not (nat_lt (today H) d && nat_le d LAST_TODAY)

  -- A first day that a hold is to have is no later day.
  abbrev pub is_bad_first_day : Option ℕ → Bool
  is_bad_first_day None = false
  is_bad_first_day (Some d) = is_bad_day d

  -- The branch exists.
  abbrev pub has_branch : ℕ → Bool
  has_branch b = is_some (branch_of H b)

  -- The patron exists.
  abbrev pub has_patron : ℕ → Bool
  has_patron p = is_some (patron_of H p)

  -- The copy exists.
  abbrev pub has_copy : ℕ → Bool
  has_copy c = is_some (copy_of H c)

  -- The current kind of a patron.
  abbrev pub kind_now : ℕ → KindFacts
  kind_now p = unwrap_or (kind_of H (unwrap_or (option_map (λ r. r.kind) (patron_of H p)) 0)) (record { loans = 0; holds = 0; debt = 0 })

  -- The patron has as many open loans as the kind allows.
  abbrev pub has_all_loans : ℕ → Bool
  has_all_loans p = nat_le (kind_now p).loans (length (open_loans H p))

  -- The branch exists with another pick-up period or name.
  abbrev pub differs_branch : ℕ → ℕ → List ℕ → Bool
  differs_branch b pickup name = unwrap_or (option_map (λ r. not ((r.pickup == pickup) && bytes_eq r.name name)) (branch_of H b)) false

  -- The patron exists with another kind, card key or name.
  abbrev pub differs_patron : ℕ → ℕ → List ℕ → List ℕ → Bool
  differs_patron p k card_key name =
      unwrap_or (option_map (λ r. not ((r.kind == k) && (bytes_eq r.card_key card_key && bytes_eq r.name name))) (patron_of H p)) false

  -- The title exists with another text.
  abbrev pub differs_title : ℕ → List ℕ → Bool
  differs_title t text = unwrap_or (option_map (λ x. not (bytes_eq x text)) (title_of H t)) false

  -- The copy exists with another title, kind, home or price.
  abbrev pub differs_copy : ℕ → ℕ → ℕ → ℕ → ℕ → Bool
  differs_copy c t k home price =
      unwrap_or (option_map (λ r. not ((r.title == t) && ((r.kind == k) && ((r.home == home) && (r.price == price))))) (copy_of H c)) false

  -- Another thing has the barcode.
  abbrev pub is_taken : Thing → List ℕ → Bool
  is_taken t barcode = unwrap_or (option_map (λ u. not (same_thing u t)) (thing_of H barcode)) false

  -- For a patron, only the patron's own loans and holds exist.
  abbrev pub is_own : Owner → ℕ → Bool
  is_own Desk p = true
  is_own (Reader q) p = q == p

  -- The loan exists, and the owner may know of it.
  abbrev pub has_loan : Owner → ℕ → Bool
  has_loan o l = is_some (loan_of H l) && is_own o (borrower H l)

  -- The hold exists, and the owner may know of it.
  abbrev pub has_hold : Owner → ℕ → Bool
  has_hold o h = is_some (hold_of H h) && is_own o (patron_of_hold H h)

-- ---- tests on what a list shows

module _ (H : History) (s : Sight) where
  -- The patron owes more than the kind allows at check-out.
  abbrev pub owes_too_much : ℕ → Bool
  owes_too_much p = nat_lt (kind_now H p).debt (owed_seen H s p)

  -- A waiting or ready hold is active.
  abbrev pub is_active_by : ℕ → Bool
  is_active_by h = is_waiting (s.state h) || is_ready (s.state h)

  -- The active holds of a patron, by number.
  abbrev pub active_holds_by : ℕ → List ℕ
  active_holds_by p = filter (λ h. (patron_of_hold H h == p) && is_active_by h) (numbers_to (holds H))

  -- The patron has as many active holds as the kind allows.
  abbrev pub has_all_holds : ℕ → Bool
  has_all_holds p = nat_le (kind_now H p).holds (length (active_holds_by p))

  -- The patron has an active hold of the title.
  abbrev pub has_hold_on : ℕ → ℕ → Bool
  has_hold_on p t = list_any (λ h. title_of_hold H h == t) (active_holds_by p)

  -- The patron has an active hold of the copy's title that this check-out doesn't fill.
  abbrev pub has_other_hold : ℕ → ℕ → Bool
  has_other_hold p c = list_any (λ h. (title_of_hold H h == title_of_copy H c) && not (fills_seen H s p c h)) (active_holds_by p)

  -- Fewer than n line numbers are left.
  abbrev pub lacks_lines : ℕ → Bool
  lacks_lines n = nat_lt LAST_NUMBER (length s.lines + n)

  -- The amount is zero or above the patron's debt.
  abbrev pub is_bad_amount : ℕ → ℕ → Bool
  is_bad_amount p n = (n == 0) || nat_lt (owed_seen H s p) n

-- A waiting or ready hold is active.
abbrev pub is_active : History → ℕ → Bool
is_active H h = is_active_by H (sight H) h

-- The active holds of a patron, by number.
abbrev pub active_holds : History → ℕ → List ℕ
active_holds H p = active_holds_by H (sight H) p

-- ---- tests on a place

-- The copy is withdrawn.
abbrev pub is_withdrawn : Place → Bool
is_withdrawn WithdrawnCopy = true
is_withdrawn _ = false

-- The copy is missing.
abbrev pub is_missing : Place → Bool
is_missing MissingCopy = true
is_missing _ = false

-- The copy is on loan.
abbrev pub is_on_loan : Place → Bool
is_on_loan (Loan l) = true
is_on_loan _ = false

-- The copy is in transit.
abbrev pub is_in_transit : Place → Bool
is_in_transit (Transit b h) = true
is_in_transit _ = false

-- The copy is on a hold shelf.
abbrev pub is_on_hold_shelf : Place → Bool
is_on_hold_shelf (HoldShelf h) = true
is_on_hold_shelf _ = false

-- The copy is on a shelf or hold shelf of a branch other than b.
abbrev pub is_elsewhere : History → ℕ → Place → Bool
is_elsewhere H b (Shelf n) = not (n == b)
is_elsewhere H b (HoldShelf h) = not (goal_of H h == b)
is_elsewhere H b _ = false

-- The copy is on the hold shelf for another patron's hold.
abbrev pub is_kept_for_other : History → ℕ → Place → Bool
is_kept_for_other H p (HoldShelf h) = not (patron_of_hold H h == p)
is_kept_for_other H p _ = false

-- The first hold in line is another patron's.
abbrev pub is_first_other : History → ℕ → List ℕ → Bool
is_first_other H p [] = false
is_first_other H p (h ∷ hs) = not (patron_of_hold H h == p)

-- The copy is on the shelf, and the first hold in this line is another patron's.
abbrev pub is_wanted_by_other : History → ℕ → List ℕ → Place → Bool
is_wanted_by_other H p hs (Shelf b) = is_first_other H p hs
is_wanted_by_other H p hs _ = false

-- Nobody stands in line.
abbrev pub is_empty : List ℕ → Bool
is_empty [] = true
is_empty (h ∷ hs) = false

-- ---- the table of checks

-- The check of a question: what it names exists.
abbrev pub checks_asked : History → Question → List Check
checks_asked H (question.Copy c) = (UnknownCopy, not (has_copy H c)) ∷ []
checks_asked H (question.Copies t after) = (UnknownTitle, is_none (title_of H t)) ∷ []
checks_asked H (question.Queue t after) = (UnknownTitle, is_none (title_of H t)) ∷ []
checks_asked H (question.Account p after) = (UnknownPatron, not (has_patron H p)) ∷ []
checks_asked H (question.Debts after) = []
checks_asked H (question.Overdue b after) = (UnknownBranch, not (has_branch H b)) ∷ []
checks_asked H (question.Shelf b after) = (UnknownBranch, not (has_branch H b)) ∷ []
checks_asked H (question.Pulls b after) = (UnknownBranch, not (has_branch H b)) ∷ []
checks_asked H (question.Transits b after) = (UnknownBranch, not (has_branch H b)) ∷ []
checks_asked H (question.Till d) = []
checks_asked H question.Today = []
checks_asked H (question.Borrower p) = (UnknownPatron, not (has_patron H p)) ∷ []
checks_asked H (question.FindPatrons after text) = []
checks_asked H (question.FindTitles after text) = []
checks_asked H (question.Branches after) = []
checks_asked H (question.ClosedDays b after) = (UnknownBranch, not (has_branch H b)) ∷ []
checks_asked H (question.Kinds after) = []
checks_asked H (question.Rules k after) = (UnknownKind, is_none (kind_of H k)) ∷ []
checks_asked H (question.MissingCopies after) = []
checks_asked H (question.Loans c after) = (UnknownCopy, not (has_copy H c)) ∷ []
checks_asked H (question.FindBarcode barcode) = (UnknownBarcode, is_none (thing_of H barcode)) ∷ []
checks_asked H (question.TillAt b d) = (UnknownBranch, not (has_branch H b)) ∷ []

-- The checks of a command, in order, given the sight: each with its refusal, and whether it fails.
abbrev pub checks_by : History → Sight → Owner → Command → List Check
checks_by H s o (BeginDay d) = (BadDay, is_bad_day H d) ∷ []
checks_by H s o (Branch b pickup name) = (OutOfLimits, not (is_within_limits (Branch b pickup name))) ∷ (OtherContent, differs_branch H b pickup name) ∷ []
checks_by H s o (Week b closed) = (UnknownBranch, not (has_branch H b)) ∷ (AllWeekdaysClosed, list_all (λ x. x) closed) ∷ []
checks_by H s o (CloseDay b d) =
    (UnknownBranch, not (has_branch H b)) ∷ (BadDay, nat_le d (today H)) ∷ (AlreadyClosed, is_single (singles_of H b) d)
    ∷ (OutOfLimits, nat_le MOST_CLOSED_DAYS (length (singles_of H b))) ∷ []
checks_by H s o (OpenDay b d) =
    (UnknownBranch, not (has_branch H b)) ∷ (BadDay, nat_le d (today H)) ∷ (NotClosed, not (is_single (singles_of H b) d)) ∷ []
checks_by H s o (Kind k loans holds debt) = (OutOfLimits, not (is_within_limits (Kind k loans holds debt))) ∷ []
checks_by H s o (Rule k c period renewals rate cap) =
    (OutOfLimits, not (is_within_limits (Rule k c period renewals rate cap))) ∷ (UnknownKind, is_none (kind_of H k)) ∷ []
checks_by H s o (Grace k c days) = (OutOfLimits, not (is_within_limits (Grace k c days))) ∷ (NoRule, is_none (rule_of H k c)) ∷ []
checks_by H s o (Patron p k card_key name) =
    (OutOfLimits, not (is_within_limits (Patron p k card_key name))) ∷ (UnknownKind, is_none (kind_of H k))
    ∷ (OtherContent, differs_patron H p k card_key name) ∷ []
checks_by H s o (Acquire c t k home price text) =
    (OutOfLimits, not (is_within_limits (Acquire c t k home price text))) ∷ (UnknownBranch, not (has_branch H home))
    ∷ (OtherContent, differs_title H t text || differs_copy H c t k home price) ∷ []
checks_by H s o (SetCardKey p card_key) = (UnknownPatron, not (has_patron H p)) ∷ []
checks_by H s o (AmendPatron p k name) =
    (OutOfLimits, not (is_within_limits (AmendPatron p k name))) ∷ (UnknownPatron, not (has_patron H p)) ∷ (UnknownKind, is_none (kind_of H k)) ∷ []
checks_by H s o (AmendBranch b pickup name) =
    (OutOfLimits, not (is_within_limits (AmendBranch b pickup name))) ∷ (UnknownBranch, not (has_branch H b)) ∷ []
checks_by H s o (AmendTitle t text) = (UnknownTitle, is_none (title_of H t)) ∷ []
checks_by H s o (AmendCopy c k price) =
    (OutOfLimits, not (is_within_limits (AmendCopy c k price))) ∷ (UnknownCopy, not (has_copy H c)) ∷ []
checks_by H s o (Rehome c b) =
    (UnknownBranch, not (has_branch H b)) ∷ (UnknownCopy, not (has_copy H c)) ∷ (CopyWithdrawn, is_withdrawn (s.place c)) ∷ []
checks_by H s o (CopyBarcode c barcode) = (UnknownCopy, not (has_copy H c)) ∷ (BarcodeTaken, is_taken H (thing.Copy c) barcode) ∷ []
checks_by H s o (PatronBarcode p barcode) = (UnknownPatron, not (has_patron H p)) ∷ (BarcodeTaken, is_taken H (thing.Patron p) barcode) ∷ []
checks_by H s o (DropBarcode barcode) = (UnknownBarcode, is_none (thing_of H barcode)) ∷ []
checks_by H s o (CheckOut p c b) =
    (UnknownBranch, not (has_branch H b)) ∷ (UnknownPatron, not (has_patron H p)) ∷ (UnknownCopy, not (has_copy H c))
    ∷ (CopyWithdrawn, is_withdrawn (s.place c)) ∷ (CopyMissing, is_missing (s.place c)) ∷ (OnLoan, is_on_loan (s.place c))
    ∷ (InTransit, is_in_transit (s.place c))
    ∷ (Elsewhere, is_elsewhere H b (s.place c)) ∷ (OnHoldShelf, is_kept_for_other H p (s.place c))
    ∷ (HoldWaits, is_wanted_by_other H p (line_seen H s (title_of_copy H c)) (s.place c))
    ∷ (AlreadyHolds, has_other_hold H s p c) ∷ (NoRule, is_none (terms_for H p c)) ∷ (TooManyLoans, has_all_loans H p)
    ∷ (OwesTooMuch, owes_too_much H s p) ∷ (NumbersUsedUp, nat_le LAST_NUMBER (loans H)) ∷ []
checks_by H s o (CheckIn c b) =
    (UnknownBranch, not (has_branch H b)) ∷ (UnknownCopy, not (has_copy H c)) ∷ (CopyWithdrawn, is_withdrawn (s.place c))
    ∷ (OnHoldShelf, is_on_hold_shelf (s.place c))
    ∷ (NumbersUsedUp, lacks_lines H s (length (lines_posted H s.place s.grace (Returned c)))) ∷ []
checks_by H s o (Renew l) =
    (UnknownLoan, not (has_loan H o l)) ∷ (LoanEnded, is_some (ended H l)) ∷ (Overdue, nat_lt (due H l) (today H))
    ∷ (HoldWaits, not (is_empty (line_seen H s (title_of_loan H l))))
    ∷ (NoRenewalsLeft, renewals_left H l == 0) ∷ (OwesTooMuch, owes_too_much H s (borrower H l)) ∷ (PastCalendar, is_none (renewed_due H l (due H l))) ∷ []
checks_by H s o (PlaceHold p t b d) =
    (UnknownPatron, not (has_patron H p)) ∷ (UnknownTitle, is_none (title_of H t)) ∷ (UnknownBranch, not (has_branch H b)) ∷ (BadDay, is_bad_first_day H d)
    ∷ (AlreadyHolds, has_hold_on H s p t) ∷ (HasOnLoan, has_on_loan H p t) ∷ (TooManyHolds, has_all_holds H s p)
    ∷ (NumbersUsedUp, nat_le LAST_NUMBER (holds H)) ∷ []
checks_by H s o (CancelHold h) = (UnknownHold, not (has_hold H o h)) ∷ (WrongHoldState, not (is_waiting (s.state h))) ∷ []
checks_by H s o (Unshelve h) =
    (UnknownHold, not (has_hold H o h)) ∷ (WrongHoldState, not (is_ready (s.state h))) ∷ (LimitNotPassed, nat_le (today H) (unwrap_or (s.limit h) 0)) ∷ []
checks_by H s o (UnshelveCancelled h) = (UnknownHold, not (has_hold H o h)) ∷ (WrongHoldState, not (is_ready (s.state h))) ∷ []
checks_by H s o (Missing c) =
    (UnknownCopy, not (has_copy H c)) ∷ (CopyWithdrawn, is_withdrawn (s.place c)) ∷ (CopyMissing, is_missing (s.place c))
    ∷ (NumbersUsedUp, lacks_lines H s (length (lines_posted H s.place s.grace (Lost c)))) ∷ []
checks_by H s o (Withdraw c) =
    (UnknownCopy, not (has_copy H c)) ∷ (CopyWithdrawn, is_withdrawn (s.place c)) ∷ (OnLoan, is_on_loan (s.place c)) ∷ (InTransit, is_in_transit (s.place c))
    ∷ (OnHoldShelf, is_on_hold_shelf (s.place c)) ∷ []
checks_by H s o (Pay p n) = (UnknownPatron, not (has_patron H p)) ∷ (BadAmount, is_bad_amount H s p n) ∷ (NumbersUsedUp, lacks_lines H s 1) ∷ []
checks_by H s o (Waive p n) = (UnknownPatron, not (has_patron H p)) ∷ (BadAmount, is_bad_amount H s p n) ∷ (NumbersUsedUp, lacks_lines H s 1) ∷ []
checks_by H s o (Charge p n b text) =
    (OutOfLimits, not (is_within_limits (Charge p n b text))) ∷ (UnknownPatron, not (has_patron H p)) ∷ (UnknownBranch, not (has_branch H b))
    ∷ (BadAmount, n == 0) ∷ (NumbersUsedUp, lacks_lines H s 1) ∷ []
checks_by H s o (PayAt p n b) =
    (UnknownPatron, not (has_patron H p)) ∷ (UnknownBranch, not (has_branch H b)) ∷ (BadAmount, is_bad_amount H s p n)
    ∷ (NumbersUsedUp, lacks_lines H s 1) ∷ []
checks_by H s o (Page p) = (UnknownPatron, not (has_patron H p)) ∷ []
checks_by H s o (Ask question) = checks_asked H question

-- The checks of a command after a history.
abbrev pub checks : History → Owner → Command → List Check
checks H o c = checks_by H (sight H) o c

-- The refusal of a command, if any: that of the first failing check.
abbrev pub refusal : History → Owner → Command → Option Refusal
refusal H o c = first_failing (checks H o c)
