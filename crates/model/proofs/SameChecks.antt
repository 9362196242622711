-- The checks of a command are the same under other numbers for patrons.
use Rattle.calendar.specs.declared.limits.TheConstants.{MOST_CLOSED_DAYS}
use Rattle.terms.specs.declared.limits.TheConstants.{LAST_TODAY, LAST_NUMBER}
use Rattle.std.proofs.Common.{◌≡◌, ℕ, ◌+◌, ◌==◌, false, not, ◌&&◌, ◌||◌, List, [], ◌∷◌, refl, ◌∙◌, ap, length, nat_le, nat_lt}
use Rattle.std.specs.Prelude.{Option, Some, None, is_some, is_none, option_map, unwrap_or, filter, bytes_eq}
use Rattle.std.specs.List.{list_any, list_all}
use Rattle.terms.specs.declared.command.Owner.{Owner}
use Rattle.terms.specs.declared.command.Owner.TheVariants.{Desk, Patron as Reader}
use Rattle.terms.specs.declared.command.Command.{Command}
use Rattle.terms.specs.declared.command.Command.TheVariants.{BeginDay, Branch, Week, CloseDay, OpenDay, Kind, Rule, Grace, Patron, Acquire}
use Rattle.terms.specs.declared.command.Command.TheVariants.{SetCardKey, AmendPatron, AmendBranch, AmendTitle, AmendCopy, Rehome}
use Rattle.terms.specs.declared.command.Command.TheVariants.{CopyBarcode, PatronBarcode, DropBarcode, Charge, PayAt}
use Rattle.terms.specs.declared.command.Command.TheVariants.{CheckOut, CheckIn, Renew, PlaceHold, CancelHold, Unshelve, UnshelveCancelled}
use Rattle.terms.specs.declared.command.Command.TheVariants.{Missing, Withdraw, Pay, Waive, Page, Ask}
use Rattle.terms.specs.declared.question.Question.{Question}
use Rattle.terms.specs.declared.question.Question.TheVariants as question
use Rattle.terms.specs.declared.refusal.Refusal.TheVariants.{UnknownBranch, UnknownPatron, UnknownTitle, UnknownCopy, UnknownLoan}
use Rattle.terms.specs.declared.refusal.Refusal.TheVariants.{UnknownHold, NoRule, UnknownKind, OtherContent, OutOfLimits, AllWeekdaysClosed}
use Rattle.terms.specs.declared.refusal.Refusal.TheVariants.{BadDay, AlreadyClosed, NotClosed, Elsewhere, OnLoan, InTransit, OnHoldShelf}
use Rattle.terms.specs.declared.refusal.Refusal.TheVariants.{CopyMissing, CopyWithdrawn, HoldWaits, TooManyLoans, OwesTooMuch, PastCalendar}
use Rattle.terms.specs.declared.refusal.Refusal.TheVariants.{LoanEnded, Overdue, NoRenewalsLeft, AlreadyHolds, TooManyHolds, HasOnLoan}
use Rattle.terms.specs.declared.refusal.Refusal.TheVariants.{WrongHoldState, LimitNotPassed, BadAmount, NumbersUsedUp}
use Rattle.terms.specs.declared.refusal.Refusal.TheVariants.{UnknownBarcode, BarcodeTaken}
use Rattle.terms.specs.declared.row.Thing.{Thing}
use Rattle.terms.specs.declared.row.Thing.TheVariants as thing
use Rattle.terms.specs.Pictures.{same_thing}
use Rattle.model.specs.Calendar.{is_single}
use Rattle.model.specs.Checks.{Check, first_failing, is_within_limits, is_small_number}
use Rattle.model.specs.History.{History, numbers_to, holds, thing_of}
use Rattle.model.specs.Places.{Place, Shelf, HoldShelf, place, state, is_begun, is_waiting, is_ready, line_by, title_of_copy}
use Rattle.model.specs.Places.{fills_by, patron_of_hold}
use Rattle.model.specs.Loans.{title_of_loan}
use Rattle.model.specs.Accounts.{borrower}
use Rattle.model.specs.Sights.{sight, line_seen, fills_seen}
use Rattle.model.specs.Refusals.{has_patron, is_taken, is_bad_amount, lacks_lines}
use Rattle.model.specs.Refusals.{is_bad_first_day, kind_now, is_own, has_loan, has_hold, active_holds, has_all_loans, has_all_holds, has_hold_on}
use Rattle.model.specs.Refusals.{has_other_hold, owes_too_much, is_elsewhere, is_kept_for_other, is_first_other, is_wanted_by_other, is_empty}
use Rattle.model.specs.Refusals.{is_withdrawn, is_missing, is_on_loan, is_in_transit, is_on_hold_shelf, checks, checks_asked, refusal}
use Rattle.model.specs.Renaming.{IsRenaming, renamed, renamed_owner, renamed_question}
use Rattle.model.proofs.SameFacts.{IsSame, renamed_thing, same-eqb, title-of-copy, title-of-hold, goal-of, owns-hold, patron-of-hold, hold-there, line-by, fills-same}
use Rattle.model.proofs.SameFacts.{terms-same, loan-there, borrower-same, left-same, title-of-loan, open-loans, on-loan, owed-same, line-count}
use Rattle.model.proofs.SameFacts.{fined-count, lost-count}
use Rattle.model.proofs.SameSteps.{places, states, begun, renew-step, same-thing}

module _ (f : ℕ → ℕ) (new : IsRenaming f) (K H : History) (same : IsSame f K H) where
  -- ---- patrons

  kind-same : (p : ℕ) → kind_now K (f p) ≡ kind_now H p
  kind-same p i = unwrap_or (same.kind_facts (unwrap_or (option_map (λ r. r.kind) (same.patron_facts p i)) 0) i) (record { loans = 0; holds = 0; debt = 0 })

  own-same : (o : Owner) (p : ℕ) → is_own K (renamed_owner f o) (f p) ≡ is_own H o p
  own-same Desk p = refl
  own-same (Reader q) p = same-eqb f new q p

  loan-known : (o : Owner) (l : ℕ) → has_loan K (renamed_owner f o) l ≡ has_loan H o l
  loan-known o l =
      let own : is_own K (renamed_owner f o) (borrower K l) ≡ is_own H o (borrower H l) =
      ap (is_own K (renamed_owner f o)) (borrower-same f new K H same l) ∙ own-same o (borrower H l) in
      λ i. loan-there f new K H same l i && own i

  hold-known : (o : Owner) (h : ℕ) → has_hold K (renamed_owner f o) h ≡ has_hold H o h
  hold-known o h =
      let own : is_own K (renamed_owner f o) (patron_of_hold K h) ≡ is_own H o (patron_of_hold H h) =
      ap (is_own K (renamed_owner f o)) (patron-of-hold f new K H same h) ∙ own-same o (patron_of_hold H h) in
      λ i. hold-there f new K H same h i && own i

  -- ---- lines and holds

  pub line-same : (t : ℕ) → line_seen K (sight K) t ≡ line_seen H (sight H) t
  line-same t = (λ i. line_by K (places f new K H same i) (states f new K H same i) (begun f new K H same i) t)
      ∙ line-by f new K H same (place H) (state H) (is_begun H) t

  fills-seen : (p c h : ℕ) → fills_seen K (sight K) (f p) c h ≡ fills_seen H (sight H) p c h
  fills-seen p c h = (λ i. fills_by K (places f new K H same i) (states f new K H same i) (begun f new K H same i) (f p) c h)
      ∙ fills-same f new K H same (place H) (state H) (is_begun H) p c h

  pub active-same : (p : ℕ) → active_holds K (f p) ≡ active_holds H p
  active-same p i = filter (λ h. owns-hold f new K H same p h i && (is_waiting (same.states h i) || is_ready (same.states h i)))
      (numbers_to (same.hold_count i))

  hold-on : (p t : ℕ) → has_hold_on K (sight K) (f p) t ≡ has_hold_on H (sight H) p t
  hold-on p t i = list_any (λ h. title-of-hold f new K H same h i == t) (active-same p i)

  other-hold : (p c : ℕ) → has_other_hold K (sight K) (f p) c ≡ has_other_hold H (sight H) p c
  other-hold p c i = list_any
      (λ h. (title-of-hold f new K H same h i == title-of-copy f new K H same c i) && not (fills-seen p c h i)) (active-same p i)

  all-loans : (p : ℕ) → has_all_loans K (f p) ≡ has_all_loans H p
  all-loans p i = nat_le (kind-same p i).loans (length (open-loans f new K H same p i))

  all-holds : (p : ℕ) → has_all_holds K (sight K) (f p) ≡ has_all_holds H (sight H) p
  all-holds p i = nat_le (kind-same p i).holds (length (active-same p i))

  owes-too-much : (p : ℕ) → owes_too_much K (sight K) (f p) ≡ owes_too_much H (sight H) p
  owes-too-much p i = nat_lt (kind-same p i).debt (owed-same f new K H same p i)

  bad-first-day : (d : Option ℕ) → is_bad_first_day K d ≡ is_bad_first_day H d
  bad-first-day None = refl
  bad-first-day (Some d) = λ i. not (nat_lt (same.days i) d && nat_le d LAST_TODAY)

  -- ---- places

  elsewhere : (b : ℕ) (p : Place) → is_elsewhere K b p ≡ is_elsewhere H b p
  elsewhere b (Shelf n) = refl
  elsewhere b (HoldShelf h) = λ i. not (goal-of f new K H same h i == b)
  elsewhere b _ = refl

  kept-for-other : (q : ℕ) (p : Place) → is_kept_for_other K (f q) p ≡ is_kept_for_other H q p
  kept-for-other q (HoldShelf h) = λ i. not (owns-hold f new K H same q h i)
  kept-for-other q _ = refl

  first-other : (q : ℕ) (hs : List ℕ) → is_first_other K (f q) hs ≡ is_first_other H q hs
  first-other q [] = refl
  first-other q (h ∷ hs) = λ i. not (owns-hold f new K H same q h i)

  wanted : (q : ℕ) (hs : List ℕ) (p : Place) → is_wanted_by_other K (f q) hs p ≡ is_wanted_by_other H q hs p
  wanted q hs (Shelf b) = first-other q hs
  wanted q hs _ = refl

  line-for-copy : (c : ℕ) → line_seen K (sight K) (title_of_copy K c) ≡ line_seen H (sight H) (title_of_copy H c)
  line-for-copy c = ap (line_seen K (sight K)) (title-of-copy f new K H same c) ∙ line-same (title_of_copy H c)

  line-for-loan : (l : ℕ) → line_seen K (sight K) (title_of_loan K l) ≡ line_seen H (sight H) (title_of_loan H l)
  line-for-loan l = ap (line_seen K (sight K)) (title-of-loan f new K H same l) ∙ line-same (title_of_loan H l)

  elsewhere-at : (b c : ℕ) → is_elsewhere K b (place K c) ≡ is_elsewhere H b (place H c)
  elsewhere-at b c = ap (is_elsewhere K b) (same.places c) ∙ elsewhere b (place H c)

  kept-at : (q c : ℕ) → is_kept_for_other K (f q) (place K c) ≡ is_kept_for_other H q (place H c)
  kept-at q c = ap (is_kept_for_other K (f q)) (same.places c) ∙ kept-for-other q (place H c)

  wanted-at : (q c : ℕ) → is_wanted_by_other K (f q) (line_seen K (sight K) (title_of_copy K c)) (place K c)
      ≡ is_wanted_by_other H q (line_seen H (sight H) (title_of_copy H c)) (place H c)
  wanted-at q c = (λ i. is_wanted_by_other K (f q) (line-for-copy c i) (same.places c i))
      ∙ wanted q (line_seen H (sight H) (title_of_copy H c)) (place H c)

  borrower-owes : (l : ℕ) → owes_too_much K (sight K) (borrower K l) ≡ owes_too_much H (sight H) (borrower H l)
  borrower-owes l = ap (owes_too_much K (sight K)) (borrower-same f new K H same l) ∙ owes-too-much (borrower H l)

  -- ---- barcodes

  -- Whether a barcode is another's is asked of the thing that has it.
  taken-as : (t : Thing) (o : Option Thing)
      → unwrap_or (option_map (λ u. not (same_thing u (renamed_thing f t))) (option_map (renamed_thing f) o)) false
      ≡ unwrap_or (option_map (λ u. not (same_thing u t)) o) false
  taken-as t None = refl
  taken-as t (Some u) = ap not (same-thing f new u t)

  taken : (t : Thing) (barcode : List ℕ) → is_taken K (renamed_thing f t) barcode ≡ is_taken H t barcode
  taken t barcode = ap (λ o. unwrap_or (option_map (λ u. not (same_thing u (renamed_thing f t))) o) false) (same.finds barcode)
      ∙ taken-as t (thing_of H barcode)

  nobodys-as : (o : Option Thing) → is_none (option_map (renamed_thing f) o) ≡ is_none o
  nobodys-as None = refl
  nobodys-as (Some u) = refl

  nobodys : (barcode : List ℕ) → is_none (thing_of K barcode) ≡ is_none (thing_of H barcode)
  nobodys barcode = ap is_none (same.finds barcode) ∙ nobodys-as (thing_of H barcode)

  -- ---- the table

  asked-same : (q : Question) → checks_asked K (renamed_question f q) ≡ checks_asked H q
  asked-same (question.Copy c) = λ i. (UnknownCopy, not (is_some (same.copy_facts c i))) ∷ []
  asked-same (question.Copies t after) = λ i. (UnknownTitle, is_none (same.title_texts t i)) ∷ []
  asked-same (question.Queue t after) = λ i. (UnknownTitle, is_none (same.title_texts t i)) ∷ []
  asked-same (question.Account p after) = λ i. (UnknownPatron, not (is_some (same.patron_facts p i))) ∷ []
  asked-same (question.Debts after) = refl
  asked-same (question.Overdue b after) = λ i. (UnknownBranch, not (is_some (same.branch_facts b i))) ∷ []
  asked-same (question.Shelf b after) = λ i. (UnknownBranch, not (is_some (same.branch_facts b i))) ∷ []
  asked-same (question.Pulls b after) = λ i. (UnknownBranch, not (is_some (same.branch_facts b i))) ∷ []
  asked-same (question.Transits b after) = λ i. (UnknownBranch, not (is_some (same.branch_facts b i))) ∷ []
  asked-same (question.Till d) = refl
  asked-same question.Today = refl
  asked-same (question.Borrower p) = λ i. (UnknownPatron, not (is_some (same.patron_facts p i))) ∷ []
  asked-same (question.FindPatrons after text) = refl
  asked-same (question.FindTitles after text) = refl
  asked-same (question.Branches after) = refl
  asked-same (question.ClosedDays b after) = λ i. (UnknownBranch, not (is_some (same.branch_facts b i))) ∷ []
  asked-same (question.Kinds after) = refl
  asked-same (question.Rules k after) = λ i. (UnknownKind, is_none (same.kind_facts k i)) ∷ []
  asked-same (question.MissingCopies after) = refl
  asked-same (question.Loans c after) = λ i. (UnknownCopy, not (is_some (same.copy_facts c i))) ∷ []
  asked-same (question.FindBarcode barcode) = λ i. (UnknownBarcode, nobodys barcode i) ∷ []
  asked-same (question.TillAt b d) = λ i. (UnknownBranch, not (is_some (same.branch_facts b i))) ∷ []

  settled-same : (p n : ℕ) → ◌≡◌ {A = List Check}
      ((UnknownPatron, not (has_patron K (f p))) ∷ (BadAmount, is_bad_amount K (sight K) (f p) n) ∷ (NumbersUsedUp, lacks_lines K (sight K) 1) ∷ [])
      ((UnknownPatron, not (has_patron H p)) ∷ (BadAmount, is_bad_amount H (sight H) p n) ∷ (NumbersUsedUp, lacks_lines H (sight H) 1) ∷ [])
  settled-same p n i = (UnknownPatron, not (is_some (same.patron_facts p i))) ∷ (BadAmount, (n == 0) || nat_lt (owed-same f new K H same p i) n)
      ∷ (NumbersUsedUp, nat_lt LAST_NUMBER (line-count f new K H same i + 1)) ∷ []

  pub checks-same : (o : Owner) (x : Command) → checks K (renamed_owner f o) (renamed f x) ≡ checks H o x
  checks-same o (BeginDay d) = λ i. (BadDay, not (nat_lt (same.days i) d && nat_le d LAST_TODAY)) ∷ []
  checks-same o (Branch b pickup name) = λ i. (OutOfLimits, not (is_within_limits (Branch b pickup name)))
      ∷ (OtherContent, unwrap_or (option_map (λ r. not ((r.pickup == pickup) && bytes_eq r.name name)) (same.branch_facts b i)) false) ∷ []
  checks-same o (Week b closed) = λ i. (UnknownBranch, not (is_some (same.branch_facts b i))) ∷ (AllWeekdaysClosed, list_all (λ x. x) closed) ∷ []
  checks-same o (CloseDay b d) = λ i. (UnknownBranch, not (is_some (same.branch_facts b i))) ∷ (BadDay, nat_le d (same.days i))
      ∷ (AlreadyClosed, is_single (same.singles b i) d) ∷ (OutOfLimits, nat_le MOST_CLOSED_DAYS (length (same.singles b i))) ∷ []
  checks-same o (OpenDay b d) = λ i. (UnknownBranch, not (is_some (same.branch_facts b i))) ∷ (BadDay, nat_le d (same.days i))
      ∷ (NotClosed, not (is_single (same.singles b i) d)) ∷ []
  checks-same o (Kind k loans holds debt) = refl
  checks-same o (Rule k c period renewals rate cap) = λ i. (OutOfLimits, not (is_within_limits (Rule k c period renewals rate cap)))
      ∷ (UnknownKind, is_none (same.kind_facts k i)) ∷ []
  checks-same o (Grace k c days) = λ i. (OutOfLimits, not (is_within_limits (Grace k c days))) ∷ (NoRule, is_none (same.rule_facts k c i)) ∷ []
  checks-same o (Patron p k card_key name) = λ i. (OutOfLimits, not (new.within p i && is_small_number k)) ∷ (UnknownKind, is_none (same.kind_facts k i))
      ∷ (OtherContent, unwrap_or (option_map (λ r. not ((r.kind == k) && (bytes_eq r.card_key card_key && bytes_eq r.name name))) (same.patron_facts p i)) false) ∷ []
  checks-same o (Acquire c t k home price text) = λ i. (OutOfLimits, not (is_within_limits (Acquire c t k home price text)))
      ∷ (UnknownBranch, not (is_some (same.branch_facts home i)))
      ∷ (
        OtherContent,
        unwrap_or (option_map (λ x. not (bytes_eq x text)) (same.title_texts t i)) false
            || unwrap_or (option_map (λ r. not ((r.title == t) && ((r.kind == k) && ((r.home == home) && (r.price == price))))) (same.copy_facts c i)) false,
      ) ∷ []
  checks-same o (SetCardKey p card_key) = λ i. (UnknownPatron, not (is_some (same.patron_facts p i))) ∷ []
  checks-same o (AmendPatron p k name) = λ i. (OutOfLimits, not (is_within_limits (AmendPatron p k name)))
      ∷ (UnknownPatron, not (is_some (same.patron_facts p i))) ∷ (UnknownKind, is_none (same.kind_facts k i)) ∷ []
  checks-same o (AmendBranch b pickup name) = λ i. (OutOfLimits, not (is_within_limits (AmendBranch b pickup name)))
      ∷ (UnknownBranch, not (is_some (same.branch_facts b i))) ∷ []
  checks-same o (AmendTitle t text) = λ i. (UnknownTitle, is_none (same.title_texts t i)) ∷ []
  checks-same o (AmendCopy c k price) = λ i. (OutOfLimits, not (is_within_limits (AmendCopy c k price)))
      ∷ (UnknownCopy, not (is_some (same.copy_facts c i))) ∷ []
  checks-same o (Rehome c b) = λ i. (UnknownBranch, not (is_some (same.branch_facts b i)))
      ∷ (UnknownCopy, not (is_some (same.copy_facts c i))) ∷ (CopyWithdrawn, is_withdrawn (same.places c i)) ∷ []
  checks-same o (CopyBarcode c barcode) = λ i. (UnknownCopy, not (is_some (same.copy_facts c i))) ∷ (BarcodeTaken, taken (thing.Copy c) barcode i) ∷ []
  checks-same o (PatronBarcode p barcode) = λ i. (UnknownPatron, not (is_some (same.patron_facts p i)))
      ∷ (BarcodeTaken, taken (thing.Patron p) barcode i) ∷ []
  checks-same o (DropBarcode barcode) = λ i. (UnknownBarcode, nobodys barcode i) ∷ []
  checks-same o (CheckOut p c b) = λ i.
      (UnknownBranch, not (is_some (same.branch_facts b i))) ∷ (UnknownPatron, not (is_some (same.patron_facts p i)))
      ∷ (UnknownCopy, not (is_some (same.copy_facts c i)))
      ∷ (CopyWithdrawn, is_withdrawn (same.places c i)) ∷ (CopyMissing, is_missing (same.places c i)) ∷ (OnLoan, is_on_loan (same.places c i))
      ∷ (InTransit, is_in_transit (same.places c i))
      ∷ (Elsewhere, elsewhere-at b c i) ∷ (OnHoldShelf, kept-at p c i) ∷ (HoldWaits, wanted-at p c i)
      ∷ (AlreadyHolds, other-hold p c i) ∷ (NoRule, is_none (terms-same f new K H same p c i)) ∷ (TooManyLoans, all-loans p i)
      ∷ (OwesTooMuch, owes-too-much p i) ∷ (NumbersUsedUp, nat_le LAST_NUMBER (same.loan_count i)) ∷ []
  checks-same o (CheckIn c b) = λ i.
      (UnknownBranch, not (is_some (same.branch_facts b i))) ∷ (UnknownCopy, not (is_some (same.copy_facts c i)))
      ∷ (CopyWithdrawn, is_withdrawn (same.places c i)) ∷ (OnHoldShelf, is_on_hold_shelf (same.places c i))
      ∷ (NumbersUsedUp, nat_lt LAST_NUMBER (line-count f new K H same i + fined-count f new K H same c i)) ∷ []
  checks-same o (Renew l) = λ i.
      (UnknownLoan, not (loan-known o l i)) ∷ (LoanEnded, is_some (same.ends l i)) ∷ (Overdue, nat_lt (same.dues l i) (same.days i))
      ∷ (HoldWaits, not (is_empty (line-for-loan l i))) ∷ (NoRenewalsLeft, left-same f new K H same l i == 0)
      ∷ (OwesTooMuch, borrower-owes l i) ∷ (PastCalendar, is_none (renew-step f new K H same l i)) ∷ []
  checks-same o (PlaceHold p t b d) = λ i.
      (UnknownPatron, not (is_some (same.patron_facts p i))) ∷ (UnknownTitle, is_none (same.title_texts t i))
      ∷ (UnknownBranch, not (is_some (same.branch_facts b i))) ∷ (BadDay, bad-first-day d i)
      ∷ (AlreadyHolds, hold-on p t i) ∷ (HasOnLoan, on-loan f new K H same p t i) ∷ (TooManyHolds, all-holds p i)
      ∷ (NumbersUsedUp, nat_le LAST_NUMBER (same.hold_count i)) ∷ []
  checks-same o (CancelHold h) = λ i. (UnknownHold, not (hold-known o h i)) ∷ (WrongHoldState, not (is_waiting (same.states h i))) ∷ []
  checks-same o (Unshelve h) = λ i. (UnknownHold, not (hold-known o h i)) ∷ (WrongHoldState, not (is_ready (same.states h i)))
      ∷ (LimitNotPassed, nat_le (same.days i) (unwrap_or (same.limits h i) 0)) ∷ []
  checks-same o (UnshelveCancelled h) = λ i. (UnknownHold, not (hold-known o h i)) ∷ (WrongHoldState, not (is_ready (same.states h i))) ∷ []
  checks-same o (Missing c) = λ i.
      (UnknownCopy, not (is_some (same.copy_facts c i))) ∷ (CopyWithdrawn, is_withdrawn (same.places c i)) ∷ (CopyMissing, is_missing (same.places c i))
      ∷ (NumbersUsedUp, nat_lt LAST_NUMBER (line-count f new K H same i + lost-count f new K H same c i)) ∷ []
  checks-same o (Withdraw c) = λ i.
      (UnknownCopy, not (is_some (same.copy_facts c i))) ∷ (CopyWithdrawn, is_withdrawn (same.places c i)) ∷ (OnLoan, is_on_loan (same.places c i))
      ∷ (InTransit, is_in_transit (same.places c i)) ∷ (OnHoldShelf, is_on_hold_shelf (same.places c i)) ∷ []
  checks-same o (Pay p n) = settled-same p n
  checks-same o (Waive p n) = settled-same p n
  checks-same o (Charge p n b text) = λ i. (OutOfLimits, not (is_within_limits (Charge p n b text)))
      ∷ (UnknownPatron, not (is_some (same.patron_facts p i))) ∷ (UnknownBranch, not (is_some (same.branch_facts b i))) ∷ (BadAmount, n == 0)
      ∷ (NumbersUsedUp, nat_lt LAST_NUMBER (line-count f new K H same i + 1)) ∷ []
  checks-same o (PayAt p n b) = λ i. (UnknownPatron, not (is_some (same.patron_facts p i))) ∷ (UnknownBranch, not (is_some (same.branch_facts b i)))
      ∷ (BadAmount, (n == 0) || nat_lt (owed-same f new K H same p i) n) ∷ (NumbersUsedUp, nat_lt LAST_NUMBER (line-count f new K H same i + 1)) ∷ []
  checks-same o (Page p) = λ i. (UnknownPatron, not (is_some (same.patron_facts p i))) ∷ []
  checks-same o (Ask q) = asked-same q

  pub refusal-same : (o : Owner) (x : Command) → refusal K (renamed_owner f o) (renamed f x) ≡ refusal H o x
  refusal-same o x = ap first_failing (checks-same o x)
