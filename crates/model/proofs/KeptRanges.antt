-- In every legal history whose commands have their forms: lines are within their limits, and what is kept can
-- be read back.
use Rattle.terms.specs.declared.refusal.Refusal.TheVariants as check
use Rattle.model.specs.Sights.{sight}
use Rattle.calendar.specs.declared.limits.TheConstants.{FIRST_DAY, LAST_DAY}
use Rattle.terms.specs.declared.limits.TheConstants.{LAST_NUMBER}
use Rattle.std.proofs.Common.{◌≡◌, ℕ, zero, suc, ◌+◌, ◌≤◌, ◌<◌, ◌==◌, Bool, true, false, not, ◌&&◌, List, [], ◌∷◌, ◌++◌, length, refl, sym, ap, subst, arith}
use Rattle.std.specs.Prelude.{Option, Some, None, is_some, is_none, option_map, option_and_then, unwrap_or, IsUtf8, IfSome, bytes_eq}
use Rattle.std.specs.Prelude.{IsTrue, nat_le, nat_lt, slice_index_or}
use Rattle.std.proofs.lemmas.Bool.{and_parts, or_parts, leb-true, leb-false, ltb-false}
use Rattle.std.proofs.lemmas.Slice.Eq.{bytes_eq-Decides}
use Rattle.calendar.specs.Days.{IsDayNumber}
use Rattle.calendar.specs.Openings.{weekday}
use Rattle.terms.specs.Forms.{IsKey}
use Rattle.terms.specs.Laws.{IsAmount, IsNumber, IsRouted, IsKept}
use Rattle.terms.specs.Limits.{IsLarge, IsGiven, IsOwner}
use Rattle.terms.specs.Texts.{request_text}
use Rattle.terms.specs.Pictures.{same_owner}
use Rattle.terms.proofs.Utf8Lemmas.{request_text-IsUtf8}
use Rattle.terms.specs.declared.command.Owner.{Owner}
use Rattle.terms.specs.declared.command.Owner.TheVariants.{Desk, Patron as Reader}
use Rattle.terms.specs.declared.command.Command.{Command}
use Rattle.terms.specs.declared.command.Command.TheVariants.{CheckOut, CheckIn, Renew, PlaceHold, Unshelve, UnshelveCancelled, Missing, Pay, Waive, Page, Ask}
use Rattle.terms.specs.declared.command.Command.TheVariants.{Charge, PayAt}
use Rattle.terms.specs.declared.row.Sort.{Sort}
use Rattle.terms.specs.declared.row.Sort.TheVariants.{Fine, Price, Charge as ChargeSort}
use Rattle.model.specs.Calendar.{is_single, opens, least, IsLeast}
use Rattle.model.specs.History.{History, today, is_open, week_of, singles_of, loans, holds, HoldFacts, hold_of, branch_of, patron_of, CopyFacts, copy_of}
use Rattle.model.specs.Places.{Place, Shelf, HoldShelf, Transit, Loan, place, state, is_ready, route, kept_for, goal_of, limit_now}
use Rattle.model.specs.Loans.{LoanFacts, loan_of, due, grace_of, first_due, terms_for, no_terms}
use Rattle.model.specs.Accounts.{Note, Line, Posting, Returned, Lost, Settled, Charged, NoPosting, posting, noted_line, lines, lines_after, fine_line}
use Rattle.model.specs.Accounts.{price_line, fine_now, fine_at, price_of, borrower, owed}
use Rattle.model.specs.Answers.{routed, unshelved, missed, accepted}
use Rattle.model.specs.Invariant.{Invariant}
use Rattle.model.specs.Refusals.{refusal, checks, is_bad_amount, is_own}
use Rattle.model.specs.Requests.{IsLegal, only_asks, is_enrolled, Kept, kept_of}
use Rattle.model.specs.DueDays.{HasWholeWeeks, IsDue, sets_due, period_end}
use Rattle.model.specs.Forms.{HasForms}
use Rattle.model.specs.Picture.{nth_line}
use Rattle.model.proofs.Passing.{passed}
use Rattle.model.proofs.Postings.{settling, charging}
use Rattle.model.proofs.Bindings.{not-false, ready-is, kept-found}
use Rattle.model.proofs.Legal.{legal-bound}
use Rattle.model.proofs.Least.{least-IsLeast}
use Rattle.model.proofs.Invariants.{legal-Invariant}
use Rattle.model.proofs.MoneyLaws.{legal-MoneyLaws, fine-small, price-small}
use Rattle.model.proofs.SettingLaws.{legal-SettingLaws, legal-CalendarLaws}
use Rattle.model.proofs.DueDayLaws.{first_due-is, limit_now-is}
use Rattle.model.proofs.Repeats.{same_owner-is}
use Rattle.model.proofs.Runs.{forms-whole}
use Rattle.model.proofs.SettingRanges.{SettingRanges, legal-SettingRanges, there, none-some, some-same}
use Rattle.model.proofs.PlaceSteps.{copy-known}
use Rattle.model.proofs.LendingRanges.{LendingRanges, PlaceIn, legal-LendingRanges, today-in, routed-in}

-- ---- days

-- A day on which a branch is open is one of the calendar.
open-day : (week : List Bool) (singles : List ℕ) (d : ℕ) → opens week singles d ≡ true → IsDayNumber d
open-day week singles d e = go (nat_le FIRST_DAY d) (nat_le d LAST_DAY) (not (slice_index_or week (weekday d) false)) refl refl e
  where
    go : (a b c : Bool) → nat_le FIRST_DAY d ≡ a → nat_le d LAST_DAY ≡ b
        → (elim (a && (b && c)) as (λ _. Bool) [ true ↦ not (is_single singles d) | false ↦ false ]) ≡ true → IsDayNumber d
    go true true c p q f = (leb-true _ _ p, leb-true _ _ q)
    go true false c p q f = let never : ⊥ = cc in absurd never
    go false b c p q f = let never : ⊥ = cc in absurd never

-- So the least open day is one.
pub least-in : (H : History) (b from d : ℕ) → IsLeast (is_open H b) from d → IsDayNumber d
least-in H b from d l = open-day (week_of H b) (singles_of H b) d l.opens

-- A due day is a day of the calendar.
pub due-in : (H : History) (l : ℕ) (r : LoanFacts) (d : ℕ) → IsDue H l r d → IsDayNumber d
due-in [] l r d is = absurd is
due-in (e ∷ H) l r d is = go (sets_due H e.command l) (due-in H l r d) is
  where
    go : (x : Bool) → (IsDue H l r d → IsDayNumber d)
        → (elim x as (λ _. Type 0) [ true ↦ IsLeast (is_open H r.branch) (period_end H e.command l r) d | false ↦ IsDue H l r d ])
        → IsDayNumber d
    go true before set = least-in H r.branch (period_end H e.command l r) d set
    go false before old = before old

-- ---- lines

abbrev LineIn : Line → Type 0
LineIn x = IsLarge x.patron × IsDayNumber x.day × IsAmount x.amount × IfSome x.loan IsGiven

abbrev AreIn : List Line → Type 0
AreIn [] = Unit {0}
AreIn (x ∷ xs) = LineIn x × AreIn xs

append-in : (xs ys : List Line) → AreIn xs → AreIn ys → AreIn (xs ++ ys)
append-in [] ys a b = b
append-in (x ∷ xs) ys a b = (a.0, append-in xs ys a.1 b)

-- Each line has a number, and lies in its limits.
pub nth-in : (xs : List Line) (n : ℕ) (x : Line) → AreIn xs → nth_line xs n ≡ Some x → LineIn x × (1 ≤ n) × (n ≤ length xs)
nth-in [] n x a e = absurd (none-some x e)
nth-in (y ∷ xs) zero x a e = absurd (none-some x e)
nth-in (y ∷ xs) (suc zero) x a e = (subst LineIn (some-same y x e) a.0, omega arith, omega arith)
nth-in (y ∷ xs) (suc (suc n)) x a e = let r = nth-in xs (suc n) x a.1 e in (r.0, omega arith, omega (arith, r.2))

module _ (H : History) (legal : IsLegal H) (forms : HasForms H) where
  inv : Invariant H
  inv = legal-Invariant H legal

  settings : SettingRanges H
  settings = legal-SettingRanges H legal forms

  lending : LendingRanges H
  lending = legal-LendingRanges H legal forms

  whole : HasWholeWeeks H
  whole = forms-whole H forms

  line-in : (p : ℕ) (s : Sort) (loan : Option ℕ) (remark : Option Note) (n : ℕ) → IsLarge p → IsAmount n → IfSome loan IsGiven
      → AreIn (noted_line H p s loan remark n)
  line-in p s loan remark zero a b c = tt
  line-in p s loan remark (suc n) a b c = ((a, today-in H inv settings, b, c), tt)

  -- The loan of a copy that is on loan, its borrower and its number.
  loan-in : (c l : ℕ) → place H c ≡ Loan l → IsLarge (borrower H l) × IsGiven l
  loan-in c l at =
      let r = inv.on_loan c l at in
      let made = inv.made_loan l r.0 r.1 in (
        subst IsLarge (sym (ap (λ y. unwrap_or (option_map (λ q. q.patron) y) 0) r.1)) (lending.loans l r.0 r.1).1,
        (made.0, omega (arith, made.1, inv.loans_left)),
      )

  fine-le : (l : ℕ) → fine_now H (grace_of H) l ≤ 100000
  fine-le l = fine-small H (legal-MoneyLaws H legal) (legal-SettingLaws H legal) l

  price-le : (c : ℕ) → price_of H c ≤ 1000000
  price-le c = price-small H (legal-MoneyLaws H legal) (legal-SettingLaws H legal) c

  pub owed-le : (p : ℕ) → owed H p ≤ 2147483647000000
  owed-le p = omega (arith, inv.debts p, inv.lines_left)

  fine-in : (c : ℕ) (at : Place) → place H c ≡ at → AreIn (fine_line H (grace_of H) at)
  fine-in c (Loan l) at = let r = loan-in c l at in line-in (borrower H l) Fine (Some l) None (fine_now H (grace_of H) l) r.0 (omega (arith, fine-le l)) r.1
  fine-in c _ at = tt

  price-in : (c : ℕ) (at : Place) → place H c ≡ at → AreIn (price_line H c at)
  price-in c (Loan l) at = let r = loan-in c l at in line-in (borrower H l) Price (Some l) None (price_of H c) r.0 (omega (arith, price-le c)) r.1
  price-in c _ at = tt

  -- What is paid or waived is at most what is owed, and the patron is there.
  paid-in : (o : Owner) (p n : ℕ) → not (is_some (patron_of H p)) ≡ false → is_bad_amount H (sight H) p n ≡ false → IsLarge p × IsAmount n
  paid-in o p n has good =
      let patron = there (patron_of H p) (not-false _ has) in
      let low : n ≤ owed H p = ltb-false _ _ (or_parts (n == 0) (nat_lt (owed H p) n) good).1 in
      ((settings.patrons p patron.0 patron.1).0, omega (arith, low, owed-le p))

  lines-step : (o : Owner) (x : Command) (made : Posting) → posting x ≡ made → refusal H o x ≡ None → AreIn (lines H) → AreIn (lines_after H made (lines H))
  lines-step o x (Returned c) e ok was = append-in (lines H) (fine_line H (grace_of H) (place H c)) was (fine-in c (place H c) refl)
  lines-step o x (Lost c) e ok was =
      append-in (lines H) (fine_line H (grace_of H) (place H c) ++ price_line H c (place H c)) was
      (append-in (fine_line H (grace_of H) (place H c)) (price_line H c (place H c)) (fine-in c (place H c) refl) (price-in c (place H c) refl))
  lines-step o x (Settled p sort remark n) e ok was =
      let pass = settling H o x p n sort remark ok e in
      let paid = paid-in o p n pass.patron pass.amount in
      append-in (lines H) (noted_line H p sort None remark n) was (line-in p sort None remark n paid.0 paid.1 tt)
  lines-step o x (Charged p remark n) e ok was =
      let pass = charging H o x p n remark ok e in
      let patron = there (patron_of H p) (not-false _ pass.patron) in
      append-in (lines H) (noted_line H p ChargeSort None (Some remark) n) was
      (line-in p ChargeSort None (Some remark) n (settings.patrons p patron.0 patron.1).0 (omega (arith, pass.amount)) tt)
  lines-step o x NoPosting e ok was = was

  -- ---- replies

  fine_at-le : (at : Place) → fine_at H (grace_of H) at ≤ 100000
  fine_at-le (Loan l) = fine-le l
  fine_at-le _ = omega arith

  goal-number : (h : ℕ) → IsNumber (goal_of H h)
  goal-number h = go (hold_of H h) refl
    where
      go : (y : Option HoldFacts) → hold_of H h ≡ y → IsNumber (unwrap_or (option_map (λ r. r.branch) y) 0)
      go (Some r) e = let small = (lending.holds h r e).2 in omega (arith, small.1)
      go None e = omega arith

  limit-in : (h : ℕ) → IsDayNumber (unwrap_or (limit_now H h) 0)
  limit-in h =
      let d = limit_now-is H h (legal-CalendarLaws H legal whole) in
      subst (λ y. IsDayNumber (unwrap_or y 0)) (sym d.1) (least-in H (goal_of H h) limit_from d.0 (least-IsLeast (is_open H (goal_of H h)) limit_from d.0 d.1))
    where
      limit_from : ℕ
      limit_from = today H + unwrap_or (option_map (λ r. r.pickup) (branch_of H (goal_of H h))) 0

  routed-kept : (q : Place) → PlaceIn q → IsRouted (routed H q)
  routed-kept (Shelf b) a = omega (arith, a.1)
  routed-kept (HoldShelf h) a = (omega (arith, a.1), goal-number h, limit-in h)
  routed-kept (Transit g (Some h)) a = (omega (arith, a.0.1), omega (arith, a.1.1))
  routed-kept (Transit g None) a = omega (arith, a.1)
  routed-kept _ a = omega arith

  handed_in : (c b : ℕ) (f : CopyFacts) → copy_of H c ≡ Some f → PlaceIn (route H c b)
  handed_in c b f known = routed-in H inv settings lending Desk c b f known

  -- The copy of a ready hold goes somewhere.
  unshelved-kept : (h : ℕ) → is_ready (state H h) ≡ true → IsRouted (unshelved H (sight H) h)
  unshelved-kept h ready =
      let copy = inv.bound.kept h (ready-is (state H h) ready) in
      let found : kept_for H h ≡ Some copy.0 = kept-found H copy.0 h (legal-bound H legal) copy.1 in
      let known = copy-known H inv copy.0 (λ e. let never : ⊥ = cc in never) in
      routed-kept (route H (unwrap_or (kept_for H h) 0) (goal_of H h))
      (subst (λ y. PlaceIn (route H (unwrap_or y 0) (goal_of H h))) (sym found) (handed_in copy.0 (goal_of H h) known.0 known.1))

  missed-kept : (c : ℕ) (at : Place) → IsKept (missed H (grace_of H) c at)
  missed-kept c (Loan l) = (omega (arith, fine-le l), omega (arith, price-le c))
  missed-kept c _ = tt

  due-kept : (o : Owner) (p c b : ℕ) → refusal H o (CheckOut p c b) ≡ None → IsDayNumber (unwrap_or (first_due H p c b) 0)
  due-kept o p c b ok =
      let d = first_due-is H o p c b (legal-CalendarLaws H legal whole) ok in
      subst (λ y. IsDayNumber (unwrap_or y 0)) (sym d.1) (least-in H b due_from d.0 (least-IsLeast (is_open H b) due_from d.0 d.1))
    where
      due_from : ℕ
      due_from = today H + (unwrap_or (terms_for H p c) no_terms).period

  renewed-kept : (l d : ℕ) (y : Option LoanFacts) → is_none (option_and_then (λ r. least (is_open H r.branch) (d + r.terms.period)) y) ≡ false
      → IsDayNumber (unwrap_or (option_and_then (λ r. least (is_open H r.branch) (d + r.terms.period)) y) 0)
  renewed-kept l d (Some r) e = go (least (is_open H r.branch) (d + r.terms.period)) refl e
    where
      go : (z : Option ℕ) → least (is_open H r.branch) (d + r.terms.period) ≡ z → is_none z ≡ false → IsDayNumber (unwrap_or z 0)
      go (Some day) f g = least-in H r.branch (d + r.terms.period) day (least-IsLeast (is_open H r.branch) (d + r.terms.period) day f)
      go None f g = let never : ⊥ = cc in absurd never
  renewed-kept l d None e = let never : ⊥ = cc in absurd never

  loan-number : (l : ℕ) → is_some (loan_of H l) ≡ true → IsNumber l
  loan-number l e =
      let r = there (loan_of H l) e in
      let made = inv.made_loan l r.0 r.1 in
      omega (arith, made.1, inv.loans_left)

  -- The reply to a command that changes something can be kept.
  pub accepted-kept : (o : Owner) (x : Command) → refusal H o x ≡ None → only_asks x ≡ false → IsKept (accepted H x)
  accepted-kept o (CheckOut p c b) ok changes =
      let room : loans H < LAST_NUMBER = leb-false _ _ (passed (checks H o (CheckOut p c b)) ok check.NumbersUsedUp) in
      (omega (arith, room), due-kept o p c b ok)
  accepted-kept o (CheckIn c b) ok changes =
      let copy = there (copy_of H c) (not-false _ (passed (checks H o (CheckIn c b)) ok check.UnknownCopy)) in
      (omega (arith, fine_at-le (place H c)), routed-kept (route H c b) (handed_in c b copy.0 copy.1))
  accepted-kept o (Renew l) ok changes =
      let pass = passed (checks H o (Renew l)) ok in (
        loan-number l (and_parts (is_some (loan_of H l)) (is_own H o (borrower H l)) (not-false _ (pass check.UnknownLoan))).0,
        renewed-kept l (due H l) (loan_of H l) (pass check.PastCalendar),
      )
  accepted-kept o (PlaceHold p t b d) ok changes =
      let room : holds H < LAST_NUMBER = leb-false _ _ (passed (checks H o (PlaceHold p t b d)) ok check.NumbersUsedUp) in
      omega (arith, room)
  accepted-kept o (Unshelve h) ok changes = unshelved-kept h (not-false _ (passed (checks H o (Unshelve h)) ok check.WrongHoldState))
  accepted-kept o (UnshelveCancelled h) ok changes = unshelved-kept h (not-false _ (passed (checks H o (UnshelveCancelled h)) ok check.WrongHoldState))
  accepted-kept o (Missing c) ok changes = missed-kept c (place H c)
  accepted-kept o (Pay p n) ok changes = omega (arith, owed-le p)
  accepted-kept o (Waive p n) ok changes = omega (arith, owed-le p)
  accepted-kept o (PayAt p n b) ok changes = omega (arith, owed-le p)
  accepted-kept o (Charge p n b text) ok changes =
      let pass = charging H o (Charge p n b text) p n (record { branch = b; text = Some text }) ok refl in
      omega (arith, owed-le p, pass.amount)
  accepted-kept o (Page p) ok changes = let never : ⊥ = cc in absurd never
  accepted-kept o (Ask question) ok changes = let never : ⊥ = cc in absurd never
  accepted-kept o _ ok changes = tt

  owner-in : (o : Owner) → IsTrue (is_enrolled H o) → IsOwner o
  owner-in Desk e = tt
  owner-in (Reader p) e = let patron = there (patron_of H p) e in (settings.patrons p patron.0 patron.1).0

-- ---- every legal history

pub legal-lines : (H : History) → IsLegal H → HasForms H → AreIn (lines H)
legal-lines [] legal forms = tt
legal-lines (e ∷ H) legal forms = lines-step H legal.1 forms.2 e.owner e.command (posting e.command) refl legal.0.unrefused (legal-lines H legal.1 forms.2)

-- What is kept for an owner's key.
abbrev KeptIn : Owner → List ℕ → Kept → Type 0
KeptIn o k x = IsOwner o × IsKey k × IsUtf8 x.text × IsKept x.reply

pub legal-kept : (H : History) → IsLegal H → HasForms H → (o : Owner) (k : List ℕ) (x : Kept) → kept_of H o k ≡ Some x → KeptIn o k x
legal-kept [] legal forms o k x e = absurd (none-some x e)
legal-kept (v ∷ H) legal forms o k x e = go (same_owner v.owner o && bytes_eq v.key k) refl (legal-kept H legal.1 forms.2 o k x) e
  where
    kept : Kept
    kept = record { text = request_text v.command; reply = accepted H v.command }

    now : KeptIn v.owner v.key kept
    now = (
      owner-in H legal.1 forms.2 v.owner legal.0.enrolled,
      forms.1,
      request_text-IsUtf8 v.command forms.0,
      accepted-kept H legal.1 forms.2 v.owner v.command legal.0.unrefused legal.0.changes,
    )

    go : (b : Bool) → (same_owner v.owner o && bytes_eq v.key k) ≡ b → (kept_of H o k ≡ Some x → KeptIn o k x)
        → (elim b as (λ _. Option Kept) [ true ↦ Some kept | false ↦ kept_of H o k ]) ≡ Some x → KeptIn o k x
    go true d before f =
        let parts = and_parts (same_owner v.owner o) (bytes_eq v.key k) d in
        let owner : v.owner ≡ o = same_owner-is v.owner o parts.0 in
        let key : v.key ≡ k = (bytes_eq-Decides v.key k).0 parts.1 in
        subst (KeptIn o k) (some-same kept x f) (subst (λ j. KeptIn o j kept) key (subst (λ w. KeptIn w v.key kept) owner now))
    go false d before f = before f
