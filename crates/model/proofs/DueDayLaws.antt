-- In every legal history a check-out has a due day, a hold that becomes ready a shelf limit, and each due day
-- is as its period ends.
use Rattle.std.proofs.Common.{◌≡◌, ℕ, ◌+◌, ◌≤◌, ◌==◌, Bool, true, false, cond, [], ◌∷◌, refl, sym, ap, ◌∙◌, subst, arith}
use Rattle.std.specs.Prelude.{Option, Some, None, is_some, is_none, option_map, option_and_then, unwrap_or}
use Rattle.std.proofs.lemmas.Bool.{eqb-true}
use Rattle.terms.specs.declared.command.Owner.{Owner}
use Rattle.terms.specs.declared.command.Command.{Command}
use Rattle.terms.specs.declared.command.Command.TheVariants.{CheckOut, Renew}
use Rattle.terms.specs.declared.refusal.Refusal.TheVariants as check
use Rattle.model.specs.Calendar.{least, IsLeast}
use Rattle.model.specs.History.{History, today, is_open, week_of, singles_of, BranchFacts, branch_of, Terms, rule_of, PatronFacts}
use Rattle.model.specs.History.{patron_of, CopyFacts, copy_of, next_loan}
use Rattle.model.specs.Places.{goal_of, limit_now}
use Rattle.model.specs.Loans.{LoanFacts, loan_of, loan_after, due, due_after, terms_for, no_terms, first_due, renewed_due}
use Rattle.model.specs.Refusals.{refusal, checks}
use Rattle.model.specs.Requests.{IsLegal}
use Rattle.model.specs.DueDays.{HasWholeWeeks, IsDue, sets_due, period_end}
use Rattle.model.proofs.Least.{least-IsLeast}
use Rattle.model.proofs.Passing.{passed}
use Rattle.model.proofs.OpenDays.{open-exists}
use Rattle.model.proofs.SettingLaws.{SettingLaws, CalendarLaws, legal-CalendarLaws}

-- From a day that isn't long after today there is an open day.
open-soon : (H : History) (b more : ℕ) → CalendarLaws H → more ≤ 365 → (e : ℕ) × (least (is_open H b) (today H + more) ≡ Some e)
open-soon H b more inv short =
    let w = inv.weekdays b in
    open-exists (week_of H b) (singles_of H b) w.0 (today H + more) w.1 w.2 (inv.settings.few_singles b)
    (omega (arith, inv.settings.today_from)) (omega (arith, inv.settings.today_to, short))

none-not : {A : Type 0} (o : Option A) → is_none o ≡ false → (x : A) × (o ≡ Some x)
none-not (Some x) e = (x, refl)
none-not None e = let never : ⊥ = cc in absurd never

-- The terms of a check-out are those of a rule.
pub rule-of_terms : (H : History) (settings : SettingLaws H) (p c : ℕ) (t : Terms) → terms_for H p c ≡ Some t → (t.period ≤ 365) × (t.cap ≤ 100000)
rule-of_terms H settings p c t e = go (patron_of H p) (copy_of H c) e
  where
    go : (x : Option PatronFacts) (y : Option CopyFacts)
        → option_and_then (λ q. option_and_then (λ r. rule_of H q.kind r.kind) y) x ≡ Some t → (t.period ≤ 365) × (t.cap ≤ 100000)
    go (Some q) (Some r) f = settings.terms q.kind r.kind t f
    go (Some q) None f = let never : ⊥ = cc in absurd never
    go None y f = let never : ⊥ = cc in absurd never

pub checked_out-terms : (H : History) (o : Owner) (p c b : ℕ) → refusal H o (CheckOut p c b) ≡ None → (t : Terms) × (terms_for H p c ≡ Some t)
checked_out-terms H o p c b ok = none-not _ (passed (checks H o (CheckOut p c b)) ok check.NoRule)

pub first_due-is : (H : History) (o : Owner) (p c b : ℕ) → CalendarLaws H → refusal H o (CheckOut p c b) ≡ None → (e : ℕ) × (first_due H p c b ≡ Some e)
first_due-is H o p c b inv ok =
    let t : (t : Terms) × (terms_for H p c ≡ Some t) = checked_out-terms H o p c b ok in
    let short : (unwrap_or (terms_for H p c) no_terms).period ≤ 365 = rw t.1 (rule-of_terms H inv.settings p c t.0 t.1).0 in
    open-soon H b (unwrap_or (terms_for H p c) no_terms).period inv short

some-of : {A : Type 0} (o : Option A) (x : A) → o ≡ Some x → is_some o ≡ true
some-of o x e = ap is_some e

pub due-exists : (H : History) (o : Owner) (p c b : ℕ) → IsLegal H → HasWholeWeeks H → refusal H o (CheckOut p c b) ≡ None → is_some (first_due H p c b) ≡ true
due-exists H o p c b legal whole ok =
    let d : (e : ℕ) × (first_due H p c b ≡ Some e) = first_due-is H o p c b (legal-CalendarLaws H legal whole) ok in
    some-of (first_due H p c b) d.0 d.1

pickup-short : (H : History) (inv : CalendarLaws H) (b : ℕ) → unwrap_or (option_map (λ r. r.pickup) (branch_of H b)) 0 ≤ 365
pickup-short H inv b = go (branch_of H b) refl
  where
    go : (y : Option BranchFacts) → branch_of H b ≡ y → unwrap_or (option_map (λ r. r.pickup) y) 0 ≤ 365
    go (Some r) e = omega (arith, inv.settings.pickups b r e)
    go None e = omega arith

pub limit_now-is : (H : History) (h : ℕ) → CalendarLaws H → (e : ℕ) × (limit_now H h ≡ Some e)
limit_now-is H h inv = open-soon H (goal_of H h) (unwrap_or (option_map (λ r. r.pickup) (branch_of H (goal_of H h))) 0) inv (pickup-short H inv (goal_of H h))

pub limit-exists : (H : History) (h : ℕ) → IsLegal H → HasWholeWeeks H → is_some (limit_now H h) ≡ true
limit-exists H h legal whole =
    let d : (e : ℕ) × (limit_now H h ≡ Some e) = limit_now-is H h (legal-CalendarLaws H legal whole) in
    some-of (limit_now H h) d.0 d.1

-- ---- due days

-- The due day after an event, if it sets it, and if it doesn't.
abbrev DueAfter : History → Command → ℕ → LoanFacts → ℕ → Type 0
DueAfter H x l r d = elim (sets_due H x l) [ true ↦ IsLeast (is_open H r.branch) (period_end H x l r) d | false ↦ IsDue H l r d ]

check_out-due : (H : History) (o : Owner) (p c b l : ℕ) (r : LoanFacts) → CalendarLaws H → refusal H o (CheckOut p c b) ≡ None
    → ((q : LoanFacts) → loan_of H l ≡ Some q → IsDue H l q (due H l)) → loan_after H (CheckOut p c b) l (loan_of H l) ≡ Some r
    → DueAfter H (CheckOut p c b) l r (due_after H (CheckOut p c b) l (due H l))
check_out-due H o p c b l r inv ok before e = go (next_loan H == l) e
  where
    facts : LoanFacts
    facts = record { copy = c; patron = p; branch = b; made = today H; terms = unwrap_or (terms_for H p c) no_terms }

    first : (e : ℕ) × (first_due H p c b ≡ Some e)
    first = first_due-is H o p c b inv ok

    set : IsLeast (is_open H b) (today H + (unwrap_or (terms_for H p c) no_terms).period) (unwrap_or (first_due H p c b) 0)
    set = subst (λ x. IsLeast (is_open H b) (today H + (unwrap_or (terms_for H p c) no_terms).period) (unwrap_or x 0)) (sym first.1)
        (least-IsLeast (is_open H b) (today H + (unwrap_or (terms_for H p c) no_terms).period) first.0 first.1)

    go : (x : Bool) → cond x (Some
        (record { copy = c; patron = p; branch = b; made = today H; terms = unwrap_or (terms_for H p c) no_terms })) (loan_of H l) ≡ Some r
        → elim x as (λ _. Type 0) [
          | true ↦ IsLeast (is_open H r.branch) (today H + r.terms.period) (elim x as (λ _. ℕ) [ true ↦ unwrap_or (first_due H p c b) 0 | false ↦ due H l ])
          | false ↦ IsDue H l r (elim x as (λ _. ℕ) [ true ↦ unwrap_or (first_due H p c b) 0 | false ↦ due H l ])
        ]
    go true f =
        let same : ◌≡◌ {A = LoanFacts} (record { copy = c; patron = p; branch = b; made = today H; terms = unwrap_or (terms_for H p c) no_terms }) r = cc in
        subst (λ q. IsLeast (is_open H q.branch) (today H + q.terms.period) (unwrap_or (first_due H p c b) 0)) same set
    go false f = before r f

renewed-is : (H : History) (l d : ℕ) (r : LoanFacts) → loan_of H l ≡ Some r → is_none (renewed_due H l d) ≡ false
    → IsLeast (is_open H r.branch) (d + r.terms.period) (unwrap_or (renewed_due H l d) d)
renewed-is H l d r e there =
    let is : renewed_due H l d ≡ least (is_open H r.branch) (d + r.terms.period) =
    ap (option_and_then (λ q. least (is_open H q.branch) (d + q.terms.period))) e in
    let found : (x : ℕ) × (renewed_due H l d ≡ Some x) = none-not _ there in
    subst (λ x. IsLeast (is_open H r.branch) (d + r.terms.period) (unwrap_or x d)) (sym found.1)
    (least-IsLeast (is_open H r.branch) (d + r.terms.period) found.0 (sym is ∙ found.1))

renew-due : (H : History) (o : Owner) (n l : ℕ) (r : LoanFacts) → refusal H o (Renew n) ≡ None → loan_of H l ≡ Some r → IsDue H l r (due H l)
    → DueAfter H (Renew n) l r (due_after H (Renew n) l (due H l))
renew-due H o n l r ok e before = go (n == l) refl
  where
    there : is_none (renewed_due H n (due H n)) ≡ false
    there = (passed (checks H o (Renew n)) ok check.PastCalendar)

    go : (x : Bool) → (n == l) ≡ x
        → elim x as (λ _. Type 0) [
          | true ↦ IsLeast (is_open H r.branch) (due H l + r.terms.period)
              (elim x as (λ _. ℕ) [ true ↦ unwrap_or (renewed_due H l (due H l)) (due H l) | false ↦ due H l ])
          | false ↦ IsDue H l r (elim x as (λ _. ℕ) [ true ↦ unwrap_or (renewed_due H l (due H l)) (due H l) | false ↦ due H l ])
        ]
    go true same = renewed-is H l (due H l) r e (subst (λ m. is_none (renewed_due H m (due H m)) ≡ false) (eqb-true n l same) there)
    go false other = before

due-step : (H : History) (o : Owner) (l : ℕ) (r : LoanFacts) (x : Command) → CalendarLaws H → refusal H o x ≡ None
    → ((q : LoanFacts) → loan_of H l ≡ Some q → IsDue H l q (due H l)) → loan_after H x l (loan_of H l) ≡ Some r → DueAfter H x l r (due_after H x l (due H l))
due-step H o l r (CheckOut p c b) inv ok before e = check_out-due H o p c b l r inv ok before e
due-step H o l r (Renew n) inv ok before e = renew-due H o n l r ok e (before r e)
due-step H o l r _ inv ok before e = before r e

-- Every due day is the least open day from the end of its period.
pub due-is : (H : History) (l : ℕ) (r : LoanFacts) → IsLegal H → HasWholeWeeks H → loan_of H l ≡ Some r → IsDue H l r (due H l)
due-is [] l r legal whole e = let never : ⊥ = cc in absurd never
due-is (e ∷ H) l r legal whole made =
    due-step H e.owner l r e.command (legal-CalendarLaws H legal.1 whole.1) legal.0.unrefused
    (λ q was. due-is H l q legal.1 whole.1 was) made
