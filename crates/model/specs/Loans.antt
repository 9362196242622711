-- Loans: who has what, and until when.
use Rattle.std.specs.Prelude.{ℕ, ◌+◌, ◌-◌, ◌==◌, Bool, true, false, ◌&&◌, if◌then◌else◌, List, [], ◌∷◌, filter, Option, Some, None, is_some}
use Rattle.std.specs.Prelude.{is_none, option_map, option_and_then, unwrap_or}
use Rattle.std.specs.Option.{option_or}
use Rattle.std.specs.List.{list_any}
use Rattle.terms.specs.declared.command.Command.{Command}
use Rattle.terms.specs.declared.command.Command.TheVariants.{CheckOut, CheckIn, Renew, Missing}
use Rattle.model.specs.Calendar.{least}
use Rattle.model.specs.History.{History, numbers_to, today, is_open, Terms, rule_of, patron_of, copy_of, loans, next_loan}
use Rattle.model.specs.Places.{title_of_copy}

-- What a check-out fixed permanently: copy, patron, lending branch, day and terms.
pub record LoanFacts : Type 0 where
  pub copy : ℕ
  pub patron : ℕ
  pub branch : ℕ
  pub made : ℕ
  pub terms : Terms

-- The rule for the kinds of the patron and the copy.
abbrev pub terms_for : History → ℕ → ℕ → Option Terms
terms_for H p c = option_and_then (λ q. option_and_then (λ r. rule_of H q.kind r.kind) (copy_of H c)) (patron_of H p)

-- The terms if there is no rule. No check-out is accepted on them.
abbrev pub no_terms : Terms
no_terms = record { period = 0; renewals = 0; rate = 0; cap = 0; grace = 0 }

-- A check-out makes the loan with the next number, on its rule's terms.
abbrev pub loan_after : History → Command → ℕ → Option LoanFacts → Option LoanFacts
loan_after H (CheckOut p c b) l before =
    if next_loan H == l then Some (record { copy = c; patron = p; branch = b; made = today H; terms = unwrap_or (terms_for H p c) no_terms }) else before
loan_after H _ l before = before

-- The n-th check-out makes loan n.
abbrev pub loan_of : History → ℕ → Option LoanFacts
loan_of [] l = None
loan_of (e ∷ H) l = loan_after H e.command l (loan_of H l)

-- The grace days of a loan: those of its terms.
abbrev pub grace_of : History → ℕ → ℕ
grace_of H l = unwrap_or (option_map (λ r. r.terms.grace) (loan_of H l)) 0

-- The loan is of this copy.
abbrev pub is_loan_of_copy : History → ℕ → ℕ → Bool
is_loan_of_copy H l c = unwrap_or (option_map (λ r. r.copy == c) (loan_of H l)) false

-- A check-in or missing of its copy ends a loan that is open.
abbrev pub ended_after : History → Command → ℕ → Option ℕ → Option ℕ
ended_after H (CheckIn c b) l before = option_or before (if is_loan_of_copy H l c then Some (today H) else None)
ended_after H (Missing c) l before = option_or before (if is_loan_of_copy H l c then Some (today H) else None)
ended_after H _ l before = before

-- The day a loan ended: that of the first check-in or missing of its copy after it.
abbrev pub ended : History → ℕ → Option ℕ
ended [] l = None
ended (e ∷ H) l = ended_after H e.command l (ended H l)

-- A loan is open until it ends.
abbrev pub is_open_loan : History → ℕ → Bool
is_open_loan H l = is_some (loan_of H l) && is_none (ended H l)

-- The title of a loan's copy.
abbrev pub title_of_loan : History → ℕ → ℕ
title_of_loan H l = unwrap_or (option_map (λ r. title_of_copy H r.copy) (loan_of H l)) 0

-- The due day of a loan made now: the least open day of the lending branch from the end of the period.
abbrev pub first_due : History → ℕ → ℕ → ℕ → Option ℕ
first_due H p c b = least (is_open H b) (today H + (unwrap_or (terms_for H p c) no_terms).period)

-- The due day that a renewal now would set, counting from the old one.
abbrev pub renewed_due : History → ℕ → ℕ → Option ℕ
renewed_due H l due = option_and_then (λ r. least (is_open H r.branch) (due + r.terms.period)) (loan_of H l)

-- A check-out sets its loan's due day; a renewal sets it anew.
abbrev pub due_after : History → Command → ℕ → ℕ → ℕ
due_after H (CheckOut p c b) l before = elim (next_loan H == l) [ true ↦ unwrap_or (first_due H p c b) 0 | false ↦ before ]
due_after H (Renew n) l before = elim (n == l) [ true ↦ unwrap_or (renewed_due H l before) before | false ↦ before ]
due_after H _ l before = before

-- The due day of a loan, as set at check-out or by the last renewal.
abbrev pub due : History → ℕ → ℕ
due [] l = 0
due (e ∷ H) l = due_after H e.command l (due H l)

-- A renewal counts for its loan.
abbrev pub renewals_after : Command → ℕ → ℕ → ℕ
renewals_after (Renew n) l before = if n == l then before + 1 else before
renewals_after _ l before = before

-- How often a loan was renewed.
abbrev pub renewals : History → ℕ → ℕ
renewals [] l = 0
renewals (e ∷ H) l = renewals_after e.command l (renewals H l)

-- How often it may still be renewed.
abbrev pub renewals_left : History → ℕ → ℕ
renewals_left H l = unwrap_or (option_map (λ r. r.terms.renewals) (loan_of H l)) 0 - renewals H l

-- The loan is this patron's.
abbrev pub is_loan_of_patron : History → ℕ → ℕ → Bool
is_loan_of_patron H p l = unwrap_or (option_map (λ r. r.patron == p) (loan_of H l)) false

-- The open loans of a patron, by number.
abbrev pub open_loans : History → ℕ → List ℕ
open_loans H p = filter (λ l. is_loan_of_patron H p l && is_open_loan H l) (numbers_to (loans H))

-- Whether the patron has an open loan of the title.
abbrev pub has_on_loan : History → ℕ → ℕ → Bool
has_on_loan H p t = list_any (λ l. title_of_loan H l == t) (open_loans H p)
