use Rattle.std.proofs.Common.{ap, ◌∙◌, ◌≡◌, ◌≢◌, ℕ, Option, Some, None, arith, sym, subst, List}
use Rattle.std.specs.Prelude.{IfSome, IfNone}
use Rattle.std.specs.Option.{SomeIff}
use Rattle.calendar.specs.Days.{IsDateOf, IsDayNumber, day_text}
use Rattle.calendar.proofs.DayLemmas.{IsDateOf-day_text, date-is_day_text, IsDateOf-unique}
use Rattle.calendar.proofs.day.Day.read.Goals as goal

read_some : (r : Option ℕ) (t : List ℕ) (k : ℕ) → SomeIff r (IsDayNumber k) k → IsDateOf t k → IfSome r (λ d. t ≡ day_text d)
read_some None t k h d = tt
read_some (Some x) t k h d = rw h.1 (date-is_day_text t k (omega (arith, h.0)) d)

read_none : (r : Option ℕ) (t : List ℕ) (k : ℕ) → SomeIff r (IsDayNumber k) k → IsDateOf t k → IfNone r ((n : ℕ) → IsDayNumber n → t ≢ day_text n)
read_none (Some x) t k h d = tt
read_none None t k h d = λ n in_range e.
    let same = IsDateOf-unique t k n d (subst (λ (u : List ℕ). IsDateOf u n) (sym e) (IsDateOf-day_text n (omega (arith, in_range)))) in
    h (subst IsDayNumber (sym same) in_range)

written : (t : List ℕ) (n : ℕ) → IsDayNumber n → t ≡ day_text n → IsDateOf t n
written t n in_range e = subst (λ (u : List ℕ). IsDateOf u n) (sym e) (IsDateOf-day_text n (omega (arith, in_range)))

pub returns-in_default-clause-none : goal.returns-in_default-clause-none
returns-in_default-clause-none c = λ n in_range e. c.in_default.ensures.none n (written _ n in_range e)

pub returns-clause-some : goal.returns-clause-some
returns-clause-some c = read_some _ c.args.text.now _ c.new.ensures c.in-Some.ensures.some

pub returns-clause-none : goal.returns-clause-none
returns-clause-none c = read_none _ c.args.text.now _ c.new.ensures c.in-Some.ensures.some

read_date : (r : Option ℕ) (t : List ℕ) (k : ℕ) → SomeIff r (IsDayNumber k) k → IsDateOf t k → IfSome r (IsDateOf t)
read_date None t k h d = tt
read_date (Some x) t k h d = rw h.1 d

read_dates : (r : Option ℕ) (t : List ℕ) (k : ℕ) → SomeIff r (IsDayNumber k) k → IsDateOf t k → (n : ℕ) → IsDayNumber n → IsDateOf t n → r ≡ Some n
read_dates None t k h d n in_range e = absurd (h (subst IsDayNumber (IsDateOf-unique t n k e d) in_range))
read_dates (Some x) t k h d n in_range e = ap Some (h.1 ∙ IsDateOf-unique t k n d e)

pub returns-in_default-clause-text_of_a_day : goal.returns-in_default-clause-text_of_a_day
returns-in_default-clause-text_of_a_day c = λ n in_range e. absurd (c.in_default.ensures.none n (written _ n in_range e))

pub returns-in_default-clause-date_of_a_day : goal.returns-in_default-clause-date_of_a_day
returns-in_default-clause-date_of_a_day c = λ n in_range e. absurd (c.in_default.ensures.none n e)

pub returns-clause-text_of_a_day : goal.returns-clause-text_of_a_day
returns-clause-text_of_a_day c = λ n in_range e. read_dates _ c.args.text.now _ c.new.ensures c.in-Some.ensures.some n in_range (written _ n in_range e)

pub returns-clause-date : goal.returns-clause-date
returns-clause-date c = read_date _ c.args.text.now _ c.new.ensures c.in-Some.ensures.some

pub returns-clause-date_of_a_day : goal.returns-clause-date_of_a_day
returns-clause-date_of_a_day c = read_dates _ c.args.text.now _ c.new.ensures c.in-Some.ensures.some
