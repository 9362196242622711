-- Numbers, looked at span by span.
use Rattle.std.specs.Prelude.{◌≡◌, ◌==◌, ◌||◌, ℕ, ◌+◌, ◌/◌, ◌%◌, ◌^◌, ◌<◌, ◌≤◌, nat_lt, not, Bool, true, List, All, Option, Some, None, IfSome, sum_by}
use Rattle.std.specs.Prelude.{slice_index, if◌then◌else◌}
use Rattle.terms.specs.declared.row.PatronRow.{PatronRow}
use Rattle.terms.specs.declared.row.LineRow.{LineRow}
use Rattle.circ_audit.specs.declared.spans.SpanLook.{SpanLook}
use Rattle.circ_audit.specs.declared.counters.SpanCounters.{SpanCounters}
use Rattle.circ_audit.specs.declared.balance.Totals.{Totals}
use Rattle.circ_audit.specs.Sound.{FailsFirst}

-- The span of a number.
abbrev pub span_of : ℕ → ℕ
span_of n = n / 65536

-- The place of a number in its span.
abbrev pub place_of : ℕ → ℕ
place_of n = n % 65536

-- The number comes after the other, which may be missing.
abbrev pub is_after : Option ℕ → ℕ → Bool
is_after (Some m) n = nat_lt m n
is_after None n = true

-- The law holds for the number if that comes after the other.
abbrev pub HoldsAfter : Option ℕ → (ℕ → Type 0) → ℕ → Type 0
HoldsAfter after Law n = is_after after n ≡ true → Law n

-- The law holds for every number after the other, or this is the lowest of them for which it fails.
abbrev pub FailsAfter : Option ℕ → (ℕ → Type 0) → Option ℕ → Type 0
FailsAfter after Law found = FailsFirst (HoldsAfter after Law) found

-- What is said of the number is right, or it doesn't come after the other.
abbrev pub is_passed : Option ℕ → ℕ → Bool → Bool
is_passed after n right = right || not (is_after after n)

-- The span of the lowest number after the other, or the one before.
abbrev pub first_span : Option ℕ → ℕ
first_span (Some n) = span_of n
first_span None = 0

-- The lower of two numbers, the first of which may be missing.
abbrev pub lesser_of : Option ℕ → ℕ → ℕ
lesser_of (Some m) n = if nat_lt n m then n else m
lesser_of None n = n

-- The lowest number that breaks a law, after one more for which the law holds or fails.
abbrev pub first_after : Bool → ℕ → Option ℕ → Option ℕ
first_after right n first = if right then first else Some (lesser_of first n)

-- The same after a row that may name a number.
abbrev pub first_named : (ℕ → Bool) → Option ℕ → Option ℕ → Option ℕ
first_named right (Some n) first = first_after (right n) n first
first_named right None first = first

-- The lower of two numbers, each of which may be missing.
abbrev pub earlier_of : Option ℕ → Option ℕ → Option ℕ
earlier_of first (Some n) = Some (lesser_of first n)
earlier_of first None = first

-- The number is below the other, or there is no other.
abbrev pub IsBelow : ℕ → Option ℕ → Type 0
IsBelow n (Some m) = n < m
IsBelow n None = Unit {0}

-- The law holds for all numbers of the span, or this is the lowest for which it fails.
abbrev pub FailsOn : (ℕ → Type 0) → ℕ → Option ℕ → Type 0
FailsOn Law span found = FailsFirst (λ n. span_of n ≡ span → Law n) found

-- A span was looked at.
pub record LooksAt (Law : ℕ → Type 0) (span : ℕ) (look : SpanLook) : Type 0 where
  -- the lowest of its numbers that breaks the law was found, or there is none
  pub broken : FailsOn Law span look.broken
  -- the next number is in a later span
  pub ahead : IfSome look.next (λ n. span < span_of n)
  -- the law holds for all numbers of later spans before it
  pub between : (n : ℕ) → span < span_of n → IsBelow n look.next → Law n

-- A counter stops at two.
abbrev pub capped : ℕ → ℕ
capped n = if nat_lt n 2 then n else 2

-- A span's counters show how often each number was counted.
pub record ShowsCounts (w : SpanCounters) (times : ℕ → ℕ) : Type 0 where
  -- each number of the span by its own counter
  pub here : (n : ℕ) → span_of n ≡ w.span → slice_index w.counters (place_of n) ≡ capped (times n)
  -- the next number is in a later span
  pub ahead : IfSome w.next (λ n. w.span < span_of n)
  -- no number of later spans before it was counted
  pub between : (n : ℕ) → w.span < span_of n → IsBelow n w.next → times n ≡ 0

-- Each number was counted this many more times.
pub record CountsMore (more : ℕ → ℕ) (old new : SpanCounters) : Type 0 where
  pub span : new.span ≡ old.span
  pub shows : (times : ℕ → ℕ) → ShowsCounts old times → ShowsCounts new (λ n. times n + more n)

-- A span's totals are those of its numbers.
abbrev pub Sums : Totals → (ℕ → ℕ) → Type 0
Sums w sum = (n : ℕ) → span_of n ≡ w.span → slice_index w.sums (place_of n) ≡ sum n

-- No total of the span is above this.
abbrev pub AreWithin : ℕ → Totals → Type 0
AreWithin most w = (k : ℕ) → slice_index w.sums k ≤ most

-- This was added to each number's total, and no more than an amount can be.
pub record Adds (more : ℕ → ℕ) (old new : Totals) : Type 0 where
  pub span : new.span ≡ old.span
  pub sums : (sum : ℕ → ℕ) → Sums old sum → Sums new (λ n. sum n + more n)
  pub within : (most : ℕ) → AreWithin most old → AreWithin (most + 2 ^ 64) new

-- The rows were added to totals, each with its amount for each number.
pub record AddsRows (amount : LineRow → ℕ → ℕ) (rows : List LineRow) (old new : Totals)
    : Type 0 where
  pub span : new.span ≡ old.span
  pub sums : (sum : ℕ → ℕ) → Sums old sum → Sums new (λ n. sum n + sum_by (λ r. amount r n) rows)

-- The lowest wrong number of the span, after one more, which is right or wrong.
abbrev pub broken_after : ℕ → Bool → ℕ → Option ℕ → Option ℕ
broken_after span right n first =
    if span_of n == span then first_after right n first else first

-- The lowest number of later spans, after one more.
abbrev pub next_after : ℕ → ℕ → Option ℕ → Option ℕ
next_after span n first = if nat_lt span (span_of n) then Some (lesser_of first n) else first

-- The patron's account is right by the totals of charges and credits.
abbrev pub is_right : PatronRow → Totals → Totals → Bool
is_right r charges credits =
    r.owed + slice_index credits.sums (place_of r.patron)
    == slice_index charges.sums (place_of r.patron)

-- The rows of patrons after the other were looked at, with totals that are these sums.
abbrev pub LooksAtRows : Option ℕ → List PatronRow → Totals → Totals → SpanLook → Type 0
LooksAtRows after rows charges credits look =
    (charged credited : ℕ → ℕ) → Sums charges charged → Sums credits credited
    → credits.span ≡ charges.span
    → LooksAt (λ n. All (λ r. r.patron ≡ n → is_after after r.patron ≡ true → r.owed + credited n ≡ charged n) rows)
    charges.span look
