-- Tables of checks, and the limits of numbers.
use Rattle.std.specs.Prelude.{ℕ, nat_le, Bool, true, false, ◌&&◌, List, [], ◌∷◌, Option, Some, None}
use Rattle.terms.specs.declared.limits.TheConstants.{LAST_SMALL_NUMBER, LAST_LARGE_NUMBER, LONGEST_PERIOD, LONGEST_PICKUP, MOST_RENEWALS}
use Rattle.terms.specs.declared.limits.TheConstants.{MOST_GRACE, MOST_ALLOWED, HIGHEST_RATE, HIGHEST_CAP, HIGHEST_PRICE, HIGHEST_DEBT, HIGHEST_CHARGE}
use Rattle.terms.specs.declared.refusal.Refusal.{Refusal}
use Rattle.terms.specs.declared.command.Command.{Command}
use Rattle.terms.specs.declared.command.Command.TheVariants.{Branch, Kind, Rule, Grace, Patron, Acquire, AmendPatron, AmendBranch, AmendCopy, Charge}

-- A check: the refusal, and whether the check fails.
abbrev pub Check : Type 0
Check = Refusal × Bool

-- The refusal of the first check that fails.
abbrev pub first_failing : List Check → Option Refusal
first_failing [] = None
first_failing (k ∷ ks) = elim k.1 [ true ↦ Some k.0 | false ↦ first_failing ks ]

-- The number is from low to high, both included.
abbrev pub is_within : ℕ → ℕ → ℕ → Bool
is_within low high n = nat_le low n && nat_le n high

-- A branch, a patron kind or a copy kind.
abbrev pub is_small_number : ℕ → Bool
is_small_number n = is_within 1 LAST_SMALL_NUMBER n

-- A patron, a title or a copy.
abbrev pub is_large_number : ℕ → Bool
is_large_number n = is_within 1 LAST_LARGE_NUMBER n

-- Each limited number of the command is within its limits.
abbrev pub is_within_limits : Command → Bool
is_within_limits (Branch branch pickup name) = is_small_number branch && is_within 0 LONGEST_PICKUP pickup
is_within_limits (Kind kind loans holds debt) =
    is_small_number kind && (is_within 0 MOST_ALLOWED loans && (is_within 0 MOST_ALLOWED holds && is_within 0 HIGHEST_DEBT debt))
is_within_limits (Rule kind copy_kind period renewals rate cap) =
    is_small_number kind && (is_small_number copy_kind
    && (is_within 1 LONGEST_PERIOD period
    && (is_within 0 MOST_RENEWALS renewals && (is_within 0 HIGHEST_RATE rate && is_within 0 HIGHEST_CAP cap))))
is_within_limits (Grace kind copy_kind days) = is_small_number kind && (is_small_number copy_kind && is_within 0 MOST_GRACE days)
is_within_limits (Patron patron kind card_key name) = is_large_number patron && is_small_number kind
is_within_limits (Acquire copy title kind home price text) =
    is_large_number copy && (is_large_number title && (is_small_number kind && is_within 0 HIGHEST_PRICE price))
is_within_limits (AmendPatron patron kind name) = is_small_number kind
is_within_limits (AmendBranch branch pickup name) = is_small_number branch && is_within 0 LONGEST_PICKUP pickup
is_within_limits (AmendCopy copy kind price) = is_small_number kind && is_within 0 HIGHEST_PRICE price
is_within_limits (Charge patron amount branch text) = is_within 0 HIGHEST_CHARGE amount
is_within_limits _ = true
