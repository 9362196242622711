-- The checks and row changes of `close-day` and `open-day`, on the rows of a view.
use Rattle.calendar.specs.declared.limits.TheConstants.{MOST_CLOSED_DAYS}
use Rattle.std.specs.Prelude.{ℕ, nat_le, not, Bool, false, List, [], ◌∷◌, length, Option, Some, None, is_none}
use Rattle.calendar.specs.Openings.{Closings, has_day}
use Rattle.terms.specs.declared.refusal.Refusal.TheVariants.{UnknownBranch, BadDay, AlreadyClosed, NotClosed, OutOfLimits}
use Rattle.model.specs.Checks.{Check}
use Rattle.circ_core.specs.declared.changes.RowChange.{RowChange}
use Rattle.circ_core.specs.declared.changes.RowChange.TheVariants.{PutClosedDay, TakeClosedDay}
use Rattle.circ_core.specs.declared.views.View.{View}

-- The day is closed singly.
abbrev pub is_closed_day : Option Closings → ℕ → Bool
is_closed_day (Some closings) day = has_day closings.single day
is_closed_day None day = false

-- As many days are closed singly as allowed.
abbrev pub has_all_days : Option Closings → Bool
has_all_days (Some closings) = nat_le MOST_CLOSED_DAYS (length closings.single)
has_all_days None = false

abbrev pub close_day_checks : View → ℕ → List Check
close_day_checks view day =
    (UnknownBranch, is_none view.calendar) ∷ (BadDay, nat_le day view.meta.today) ∷ (AlreadyClosed, is_closed_day view.calendar day)
    ∷ (OutOfLimits, has_all_days view.calendar) ∷ []

abbrev pub close_day_rows : ℕ → ℕ → List RowChange
close_day_rows branch day = PutClosedDay branch day ∷ []

abbrev pub open_day_checks : View → ℕ → List Check
open_day_checks view day =
    (UnknownBranch, is_none view.calendar) ∷ (BadDay, nat_le day view.meta.today) ∷ (NotClosed, not (is_closed_day view.calendar day)) ∷ []

abbrev pub open_day_rows : ℕ → ℕ → List RowChange
open_day_rows branch day = TakeClosedDay branch day ∷ []
