-- The checks and row changes of `place-hold` and `place-hold-from`, on the rows of a view.
use Rattle.terms.specs.declared.limits.TheConstants.{LAST_NUMBER}
use Rattle.std.specs.Prelude.{ℕ, Bool, false, ◌+◌, nat_le, nat_lt, List, [], ◌∷◌, Option, Some, None, is_none, is_some}
use Rattle.terms.specs.declared.refusal.Refusal.TheVariants as refusal
use Rattle.terms.specs.declared.row.KindRow.{KindRow}
use Rattle.terms.specs.declared.row.MetaRow.{MetaRow}
use Rattle.terms.specs.declared.row.HoldRow.{HoldRow}
use Rattle.terms.specs.declared.row.HoldState.TheVariants.{Waiting}
use Rattle.model.specs.Checks.{Check}
use Rattle.circ_core.specs.declared.changes.RowChange.{RowChange}
use Rattle.circ_core.specs.declared.changes.RowChange.TheVariants.{PutMeta, PutHold}
use Rattle.circ_core.specs.declared.views.View.{View}
use Rattle.circ_core.specs.BeginDay.{is_bad_day}

-- The number of active holds that the kind may have.
abbrev pub holds_allowed : Option KindRow → ℕ
holds_allowed (Some kind) = kind.holds
holds_allowed None = 0

-- The hold has a first day that is bad.
abbrev pub is_bad_first_day : MetaRow → Option ℕ → Bool
is_bad_first_day meta None = false
is_bad_first_day meta (Some day) = is_bad_day meta day

abbrev pub place_hold_checks : View → Option ℕ → List Check
place_hold_checks view first_day =
    (refusal.UnknownPatron, is_none view.patron)
    ∷ (refusal.UnknownTitle, is_none view.title)
    ∷ (refusal.UnknownBranch, is_none view.branch)
    ∷ (refusal.BadDay, is_bad_first_day view.meta first_day)
    ∷ (refusal.AlreadyHolds, nat_lt 0 view.own_holds)
    ∷ (refusal.HasOnLoan, is_some view.loan)
    ∷ (refusal.TooManyHolds, nat_le (holds_allowed view.kind) view.active_holds)
    ∷ (refusal.NumbersUsedUp, nat_lt LAST_NUMBER view.meta.next_hold)
    ∷ []

-- The new hold: it waits, with no copy yet.
abbrev pub new_hold : ℕ → ℕ → ℕ → ℕ → Option ℕ → HoldRow
new_hold number patron title branch first_day = record {
  hold = number;
  patron = patron;
  title = title;
  branch = branch;
  state = Waiting;
  copy = None;
  limit_day = None;
  first_day = first_day;
}

-- The next number is given, and the hold is made.
abbrev pub place_hold_rows : View → ℕ → ℕ → ℕ → Option ℕ → List RowChange
place_hold_rows view patron title branch first_day =
    PutMeta (record view.meta { next_hold = view.meta.next_hold + 1 }) ∷ PutHold (new_hold view.meta.next_hold patron title branch first_day) ∷ []
