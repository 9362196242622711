-- The checks, row changes and reply of `missing`, on the rows of a view.
use Rattle.std.specs.Prelude.{ℕ, List, [], ◌∷◌, ◌++◌, Option, Some, None, is_none}
use Rattle.terms.specs.declared.refusal.Refusal.TheVariants as refusal
use Rattle.terms.specs.declared.reply.Reply.{Reply}
use Rattle.terms.specs.declared.reply.Reply.TheVariants.{Done, Lost}
use Rattle.terms.specs.declared.row.CopyRow.{CopyRow}
use Rattle.terms.specs.declared.row.LoanRow.{LoanRow}
use Rattle.terms.specs.declared.row.HoldRow.{HoldRow}
use Rattle.terms.specs.declared.row.HoldState.TheVariants.{Waiting}
use Rattle.terms.specs.declared.row.TransitRow.{TransitRow}
use Rattle.terms.specs.declared.row.Condition.TheVariants.{Missing}
use Rattle.model.specs.Checks.{Check}
use Rattle.circ_core.specs.declared.changes.RowChange.{RowChange}
use Rattle.circ_core.specs.declared.changes.RowChange.TheVariants.{PutLoan, PutHold, TakeTransit}
use Rattle.circ_core.specs.declared.views.View.{View}
use Rattle.circ_core.specs.Condition.{is_missing, is_withdrawn, condition_rows}
use Rattle.circ_core.specs.Ending.{fine_due, lacks_numbers, ended_loan, charge_rows}

-- The price charged: that of a copy on loan.
abbrev pub price_due : Option LoanRow → Option CopyRow → ℕ
price_due (Some loan) (Some copy) = copy.price
price_due _ _ = 0

abbrev pub fine_in : View → ℕ
fine_in view = fine_due view.loan view.lender view.meta.today

abbrev pub price_in : View → ℕ
price_in view = price_due view.loan view.copy

abbrev pub missing_checks : View → List Check
missing_checks view =
    (refusal.UnknownCopy, is_none view.copy) ∷ (refusal.CopyWithdrawn, is_withdrawn view.copy) ∷ (refusal.CopyMissing, is_missing view.copy)
    ∷ (refusal.NumbersUsedUp, lacks_numbers view.meta (fine_in view) (price_in view)) ∷ []

-- The charges are reported if the copy was on loan.
abbrev pub lost_reply : Option LoanRow → ℕ → ℕ → Reply
lost_reply (Some loan) fine price = Lost fine price
lost_reply None fine price = Done

abbrev pub missing_reply : View → Reply
missing_reply view = lost_reply view.loan (fine_in view) (price_in view)

-- The hold waits again under its old number, with no copy and no shelf limit.
abbrev pub waiting_again : HoldRow → HoldRow
waiting_again hold = record hold { state = Waiting; copy = None; limit_day = None }

-- What the copy was bound to: its loan ends, the hold on whose shelf it stood waits again, or its transit
-- ends.
abbrev pub release_rows : Option LoanRow → Option HoldRow → Option TransitRow → ℕ → List RowChange
release_rows (Some loan) hold transit today = PutLoan (ended_loan loan today) ∷ []
release_rows None (Some hold) transit today = PutHold (waiting_again hold) ∷ []
release_rows None None (Some transit) today = TakeTransit transit.copy ∷ []
release_rows None None None today = []

-- The copy is missing, what it was bound to is free, and the borrower is charged the fine and the price.
abbrev pub missing_rows : View → List RowChange
missing_rows view =
    (condition_rows view.copy Missing ++ release_rows view.loan view.hold view.transit view.meta.today)
    ++ charge_rows view.meta view.patron view.loan (fine_in view) (price_in view)
