-- The end of a copy's loan: its fine and charges, on the rows of a view.
use Rattle.terms.specs.declared.limits.TheConstants.{LARGEST_SUM, LAST_NUMBER}
use Rattle.std.specs.Prelude.{ℕ, ◌+◌, ◌==◌, nat_lt, ◌&&◌, min, Bool, true, false, List, [], ◌∷◌, ◌++◌, Option, Some, None}
use Rattle.calendar.specs.Openings.{Closings, open_days_after}
use Rattle.terms.specs.Money.{fine_for}
use Rattle.terms.specs.declared.row.MetaRow.{MetaRow}
use Rattle.terms.specs.declared.row.PatronRow.{PatronRow}
use Rattle.terms.specs.declared.row.LoanRow.{LoanRow}
use Rattle.terms.specs.declared.row.Sort.{Sort}
use Rattle.terms.specs.declared.row.Sort.TheVariants.{Fine, Price}
use Rattle.circ_core.specs.declared.changes.RowChange.{RowChange}
use Rattle.circ_core.specs.declared.changes.RowChange.TheVariants.{PutMeta, PutPatron, PutLoan, PutLine}

-- ---- the amounts

-- The fine of a loan that ends today, for the lending branch's open days after the due day; none without a
-- loan.
abbrev pub fine_due : Option LoanRow → Option Closings → ℕ → ℕ
fine_due (Some loan) (Some closings) today = fine_for (open_days_after closings loan.due today) loan.rate loan.cap loan.grace
fine_due _ _ today = 0

-- The number of lines of a charge: one, or none for a charge of zero.
abbrev pub lines_for : ℕ → ℕ
lines_for amount = elim (amount == 0) [ true ↦ 0 | false ↦ 1 ]

-- Fewer line numbers are left than the fine and price need.
abbrev pub lacks_numbers : MetaRow → ℕ → ℕ → Bool
lacks_numbers meta fine price = nat_lt (LAST_NUMBER + 1) (meta.next_line + lines_for fine + lines_for price)

-- ---- the rows that change

-- The loan ends today.
abbrev pub ended_loan : LoanRow → ℕ → LoanRow
ended_loan loan today = record loan { ended = Some today }

abbrev pub end_rows : Option LoanRow → ℕ → List RowChange
end_rows (Some loan) today = PutLoan (ended_loan loan today) ∷ []
end_rows None today = []

-- The patron owes this much more, up to the largest possible amount.
abbrev pub charged : PatronRow → ℕ → ℕ → PatronRow
charged patron fine price = record patron { owed = min (patron.owed + fine + price) LARGEST_SUM }

-- The line of a charge for the loan; none for a charge of zero.
abbrev pub line_rows : MetaRow → ℕ → LoanRow → Sort → ℕ → List RowChange
line_rows meta line loan sort amount = elim (amount == 0) [
  | true ↦ []
  | false ↦ PutLine (record { line = line; patron = loan.patron; day = meta.today; sort = sort; amount = amount; loan = Some loan.loan }) ∷ []
]

-- The fine and price go onto the borrower's account: the next number is given, the patron owes that much
-- more, and the lines are made, the fine's first. If both are zero, nothing changes.
abbrev pub account_rows : MetaRow → PatronRow → LoanRow → ℕ → ℕ → List RowChange
account_rows meta patron loan fine price = elim ((fine == 0) && (price == 0)) [
  | true ↦ []
  | false ↦
      PutMeta (record meta { next_line = meta.next_line + lines_for fine + lines_for price }) ∷ PutPatron (charged patron fine price)
      ∷ (line_rows meta meta.next_line loan Fine fine ++ line_rows meta (meta.next_line + lines_for fine) loan Price price)
]

abbrev pub charge_rows : MetaRow → Option PatronRow → Option LoanRow → ℕ → ℕ → List RowChange
charge_rows meta (Some patron) (Some loan) fine price = account_rows meta patron loan fine price
charge_rows meta _ _ fine price = []
