-- What each loan is charged: at most one fine and one price, when it ends; and what the desk charges.
use Rattle.std.specs.Prelude.{◌≡◌, ℕ, ◌<◌, ◌==◌, Bool, true, false, not, ◌&&◌, [], ◌∷◌, filter, sum_by, Option, Some, None, option_map, unwrap_or}
use Rattle.terms.specs.declared.command.Command.{Command}
use Rattle.terms.specs.declared.command.Command.TheVariants.{Missing}
use Rattle.terms.specs.declared.row.LineRow.{LineRow}
use Rattle.terms.specs.declared.row.LoanRow.{LoanRow}
use Rattle.terms.specs.declared.row.Sort.{Sort}
use Rattle.terms.specs.declared.row.Sort.TheVariants.{Fine, Price}
use Rattle.terms.specs.Money.{fine_for}
use Rattle.model.specs.Calendar.{late}
use Rattle.model.specs.History.{Event, History, today, is_open}
use Rattle.model.specs.Loans.{loan_of, due, is_open_loan}
use Rattle.model.specs.Accounts.{lines, price_of}
use Rattle.model.specs.Reports.{is_sort, lent_copy}
use Rattle.model.specs.Picture.{Picture, picture}
use Rattle.model.specs.Requests.{IsLegal}

-- ---- whose charges

-- Fines and prices are charges for loans.
abbrev pub is_for_loan : Sort → Bool
is_for_loan Fine = true
is_for_loan Price = true
is_for_loan _ = false

-- The row is for a loan that has ended, made on the day of its end, for its borrower.
pub record IsOfEndedLoan (T : Picture) (r : LineRow) : Type 0 where
  pub loan : ℕ
  pub row : LoanRow
  pub named : r.loan ≡ Some loan
  pub there : T.loans loan ≡ Some row
  pub patron : r.patron ≡ row.patron
  pub day : row.ended ≡ Some r.day

-- Each fine and each price is for an ended loan, to its borrower and of the day of its end, and it is the loan's
-- only one of its sort. Every other line is for no loan, and no line has the amount zero.
pub record HasFairCharges (T : Picture) : Type 0 where
  pub whose : (n : ℕ) (r : LineRow) → T.lines n ≡ Some r → is_for_loan r.sort ≡ true → IsOfEndedLoan T r
  pub once : (n m : ℕ) (r s : LineRow) → T.lines n ≡ Some r → T.lines m ≡ Some s → is_for_loan r.sort ≡ true → r.sort ≡ s.sort → r.loan ≡ s.loan → n ≡ m
  pub settled : (n : ℕ) (r : LineRow) → T.lines n ≡ Some r → is_for_loan r.sort ≡ false → r.loan ≡ None
  pub some_amount : (n : ℕ) (r : LineRow) → T.lines n ≡ Some r → 0 < r.amount

-- ---- how much

-- The line is for this loan.
abbrev pub is_for : ℕ → Option ℕ → Bool
is_for l (Some k) = k == l
is_for l None = false

-- What the lines charge for a loan, by sort.
abbrev pub charged : History → ℕ → Sort → ℕ
charged H l s = sum_by (λ x. x.amount) (filter (λ x. is_for l x.loan && is_sort x.sort s) (lines H))

-- The event ends the loan.
abbrev pub ends_loan : Event → History → ℕ → Bool
ends_loan e H l = is_open_loan H l && not (is_open_loan (e ∷ H) l)

-- The fine of a loan that ends now: for the open days of the lending branch after the due day, by the loan's
-- own terms.
abbrev pub fine_at : History → ℕ → ℕ
fine_at H l = unwrap_or (option_map (λ r. fine_for (late (is_open H r.branch) (due H l) (today H)) r.terms.rate r.terms.cap r.terms.grace) (loan_of H l)) 0

-- The price of the loan's copy, if it ends because the copy is missing.
abbrev pub price_at : Command → History → ℕ → ℕ
price_at (Missing c) H l = price_of H (lent_copy H l)
price_at _ H l = 0

-- The fine of a loan: that of its end. None while it is open.
abbrev pub fine_at_end : History → ℕ → ℕ
fine_at_end [] l = 0
fine_at_end (e ∷ H) l = elim (ends_loan e H l) [ true ↦ fine_at H l | false ↦ fine_at_end H l ]

-- The price charged for a loan: that of its end. None while it is open.
abbrev pub price_at_end : History → ℕ → ℕ
price_at_end [] l = 0
price_at_end (e ∷ H) l = elim (ends_loan e H l) [ true ↦ price_at e.command H l | false ↦ price_at_end H l ]

-- A loan is charged the fine and the price of its end.
pub record IsChargedForItsEnd (H : History) (l : ℕ) : Type 0 where
  pub fine : charged H l Fine ≡ fine_at_end H l
  pub price : charged H l Price ≡ price_at_end H l

-- After every legal history charges are fair, and each loan is charged for its end.
pub record IsCharged (H : History) : Type 0 where
  pub rows : HasFairCharges (picture H)
  pub loans : (l : ℕ) → IsChargedForItsEnd H l

abbrev pub Charges : Type 0
Charges = (H : History) → IsLegal H → IsCharged H
