-- Accounts: fines, prices, charges, payments, waivers and debts. Money is in cents.
use Rattle.std.specs.Prelude.{ℕ, zero, suc, ◌+◌, ◌-◌, ◌==◌, List, [], ◌∷◌, ◌++◌, filter, sum_by, length, Option, Some, None, option_map, unwrap_or}
use Rattle.terms.specs.declared.command.Command.{Command}
use Rattle.terms.specs.declared.command.Command.TheVariants.{CheckIn, Missing, Pay, Waive, Charge, PayAt}
use Rattle.terms.specs.declared.row.Sort.{Sort}
use Rattle.terms.specs.declared.row.Sort.TheVariants.{Fine, Price, Payment, Waiver, Charge as ChargeSort}
use Rattle.terms.specs.Money.{fine_for}
use Rattle.model.specs.Calendar.{late}
use Rattle.model.specs.History.{History, today, is_open, copy_of}
use Rattle.model.specs.Places.{Place, place}
use Rattle.model.specs.Places.Place.{Loan}
use Rattle.model.specs.Loans.{loan_of, due, grace_of}

-- Where a line was made, and what a charge is for.
pub record Note : Type 0 where
  pub branch : ℕ
  pub text : Option (List ℕ)

-- One line of an account. Its number is its position among all patrons' lines.
pub record Line : Type 0 where
  pub patron : ℕ
  pub day : ℕ
  pub sort : Sort
  pub amount : ℕ
  pub loan : Option ℕ
  pub note : Option Note

-- The fine of a loan that ends now: for the lending branch's open days after the due day, by the loan's own
-- terms and these grace days.
abbrev pub fine_now : History → (ℕ → ℕ) → ℕ → ℕ
fine_now H graces l =
    unwrap_or (option_map (λ r. fine_for (late (is_open H r.branch) (due H l) (today H)) r.terms.rate r.terms.cap (graces l)) (loan_of H l)) 0

-- The fine of a copy that leaves this place: its loan's, if it was on loan.
abbrev pub fine_at : History → (ℕ → ℕ) → Place → ℕ
fine_at H graces (Loan l) = fine_now H graces l
fine_at H graces _ = 0

-- The price of a copy.
abbrev pub price_of : History → ℕ → ℕ
price_of H c = unwrap_or (option_map (λ r. r.price) (copy_of H c)) 0

-- One line dated today, with its note if it has one, or none if the amount is zero.
abbrev pub noted_line : History → ℕ → Sort → Option ℕ → Option Note → ℕ → List Line
noted_line H p sort loan x zero = []
noted_line H p sort loan x (suc n) = record { patron = p; day = today H; sort = sort; amount = suc n; loan = loan; note = x } ∷ []

-- The same without a note.
abbrev pub line_of : History → ℕ → Sort → Option ℕ → ℕ → List Line
line_of H p sort loan n = noted_line H p sort loan None n

-- The patron of a loan.
abbrev pub borrower : History → ℕ → ℕ
borrower H l = unwrap_or (option_map (λ r. r.patron) (loan_of H l)) 0

-- The fine line of a copy that leaves this place.
abbrev pub fine_line : History → (ℕ → ℕ) → Place → List Line
fine_line H graces (Loan l) = line_of H (borrower H l) Fine (Some l) (fine_now H graces l)
fine_line H graces _ = []

-- The price line of a copy lost from this place.
abbrev pub price_line : History → ℕ → Place → List Line
price_line H c (Loan l) = line_of H (borrower H l) Price (Some l) (price_of H c)
price_line H c _ = []

-- What a command posts to accounts: the cost of a returned or lost copy, a settled part of a debt, or a charge.
pub data Posting : Type 0 where
  Returned : ℕ → Posting
  Lost : ℕ → Posting
  Settled : ℕ → Sort → Option Note → ℕ → Posting
  Charged : ℕ → Note → ℕ → Posting
  NoPosting : Posting

abbrev pub posting : Command → Posting
posting (CheckIn c b) = Returned c
posting (Missing c) = Lost c
posting (Pay p n) = Settled p Payment None n
posting (Waive p n) = Settled p Waiver None n
posting (PayAt p n b) = Settled p Payment (Some (record { branch = b; text = None })) n
posting (Charge p n b text) = Charged p (record { branch = b; text = Some text }) n
posting _ = NoPosting

-- The lines of a posting, given the places of copies and the grace days of loans.
abbrev pub lines_posted : History → (ℕ → Place) → (ℕ → ℕ) → Posting → List Line
lines_posted H places graces (Returned c) = fine_line H graces (places c)
lines_posted H places graces (Lost c) = fine_line H graces (places c) ++ price_line H c (places c)
lines_posted H places graces (Settled p sort x n) = noted_line H p sort None x n
lines_posted H places graces (Charged p x n) = noted_line H p ChargeSort None (Some x) n
lines_posted H places graces NoPosting = []

-- The lines that a command adds.
abbrev pub lines_by : History → Command → List Line
lines_by H c = lines_posted H (place H) (grace_of H) (posting c)

-- A posting adds its lines at the end.
abbrev pub lines_then : History → (ℕ → Place) → (ℕ → ℕ) → Posting → List Line → List Line
lines_then H places graces NoPosting before = before
lines_then H places graces made before = before ++ lines_posted H places graces made

abbrev pub lines_after : History → Posting → List Line → List Line
lines_after H made before = lines_then H (place H) (grace_of H) made before

-- All lines of all patrons, oldest first.
abbrev pub lines : History → List Line
lines [] = []
lines (e ∷ H) = lines_after H (posting e.command) (lines H)

-- The number of the next line.
abbrev pub next_line : History → ℕ
next_line H = length (lines H) + 1

-- The n-th of all lines, counted from 1.
abbrev pub nth_line : List Line → ℕ → Option Line
nth_line [] n = None
nth_line (x ∷ xs) zero = None
nth_line (x ∷ xs) (suc zero) = Some x
nth_line (x ∷ xs) (suc (suc n)) = nth_line xs (suc n)

-- A patron's lines among all lines, in order.
abbrev pub account_in : List Line → ℕ → List Line
account_in all p = filter (λ x. x.patron == p) all

-- The account of a patron: the patron's lines, in order.
abbrev pub account : History → ℕ → List Line
account H p = account_in (lines H) p

-- What a line adds to the charges.
abbrev pub charge : Sort → ℕ → ℕ
charge Fine n = n
charge Price n = n
charge Payment n = 0
charge Waiver n = 0
charge ChargeSort n = n

-- What a line takes off the charges.
abbrev pub credit : Sort → ℕ → ℕ
credit Fine n = 0
credit Price n = 0
credit Payment n = n
credit Waiver n = n
credit ChargeSort n = 0

-- Fines, prices and charges of the desk.
abbrev pub charges : List Line → ℕ
charges xs = sum_by (λ x. charge x.sort x.amount) xs

-- Payments and waivers.
abbrev pub credits : List Line → ℕ
credits xs = sum_by (λ x. credit x.sort x.amount) xs

-- What a patron owes, by all lines.
abbrev pub owed_in : List Line → ℕ → ℕ
owed_in all p = charges (account_in all p) - credits (account_in all p)

-- What a patron owes.
abbrev pub owed : History → ℕ → ℕ
owed H p = owed_in (lines H) p
