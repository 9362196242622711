-- The three reports, as bytes.
use Rattle.std.specs.Prelude.{ℕ, zero, suc, ◌-◌, ◌==◌, nat_lt, Bool, true, false, ◌&&◌, List, [], ◌∷◌, ◌++◌, map, filter, flat_map, length, replicate}
use Rattle.std.specs.Prelude.{codes, decimal, sum_by, Option, Some, None, option_map, unwrap_or}
use Rattle.calendar.specs.Days.{day_text}
use Rattle.terms.specs.declared.row.Sort.{Sort}
use Rattle.terms.specs.declared.row.Sort.TheVariants.{Fine, Price, Payment, Waiver, Charge}
use Rattle.model.specs.Calendar.{late}
use Rattle.model.specs.History.{History, numbers_to, today, is_open, loans, holds}
use Rattle.model.specs.Places.{state, is_ready, goal_of, kept_for, limit, title_of_hold, patron_of_hold}
use Rattle.model.specs.Loans.{loan_of, due, is_open_loan, title_of_loan}
use Rattle.model.specs.Accounts.{Note, lines, borrower}
use Rattle.model.specs.Pages.{spaced, title_text}

-- The text, right-aligned in n columns.
abbrev pub right_in : ℕ → List ℕ → List ℕ
right_in n text = replicate (n - length text) 32 ++ text

-- The text, left-aligned in n columns.
abbrev pub left_in : ℕ → List ℕ → List ℕ
left_in n text = text ++ replicate (n - length text) 32

-- Each line ends with a newline.
abbrev pub report_lines : List (List ℕ) → List ℕ
report_lines rows = flat_map (λ row. row ++ 10 ∷ []) rows

-- ---- overdue

-- The lending branch.
abbrev pub lending_branch : History → ℕ → ℕ
lending_branch H l = unwrap_or (option_map (λ r. r.branch) (loan_of H l)) 0

-- The copy of a loan.
abbrev pub lent_copy : History → ℕ → ℕ
lent_copy H l = unwrap_or (option_map (λ r. r.copy) (loan_of H l)) 0

-- The branch's open loans that are due before today, by number.
abbrev pub overdue_loans : History → ℕ → List ℕ
overdue_loans H b = filter (λ l. is_open_loan H l && ((lending_branch H l == b) && nat_lt (due H l) (today H))) (numbers_to (loans H))

-- The columns of the overdue report.
abbrev pub overdue_row : List ℕ → List ℕ → List ℕ → List ℕ → List ℕ → List ℕ → List ℕ
overdue_row loan patron copy due late title = spaced (right_in 10 loan ∷ right_in 7 patron ∷ right_in 7 copy ∷ left_in 10 due ∷ right_in 5 late ∷ title ∷ [])

-- The row of a loan, with the open days that it is late so far.
abbrev pub overdue_line : History → ℕ → ℕ → List ℕ
overdue_line H b l = overdue_row (decimal l) (decimal (borrower H l)) (decimal (lent_copy H l)) (day_text (due H l))
    (decimal (late (is_open H b) (due H l) (today H))) (title_text H (title_of_loan H l))

-- The header of the overdue report.
abbrev pub overdue_head : List ℕ
overdue_head = overdue_row (codes "loan") (codes "patron") (codes "copy") (codes "due") (codes "late") (codes "title")

-- The overdue report of a branch: its header, a row for each overdue loan, and their number.
abbrev pub overdue : History → ℕ → List ℕ
overdue H b = report_lines
    (overdue_head ∷ map (overdue_line H b) (overdue_loans H b) ++ spaced (codes "overdue" ∷ decimal (length (overdue_loans H b)) ∷ []) ∷ [])

-- ---- till

-- The two sorts are equal.
abbrev pub is_sort : Sort → Sort → Bool
is_sort Fine Fine = true
is_sort Price Price = true
is_sort Payment Payment = true
is_sort Waiver Waiver = true
is_sort Charge Charge = true
is_sort _ _ = false

-- The sum of a day's lines of one sort.
abbrev pub till_sum : History → ℕ → Sort → ℕ
till_sum H d s = sum_by (λ x. x.amount) (filter (λ x. (x.day == d) && is_sort x.sort s) (lines H))

-- The name of a sort, and its sum.
abbrev pub till_line : List ℕ → ℕ → List ℕ
till_line name n = left_in 9 name ++ right_in 15 (decimal n)

-- The row of charges, if there are any.
abbrev pub charges_row : ℕ → List (List ℕ)
charges_row zero = []
charges_row (suc n) = till_line (codes "charges") (suc n) ∷ []

-- The till report of a day: the day, its sums of fines, prices, payments and waivers, and that of charges if any
-- was made.
abbrev pub till_rows : History → ℕ → List (List ℕ)
till_rows H d =
    spaced (codes "till" ∷ day_text d ∷ []) ∷ till_line (codes "fines") (till_sum H d Fine) ∷ till_line (codes "prices") (till_sum H d Price)
    ∷ till_line (codes "payments") (till_sum H d Payment) ∷ till_line (codes "waivers") (till_sum H d Waiver) ∷ charges_row (till_sum H d Charge)

abbrev pub till : History → ℕ → List ℕ
till H d = report_lines (till_rows H d)

-- ---- till of a branch

-- The note says that the line was made at this branch.
abbrev pub is_made_at : ℕ → Option Note → Bool
is_made_at b (Some note) = note.branch == b
is_made_at b None = false

-- The sum of a day's lines of one sort that were made at the branch.
abbrev pub till_sum_at : History → ℕ → ℕ → Sort → ℕ
till_sum_at H b d s = sum_by (λ x. x.amount) (filter (λ x. (x.day == d) && (is_sort x.sort s && is_made_at b x.note)) (lines H))

-- The till of a branch on a day: the day and the branch, and the sums of the payments and charges made there.
abbrev pub till_at_rows : History → ℕ → ℕ → List (List ℕ)
till_at_rows H b d =
    spaced (codes "till" ∷ day_text d ∷ codes "at" ∷ decimal b ∷ []) ∷ till_line (codes "payments") (till_sum_at H b d Payment)
    ∷ till_line (codes "charges") (till_sum_at H b d Charge) ∷ []

-- ---- shelf

-- The ready holds to be picked up at the branch, by number.
abbrev pub ready_holds : History → ℕ → List ℕ
ready_holds H b = filter (λ h. is_ready (state H h) && (goal_of H h == b)) (numbers_to (holds H))

-- The columns of the shelf report.
abbrev pub shelf_row : List ℕ → List ℕ → List ℕ → List ℕ → List ℕ → List ℕ
shelf_row hold copy patron until title = spaced (right_in 10 hold ∷ right_in 7 copy ∷ right_in 7 patron ∷ left_in 10 until ∷ title ∷ [])

-- The row of a hold, with its copy on the shelf and the shelf limit.
abbrev pub shelf_line : History → ℕ → List ℕ
shelf_line H h = shelf_row (decimal h) (decimal (unwrap_or (kept_for H h) 0)) (decimal (patron_of_hold H h))
    (day_text (unwrap_or (limit H h) 0)) (title_text H (title_of_hold H h))

-- The header of the shelf report.
abbrev pub shelf_head : List ℕ
shelf_head = shelf_row (codes "hold") (codes "copy") (codes "patron") (codes "until") (codes "title")

-- The shelf report of a branch: its header, a row for each ready hold, and their number.
abbrev pub shelf : History → ℕ → List ℕ
shelf H b = report_lines
    (shelf_head ∷ map (shelf_line H) (ready_holds H b) ++ spaced (codes "ready" ∷ decimal (length (ready_holds H b)) ∷ []) ∷ [])
