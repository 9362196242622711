-- Worked examples of pages and reports.
use Rattle.std.specs.Prelude.{◌≡◌, [], ◌∷◌, ◌++◌, map, codes, refl, Some, None}
use Rattle.std.specs.Fmt.{digits}
use Rattle.calendar.specs.Days.{day_text, civil_of}
use Rattle.terms.specs.declared.command.Command.TheVariants.{BeginDay, CloseDay, OpenDay, CheckOut, CheckIn, PlaceHold, Pay, Waive}
use Rattle.model.specs.Pages.{page}
use Rattle.model.specs.Requests.{after}
use Rattle.model.specs.Reports.{overdue, till, shelf, report_lines}
use Rattle.model.proofs.Rows.{by_patron, desk, ground}

-- A page with a loan, whose due day is one that was closed when it was set.
page_shows_loans : page (after ground (desk (CloseDay 1 20521 ∷ CheckOut 1 10 1 ∷ OpenDay 1 20521 ∷ CheckOut 2 11 1 ∷ []))) 1
    ≡ codes "patron 1 owed 0 name Ann Bell" ++ 10 ∷ codes "loan 1 due 2026-03-10 renewals 1 title 100 Rivers of the North"
unfolding digits day_text civil_of
page_shows_loans = refl

-- A page with a hold, and another patron's as before.
page_shows_holds : page (after ground (by_patron 2 (codes "h1") (PlaceHold 2 100 1 None) ∷ [])) 2
    ≡ codes "patron 2 owed 0 name Bo Carr" ++ 10 ∷ codes "hold 1 at 1 waiting title 100 Rivers of the North"
unfolding digits
page_shows_holds = refl

-- A page with a hold from a later day on, before that day and on it.
page_shows_first_days : map (λ H. page H 2)
    (after ground (desk (PlaceHold 2 100 1 (Some 20517) ∷ [])) ∷ after ground (desk (PlaceHold 2 100 1 (Some 20517) ∷ BeginDay 20517 ∷ []))
    ∷ [])
    ≡ map (λ line. codes "patron 2 owed 0 name Bo Carr" ++ 10 ∷ line)
    (codes "hold 1 at 1 waiting from 2026-03-05 title 100 Rivers of the North" ∷ codes "hold 1 at 1 waiting from 2026-03-05 title 100 Rivers of the North" ∷ [])
unfolding digits day_text civil_of
page_shows_first_days = refl

page_of_another_is_as_before : page (after ground (by_patron 2 (codes "h1") (PlaceHold 2 100 1 None) ∷ [])) 1 ≡ codes "patron 1 owed 0 name Ann Bell"
unfolding digits
page_of_another_is_as_before = refl

-- One loan, seven open days late.
overdue_report : overdue (after ground (desk (CheckOut 1 10 1 ∷ BeginDay 20529 ∷ []))) 1
    ≡ report_lines (map codes (
    "      loan  patron    copy due         late title"
    ∷ "         1       1      10 2026-03-09     7 Rivers of the North"
    ∷ "overdue 1" ∷ []))
unfolding digits day_text civil_of
overdue_report = refl

-- A fine of the day.
till_report_of_a_fine : till (after ground (desk (CloseDay 1 20521 ∷ CheckOut 1 10 1 ∷ BeginDay 20529 ∷ CheckIn 10 1 ∷ []))) 20529
    ≡ report_lines (map codes (
    "till 2026-03-17"
    ∷ "fines                100"
    ∷ "prices                 0"
    ∷ "payments               0"
    ∷ "waivers                0" ∷ []))
unfolding digits day_text civil_of
till_report_of_a_fine = refl

-- A fine, a payment and a waiver of the day.
till_report_of_payments : till (after ground (desk (CheckOut 1 10 1 ∷ BeginDay 20529 ∷ CheckIn 10 1 ∷ Pay 1 30 ∷ Waive 1 20 ∷ []))) 20529
    ≡ report_lines (map codes (
    "till 2026-03-17"
    ∷ "fines                100"
    ∷ "prices                 0"
    ∷ "payments              30"
    ∷ "waivers               20" ∷ []))
unfolding digits day_text civil_of
till_report_of_payments = refl

-- One ready hold.
shelf_report : shelf (after ground (desk (PlaceHold 2 100 1 None ∷ PlaceHold 3 100 1 None ∷ CheckIn 10 1 ∷ []))) 1
    ≡ report_lines (map codes (
    "      hold    copy  patron until      title"
    ∷ "         1      10       2 2026-03-07 Rivers of the North"
    ∷ "ready 1" ∷ []))
unfolding digits day_text civil_of
shelf_report = refl

-- Each line of a report ends with a newline.
lines_of_reports : report_lines (codes "a" ∷ [] ∷ codes "b c" ∷ []) ≡ codes "a\n\nb c\n"
lines_of_reports = refl

-- Two loans of the second patron on a Sunday, the first of another patron having ended: one is late by that Sunday alone, the other by five open days.
overdue_second_and_third_loan : overdue (after ground (desk (CheckOut 1 20 2 ∷ CheckIn 20 2 ∷ CheckOut 2 30 1 ∷ CheckOut 2 10 1 ∷ BeginDay 20527 ∷ []))) 1
    ≡ report_lines (map codes (
    "      loan  patron    copy due         late title"
    ∷ "         2       2      30 2026-03-14     0 Night Ferries"
    ∷ "         3       2      10 2026-03-09     5 Rivers of the North"
    ∷ "overdue 2" ∷ []))
unfolding digits day_text civil_of
overdue_second_and_third_loan = refl
