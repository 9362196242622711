-- Worked examples of lending: due days, renewals, fines, accounts and keys.
use Rattle.std.specs.Prelude.{◌≡◌, List, [], ◌∷◌, ◌++◌, length, codes, refl, None}
use Rattle.std.specs.Fmt.{digits}
use Rattle.terms.specs.declared.command.Command.TheVariants.{BeginDay, Branch, Week, CloseDay, OpenDay, Kind, Rule, Acquire, CheckOut}
use Rattle.terms.specs.declared.command.Command.TheVariants.{CheckIn, Renew, PlaceHold, CancelHold, Missing, Withdraw, Pay, Waive, Page}
use Rattle.terms.specs.declared.command.Request.{Request}
use Rattle.terms.specs.Texts.{request_text, command_words, reply_text, reply_words, routed_words}
use Rattle.model.specs.History.{loans}
use Rattle.model.specs.Accounts.{lines, account}
use Rattle.model.specs.Requests.{after}
use Rattle.model.proofs.Rows.{by_desk, by_patron, by_file, desk, closed_in, Gives, gives, ground}

-- The period ends on a Sunday: the copy is due on the Monday after it.
due_day_is_moved_to_an_open_day : Gives ground (desk (CheckOut 1 10 1 ∷ [])) ("loan 1 due 2026-03-09" ∷ [])
unfolding digits reply_text reply_words routed_words
due_day_is_moved_to_an_open_day = gives refl

-- The Monday is closed singly: the copy is due on the Tuesday.
due_day_is_moved_past_a_single_closed_day : Gives ground
    (desk (CloseDay 1 20521 ∷ CheckOut 1 10 1 ∷ []))
    ("ok" ∷ "loan 1 due 2026-03-10" ∷ [])
unfolding digits reply_text reply_words routed_words
due_day_is_moved_past_a_single_closed_day = gives refl

-- Six open days late cost 120 cents, and the cap is 100.
fine_is_capped : Gives ground
    (desk (CloseDay 1 20521 ∷ CheckOut 1 10 1 ∷ BeginDay 20529 ∷ CheckIn 10 1 ∷ []))
    ("ok" ∷ "loan 1 due 2026-03-10" ∷ "ok" ∷ "fine 100 shelf 1" ∷ [])
unfolding digits reply_text reply_words routed_words
fine_is_capped = gives refl

-- Late by a Sunday alone costs nothing.
closed_days_cost_nothing : Gives ground
    (desk (CheckOut 1 30 1 ∷ BeginDay 20527 ∷ CheckIn 30 1 ∷ Page 1 ∷ []))
    ("loan 1 due 2026-03-14" ∷ "ok" ∷ "fine 0 shelf 1" ∷ "patron 1 owed 0 name Ann Bell" ∷ [])
unfolding digits reply_text reply_words routed_words
closed_days_cost_nothing = gives refl

-- Nor does it make a line.
no_fine_makes_no_line : lines (after ground (desk (CheckOut 1 30 1 ∷ BeginDay 20527 ∷ CheckIn 30 1 ∷ []))) ≡ []
unfolding digits
no_fine_makes_no_line = refl

-- A due day that is set stays when that day is closed later.
due_day_stays : Gives ground
    (desk (CheckOut 1 10 1 ∷ CloseDay 1 20521 ∷ BeginDay 20522 ∷ CheckIn 10 1 ∷ []))
    ("loan 1 due 2026-03-09" ∷ "ok" ∷ "ok" ∷ "fine 20 shelf 1" ∷ [])
unfolding digits reply_text reply_words routed_words
due_day_stays = gives refl

-- A week of closed days, a limit that is too high, and a day that isn't after today.
abbrev bad_settings : List Request
bad_settings = desk (Week 1 (closed_in "ccccccc") ∷ Kind 1 201 5 500 ∷ BeginDay 20514 ∷ [])

bad_settings_are_refused : Gives ground bad_settings ("refused 22" ∷ "refused 21" ∷ "refused 23" ∷ [])
unfolding digits reply_text reply_words routed_words
bad_settings_are_refused = gives refl

bad_settings_change_nothing : after ground bad_settings ≡ ground
unfolding digits
bad_settings_change_nothing = refl

-- A renewal is refused while somebody stands in line, and begins at the old due day.
renewal_waits_for_the_line : Gives ground
    (desk (CheckOut 1 10 1 ∷ PlaceHold 2 100 1 None ∷ Renew 1 ∷ CheckIn 11 2 ∷ Renew 1 ∷ Renew 1 ∷ []))
    ("loan 1 due 2026-03-09" ∷ "hold 1" ∷ "refused 36" ∷ "fine 0 transit 1 for 1" ∷ "loan 1 due 2026-03-16" ∷ "refused 42" ∷ [])
unfolding digits reply_text reply_words routed_words
renewal_waits_for_the_line = gives refl

-- A copy that is lost costs its fine and its price, and the debt stops the next loan.
missing_copy_is_for_loand : Gives ground
    (desk (CheckOut 1 10 1 ∷ BeginDay 20529 ∷ Missing 10 ∷ CheckIn 10 1 ∷ Page 1 ∷ CheckOut 1 11 1 ∷ []))
    ("loan 1 due 2026-03-09" ∷ "ok" ∷ "fine 100 price 2500" ∷ "fine 0 shelf 1" ∷ "patron 1 owed 2600 name Ann Bell" ∷ "refused 38" ∷ [])
unfolding digits reply_text reply_words routed_words
missing_copy_is_for_loand = gives refl

-- Who owes more than the limit of the kind may not renew; who owes just that may.
debt_stops_renewals : Gives ground
    (desk (CheckOut 1 10 1 ∷ CheckOut 1 11 1 ∷ Missing 11 ∷ Renew 1 ∷ Pay 1 1999 ∷ Renew 1 ∷ Pay 1 1 ∷ Renew 1 ∷ []))
    ("loan 1 due 2026-03-09" ∷ "loan 2 due 2026-03-09" ∷ "fine 0 price 2500" ∷ "refused 38" ∷ "owed 501" ∷ "refused 38" ∷ "owed 500"
    ∷ "loan 1 due 2026-03-16" ∷ [])
unfolding digits reply_text reply_words routed_words
debt_stops_renewals = gives refl

-- A copy that was withdrawn is lent to nobody.
withdrawn_copy_is_not_lent : Gives ground
    (desk (Withdraw 10 ∷ CheckOut 1 10 1 ∷ CheckOut 1 11 1 ∷ []))
    ("ok" ∷ "refused 35" ∷ "loan 1 due 2026-03-09" ∷ [])
unfolding digits reply_text reply_words routed_words
withdrawn_copy_is_not_lent = gives refl

-- A payment that is sent twice with one key is booked once; the key is refused to another payment.
payment_is_booked_once : Gives (after ground (desk (CheckOut 1 10 1 ∷ BeginDay 20529 ∷ Missing 10 ∷ CheckIn 10 1 ∷ [])))
    (by_desk (codes "p1") (Pay 1 2600) ∷ by_desk (codes "p1") (Pay 1 2600) ∷ by_desk (codes "p1") (Pay 1 2500) ∷ by_desk (codes "p2") (Pay 1 1) ∷ [])
    ("owed 0" ∷ "owed 0" ∷ "refused 80" ∷ "refused 60" ∷ [])
unfolding digits reply_text reply_words routed_words request_text command_words
payment_is_booked_once = gives refl

-- The fine, the price and the payment are the three lines of that account.
payment_is_one_line : length (account
    (after ground (desk (CheckOut 1 10 1 ∷ BeginDay 20529 ∷ Missing 10 ∷ []) ++ by_desk (codes "p1") (Pay 1 2600)
    ∷ by_desk (codes "p1") (Pay 1 2600) ∷ [])) 1) ≡ 3
unfolding digits
payment_is_one_line = refl

-- Renewals come to the end of the calendar, and today to its own last day.
calendar_ends : Gives ground
    (desk (Branch 3 5 (codes "Hill") ∷ Rule 1 3 365 99 20 100 ∷ Acquire 41 401 3 3 900 (codes "Last Light") ∷ BeginDay 80718 ∷ CheckOut 1 41 3
    ∷ Renew 1 ∷ Renew 1 ∷ Renew 1 ∷ Renew 1 ∷ Renew 1 ∷ Renew 1 ∷ Renew 1 ∷ Renew 1 ∷ Renew 1 ∷ BeginDay 80719 ∷ []))
    ("ok" ∷ "ok" ∷ "ok" ∷ "ok" ∷ "loan 1 due 2191-12-31"
    ∷ "loan 1 due 2192-12-30" ∷ "loan 1 due 2193-12-30" ∷ "loan 1 due 2194-12-30" ∷ "loan 1 due 2195-12-30"
    ∷ "loan 1 due 2196-12-29" ∷ "loan 1 due 2197-12-29" ∷ "loan 1 due 2198-12-29" ∷ "loan 1 due 2199-12-29" ∷ "refused 39" ∷ "refused 23" ∷ [])
unfolding digits reply_text reply_words routed_words
calendar_ends = gives refl

-- A renewal may come to the very last day of the calendar: two days that are closed move the first due day to 2192-01-02.
last_day_of_the_calendar : Gives ground
    (desk (Branch 3 5 (codes "Hill") ∷ Rule 1 3 365 99 20 100 ∷ Acquire 41 401 3 3 900 (codes "Last Light") ∷ BeginDay 80718 ∷ CloseDay 3 81083 ∷ CloseDay 3 81084
    ∷ CheckOut 1 41 3 ∷ Renew 1 ∷ Renew 1 ∷ Renew 1 ∷ Renew 1 ∷ Renew 1 ∷ Renew 1 ∷ Renew 1 ∷ Renew 1 ∷ Renew 1 ∷ []))
    ("ok" ∷ "ok" ∷ "ok" ∷ "ok" ∷ "ok" ∷ "ok" ∷ "loan 1 due 2192-01-02" ∷ "loan 1 due 2193-01-01" ∷ "loan 1 due 2194-01-01" ∷ "loan 1 due 2195-01-01"
    ∷ "loan 1 due 2196-01-01" ∷ "loan 1 due 2196-12-31" ∷ "loan 1 due 2197-12-31" ∷ "loan 1 due 2198-12-31" ∷ "loan 1 due 2199-12-31" ∷ "refused 39" ∷ [])
unfolding digits reply_text reply_words routed_words
last_day_of_the_calendar = gives refl

-- An unknown patron, a copy at another branch, and an unknown copy.
unknown_numbers_are_refused : Gives ground (desk (Page 9 ∷ CheckOut 1 10 2 ∷ CheckOut 1 99 1 ∷ [])) ("refused 11" ∷ "refused 30" ∷ "refused 13" ∷ [])
unfolding digits reply_text reply_words routed_words
unknown_numbers_are_refused = gives refl

-- The key of an accepted request gives its reply again, and the key of a refused one is free. A patron may not check out.
keys_and_callers : Gives ground
    (by_desk (codes "k1") (CheckOut 1 10 1) ∷ by_desk (codes "k1") (CheckOut 1 10 1) ∷ by_desk (codes "k1") (CheckOut 1 11 1)
    ∷ by_desk (codes "k2") (CheckOut 1 99 1) ∷ by_desk (codes "k2") (CheckOut 1 11 1) ∷ by_patron 1 (codes "k3") (CheckOut 1 20 2) ∷ [])
    ("loan 1 due 2026-03-09" ∷ "loan 1 due 2026-03-09" ∷ "refused 80" ∷ "refused 13" ∷ "loan 2 due 2026-03-09" ∷ "refused 81" ∷ [])
unfolding digits reply_text reply_words routed_words request_text command_words
keys_and_callers = gives refl

-- A request that comes twice makes one loan.
one_key_makes_one_loan : loans (after ground (by_desk (codes "k1") (CheckOut 1 10 1) ∷ by_desk (codes "k1") (CheckOut 1 10 1) ∷ [])) ≡ 1
unfolding digits
one_key_makes_one_loan = refl

-- A fine is paid and waived in parts, and no more than is owed.
fine_is_paid_in_parts : Gives ground
    (desk (CheckOut 1 10 1 ∷ BeginDay 20529 ∷ CheckIn 10 1 ∷ Pay 1 30 ∷ Waive 1 20 ∷ Pay 1 51 ∷ Waive 1 0 ∷ []))
    ("loan 1 due 2026-03-09" ∷ "ok" ∷ "fine 100 shelf 1" ∷ "owed 70" ∷ "owed 50" ∷ "refused 60" ∷ "refused 60" ∷ [])
unfolding digits reply_text reply_words routed_words
fine_is_paid_in_parts = gives refl

-- A day that is opened again counts for the next loan, and not for the one before.
opened_day_counts_again : Gives ground
    (desk (CloseDay 1 20521 ∷ CheckOut 1 10 1 ∷ OpenDay 1 20521 ∷ CheckOut 2 11 1 ∷ OpenDay 1 20521 ∷ []))
    ("ok" ∷ "loan 1 due 2026-03-10" ∷ "ok" ∷ "loan 2 due 2026-03-09" ∷ "refused 25" ∷ [])
unfolding digits reply_text reply_words routed_words
opened_day_counts_again = gives refl

-- An overdue loan isn't renewed, whoever stands in line.
overdue_loan_is_not_renewed : Gives ground
    (desk (CheckOut 1 10 1 ∷ BeginDay 20522 ∷ PlaceHold 2 100 1 None ∷ Renew 1 ∷ []))
    ("loan 1 due 2026-03-09" ∷ "ok" ∷ "hold 1" ∷ "refused 41" ∷ [])
unfolding digits reply_text reply_words routed_words
overdue_loan_is_not_renewed = gives refl

-- Nor is a loan that has ended, or one that was never made.
ended_loan_is_not_renewed : Gives ground
    (desk (CheckOut 1 10 1 ∷ CheckIn 10 1 ∷ Renew 1 ∷ Renew 9 ∷ []))
    ("loan 1 due 2026-03-09" ∷ "fine 0 shelf 1" ∷ "refused 40" ∷ "refused 14" ∷ [])
unfolding digits reply_text reply_words routed_words
ended_loan_is_not_renewed = gives refl

-- Another patron's loan or hold is unknown to a patron, and another's number is not allowed.
patrons_see_their_own : Gives ground
    (by_desk (codes "k0") (CheckOut 1 10 1) ∷ by_patron 2 (codes "k1") (Renew 1) ∷ by_patron 1 (codes "k2") (Renew 1) ∷ by_patron 2 (codes "k3") (Page 1)
    ∷ by_patron 1 (codes "k4") (PlaceHold 1 200 1 None) ∷ by_patron 2 (codes "k5") (CancelHold 1) ∷ by_patron 1 (codes "k6") (CancelHold 1) ∷ [])
    ("loan 1 due 2026-03-09" ∷ "refused 14" ∷ "loan 1 due 2026-03-16" ∷ "refused 81" ∷ "hold 1" ∷ "refused 15" ∷ "ok" ∷ [])
unfolding digits reply_text reply_words routed_words
patrons_see_their_own = gives refl

-- The rows of a copies file that come again change nothing, and another text of a title is refused.
copies_file_comes_again : Gives ground
    (by_file (Acquire 50 500 1 1 1500 (codes "Maps, Old and New")) ∷ by_file (Acquire 51 500 1 2 1500 (codes "Maps, Old and New"))
    ∷ by_file (Acquire 50 500 1 1 1500 (codes "Maps, Old and New")) ∷ by_file (Acquire 51 500 1 2 1500 (codes "Maps, Old and New"))
    ∷ by_file (Acquire 52 501 2 1 700 (codes "Winter Bees"))
    ∷ by_file (Acquire 50 500 1 1 1500 (codes "Maps, Old and New")) ∷ by_file (Acquire 51 500 1 2 1500 (codes "Maps, Old and New"))
    ∷ by_file (Acquire 52 501 2 1 700 (codes "Winter Birds")) ∷ [])
    ("ok" ∷ "ok" ∷ "ok" ∷ "ok" ∷ "ok" ∷ "ok" ∷ "ok" ∷ "refused 20" ∷ [])
unfolding digits reply_text reply_words routed_words request_text command_words
copies_file_comes_again = gives refl

-- A row of a copies file that is refused doesn't stop the next.
copies_file_goes_on : Gives ground
    (by_file (Acquire 60 600 1 1 900 (codes "Tall Ships")) ∷ by_file (Acquire 60 600 1 1 900 (codes "Tall Ships"))
    ∷ by_file (Acquire 61 600 1 9 900 (codes "Tall Ships"))
    ∷ by_file (Acquire 61 600 1 2 1000001 (codes "Tall Ships")) ∷ by_file (Acquire 61 600 1 2 900 (codes "Tall Ships")) ∷ [])
    ("ok" ∷ "ok" ∷ "refused 10" ∷ "refused 21" ∷ "ok" ∷ [])
unfolding digits reply_text reply_words routed_words request_text command_words
copies_file_goes_on = gives refl
