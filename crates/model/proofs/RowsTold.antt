-- Worked examples of what is told with dates: lists, accounts, sums and pages.
use Rattle.std.specs.Prelude.{[], ◌∷◌, refl, Some, None}
use Rattle.std.specs.Fmt.{digits}
use Rattle.terms.specs.declared.command.Command.TheVariants.{BeginDay, Kind, CheckOut, CheckIn, Renew, PlaceHold, CancelHold}
use Rattle.terms.specs.declared.command.Command.TheVariants.{Unshelve, UnshelveCancelled, Missing, Pay, Waive, Page, Ask}
use Rattle.terms.specs.declared.question.Question.TheVariants as question
use Rattle.terms.specs.Texts.{reply_text, reply_words, routed_words}
use Rattle.calendar.specs.Days.{day_text, civil_of}
use Rattle.model.proofs.Rows.{desk, Gives, gives, ground}

-- Who owes the limit of the kind borrows, who owes a cent more does not; lines, debts and sums.
debt_limit_is_exact : Gives ground
    (desk (Kind 1 5 5 2500 ∷ CheckOut 1 10 1 ∷ Missing 10 ∷ CheckOut 1 11 1 ∷ Kind 1 5 5 2499 ∷ CheckOut 1 20 2 ∷ Ask (question.Account 1 0)
    ∷ Waive 1 2501 ∷ Waive 1 1 ∷ Ask (question.Account 1 0) ∷ Ask (question.Debts 0) ∷ Pay 1 2499 ∷ Ask (question.Debts 0) ∷ Pay 9 1 ∷ Waive 9 1
    ∷ Pay 1 0 ∷ Ask (question.Till 20514) ∷ Ask (question.Till 20515) ∷ []))
    ("ok" ∷ "loan 1 due 2026-03-09" ∷ "fine 0 price 2500" ∷ "loan 2 due 2026-03-09" ∷ "ok" ∷ "refused 38"
    ∷ "patron 1 owed 2500 name Ann Bell\nline 1 2026-03-02 price 2500 loan 1 title 100 Rivers of the North\nend" ∷ "refused 60" ∷ "owed 2499"
    ∷ "patron 1 owed 2499 name Ann Bell\nline 1 2026-03-02 price 2500 loan 1 title 100 Rivers of the North\nline 2 2026-03-02 waiver 1\nend"
    ∷ "patron 1 owed 2499 name Ann Bell\nend" ∷ "owed 0" ∷ "end" ∷ "refused 11" ∷ "refused 11" ∷ "refused 60"
    ∷ "till 2026-03-02\nfines                  0\nprices              2500\npayments            2499\nwaivers                1"
    ∷ "till 2026-03-03\nfines                  0\nprices                 0\npayments               0\nwaivers                0" ∷ [])
unfolding digits reply_text reply_words routed_words day_text civil_of
debt_limit_is_exact = gives refl

-- A loan is overdue from the day after its due day, at the branch that lent it.
overdue_begins_after_the_due_day : Gives ground
    (desk (CheckOut 1 10 1 ∷ CheckOut 2 20 2 ∷ CheckOut 3 30 1 ∷ BeginDay 20520 ∷ Ask (question.Overdue 1 0) ∷ Ask (question.Overdue 2 0)
    ∷ BeginDay 20521 ∷ Ask (question.Overdue 1 0) ∷ Ask (question.Overdue 2 0) ∷ BeginDay 20522 ∷ Ask (question.Overdue 1 0)
    ∷ Ask (question.Overdue 2 0) ∷ Ask (question.Overdue 1 1) ∷ CheckIn 10 2 ∷ Ask (question.Overdue 1 0) ∷ Ask (question.Overdue 2 0) ∷ []))
    ("loan 1 due 2026-03-09" ∷ "loan 2 due 2026-03-10" ∷ "loan 3 due 2026-03-14" ∷ "ok" ∷ "      loan  patron    copy due         late title\nend"
    ∷ "      loan  patron    copy due         late title\nend" ∷ "ok" ∷ "      loan  patron    copy due         late title\nend"
    ∷ "      loan  patron    copy due         late title\nend" ∷ "ok"
    ∷ "      loan  patron    copy due         late title\n         1       1      10 2026-03-09     1 Rivers of the North\nend"
    ∷ "      loan  patron    copy due         late title\nend" ∷ "      loan  patron    copy due         late title\nend" ∷ "fine 20 transit 1"
    ∷ "      loan  patron    copy due         late title\nend" ∷ "      loan  patron    copy due         late title\nend" ∷ [])
unfolding digits reply_text reply_words routed_words day_text civil_of
overdue_begins_after_the_due_day = gives refl

-- A hold shelf shows the ready holds of its own branch.
shelf_is_of_its_branch : Gives ground
    (desk (PlaceHold 2 100 1 None ∷ PlaceHold 3 200 2 None ∷ CheckIn 10 1 ∷ CheckIn 20 2 ∷ Ask (question.Shelf 1 0) ∷ Ask (question.Shelf 2 0)
    ∷ Ask (question.Shelf 1 1) ∷ CheckOut 2 10 1 ∷ Ask (question.Shelf 1 0) ∷ []))
    ("hold 1" ∷ "hold 2" ∷ "fine 0 ready 1 at 1 until 2026-03-07" ∷ "fine 0 ready 2 at 2 until 2026-03-05"
    ∷ "      hold    copy  patron until      title\n         1      10       2 2026-03-07 Rivers of the North\nend"
    ∷ "      hold    copy  patron until      title\n         2      20       3 2026-03-05 Salt Roads\nend"
    ∷ "      hold    copy  patron until      title\nend" ∷ "loan 1 due 2026-03-09" ∷ "      hold    copy  patron until      title\nend" ∷ [])
unfolding digits reply_text reply_words routed_words day_text civil_of
shelf_is_of_its_branch = gives refl

-- What is to be taken from the shelves: a copy for the first hold of each line.
pulls_are_the_first_holds : Gives ground
    (desk (PlaceHold 2 100 2 None ∷ PlaceHold 3 100 1 None ∷ PlaceHold 3 200 1 None ∷ Ask (question.Pulls 1 0) ∷ Ask (question.Pulls 2 0)
    ∷ Ask (question.Pulls 1 1) ∷ CheckOut 2 10 1 ∷ Ask (question.Pulls 1 0) ∷ CheckIn 11 2 ∷ Ask (question.Pulls 1 0) ∷ Ask (question.Copies 100 0)
    ∷ []))
    ("hold 1" ∷ "hold 2" ∷ "hold 3" ∷ "hold 1 copy 10 title 100 Rivers of the North\nend" ∷ "hold 3 copy 20 title 200 Salt Roads\nend" ∷ "end"
    ∷ "loan 1 due 2026-03-09" ∷ "hold 2 copy 11 title 100 Rivers of the North\nend" ∷ "fine 0 transit 1 for 2" ∷ "end"
    ∷ "title 100 Rivers of the North\ncopy 10 loan 1 due 2026-03-09\ncopy 11 transit 1 for 2\nend" ∷ [])
unfolding digits reply_text reply_words routed_words day_text civil_of
pulls_are_the_first_holds = gives refl

-- A copy that is unshelved goes on to the next hold, and then home.
unshelved_copies_go_on : Gives ground
    (desk (PlaceHold 2 100 1 None ∷ PlaceHold 3 100 2 None ∷ CheckIn 10 1 ∷ BeginDay 20520 ∷ Unshelve 1 ∷ Ask (question.Copy 10) ∷ CheckIn 10 2
    ∷ Ask (question.Copy 10) ∷ Ask (question.Shelf 2 0) ∷ Unshelve 2 ∷ UnshelveCancelled 2 ∷ Ask (question.Copy 10) ∷ Ask (question.Transits 1 0)
    ∷ CheckIn 10 1 ∷ Ask (question.Copy 10) ∷ []))
    ("hold 1" ∷ "hold 2" ∷ "fine 0 ready 1 at 1 until 2026-03-07" ∷ "ok" ∷ "transit 2 for 2"
    ∷ "copy 10 home 1 kind 1 price 2500 title 100 Rivers of the North\ntransit 2 for 2 patron 3 Cy Dunn" ∷ "fine 0 ready 2 at 2 until 2026-03-11"
    ∷ "copy 10 home 1 kind 1 price 2500 title 100 Rivers of the North\nready 2 at 2 until 2026-03-11 patron 3 Cy Dunn"
    ∷ "      hold    copy  patron until      title\n         2      10       3 2026-03-11 Rivers of the North\nend" ∷ "refused 54" ∷ "transit 1"
    ∷ "copy 10 home 1 kind 1 price 2500 title 100 Rivers of the North\ntransit 1" ∷ "copy 10 title 100 Rivers of the North\nend" ∷ "fine 0 shelf 1"
    ∷ "copy 10 home 1 kind 1 price 2500 title 100 Rivers of the North\nshelf 1" ∷ [])
unfolding digits reply_text reply_words routed_words day_text civil_of
unshelved_copies_go_on = gives refl

-- Each hold that becomes ready gets its limit from that day.
limits_are_set_anew : Gives ground
    (desk (PlaceHold 2 100 1 None ∷ PlaceHold 3 100 1 None ∷ PlaceHold 1 100 1 None ∷ CheckIn 10 1 ∷ BeginDay 20516 ∷ UnshelveCancelled 1
    ∷ Ask (question.Copy 10) ∷ BeginDay 20521 ∷ Unshelve 2 ∷ BeginDay 20522 ∷ Unshelve 2 ∷ Ask (question.Copy 10) ∷ Ask (question.Shelf 1 0)
    ∷ Unshelve 2 ∷ CancelHold 9 ∷ Unshelve 9 ∷ UnshelveCancelled 9 ∷ UnshelveCancelled 2 ∷ CancelHold 3 ∷ []))
    ("hold 1" ∷ "hold 2" ∷ "hold 3" ∷ "fine 0 ready 1 at 1 until 2026-03-07" ∷ "ok" ∷ "ready 2 at 1 until 2026-03-09"
    ∷ "copy 10 home 1 kind 1 price 2500 title 100 Rivers of the North\nready 2 at 1 until 2026-03-09 patron 3 Cy Dunn" ∷ "ok" ∷ "refused 54" ∷ "ok"
    ∷ "ready 3 at 1 until 2026-03-16"
    ∷ "copy 10 home 1 kind 1 price 2500 title 100 Rivers of the North\nready 3 at 1 until 2026-03-16 patron 1 Ann Bell"
    ∷ "      hold    copy  patron until      title\n         3      10       1 2026-03-16 Rivers of the North\nend" ∷ "refused 53" ∷ "refused 15"
    ∷ "refused 15" ∷ "refused 15" ∷ "refused 53" ∷ "refused 53" ∷ [])
unfolding digits reply_text reply_words routed_words day_text civil_of
limits_are_set_anew = gives refl

-- A copy that is lost, what it costs, and that it comes back.
lost_copies_are_told : Gives ground
    (desk (CheckOut 1 10 1 ∷ PlaceHold 2 100 1 None ∷ CheckIn 11 1 ∷ Missing 11 ∷ Ask (question.Queue 100 0) ∷ BeginDay 20523 ∷ Missing 10
    ∷ Ask (question.Copy 10) ∷ Ask (question.Account 1 0) ∷ Ask (question.Till 20523) ∷ Ask (question.Debts 0) ∷ CheckIn 10 1 ∷ Ask (question.Copy 10)
    ∷ Ask (question.Account 1 1) ∷ Renew 1 ∷ []))
    ("loan 1 due 2026-03-09" ∷ "hold 1" ∷ "fine 0 ready 1 at 1 until 2026-03-07" ∷ "ok" ∷ "title 100 Rivers of the North\nhold 1 patron 2 at 1\nend"
    ∷ "ok" ∷ "fine 40 price 2500" ∷ "copy 10 home 1 kind 1 price 2500 title 100 Rivers of the North\nmissing"
    ∷ "patron 1 owed 2540 name Ann Bell\nline 1 2026-03-11 fine 40 loan 1 title 100 Rivers of the North\nline 2 2026-03-11 price 2500 loan 1 title 100 Rivers of the North\nend"
    ∷ "till 2026-03-11\nfines                 40\nprices              2500\npayments               0\nwaivers                0"
    ∷ "patron 1 owed 2540 name Ann Bell\nend" ∷ "fine 0 ready 1 at 1 until 2026-03-16"
    ∷ "copy 10 home 1 kind 1 price 2500 title 100 Rivers of the North\nready 1 at 1 until 2026-03-16 patron 2 Bo Carr"
    ∷ "patron 1 owed 2540 name Ann Bell\nline 2 2026-03-11 price 2500 loan 1 title 100 Rivers of the North\nend" ∷ "refused 40" ∷ [])
unfolding digits reply_text reply_words routed_words day_text civil_of
lost_copies_are_told = gives refl

-- Two accounts, and the sums of two days.
two_patrons_two_accounts : Gives ground
    (desk (CheckOut 1 10 1 ∷ CheckOut 2 11 1 ∷ BeginDay 20523 ∷ CheckIn 10 1 ∷ BeginDay 20524 ∷ CheckIn 11 1 ∷ Ask (question.Account 1 0)
    ∷ Ask (question.Account 2 0) ∷ Ask (question.Debts 0) ∷ Ask (question.Debts 1) ∷ Pay 2 40 ∷ Waive 1 40 ∷ Ask (question.Debts 0)
    ∷ Ask (question.Account 2 0) ∷ Ask (question.Till 20523) ∷ Ask (question.Till 20524) ∷ CheckOut 2 10 1 ∷ []))
    ("loan 1 due 2026-03-09" ∷ "loan 2 due 2026-03-09" ∷ "ok" ∷ "fine 40 shelf 1" ∷ "ok" ∷ "fine 60 shelf 1"
    ∷ "patron 1 owed 40 name Ann Bell\nline 1 2026-03-11 fine 40 loan 1 title 100 Rivers of the North\nend"
    ∷ "patron 2 owed 60 name Bo Carr\nline 2 2026-03-12 fine 60 loan 2 title 100 Rivers of the North\nend"
    ∷ "patron 1 owed 40 name Ann Bell\npatron 2 owed 60 name Bo Carr\nend" ∷ "patron 2 owed 60 name Bo Carr\nend" ∷ "owed 20" ∷ "owed 0"
    ∷ "patron 2 owed 20 name Bo Carr\nend"
    ∷ "patron 2 owed 20 name Bo Carr\nline 2 2026-03-12 fine 60 loan 2 title 100 Rivers of the North\nline 3 2026-03-12 payment 40\nend"
    ∷ "till 2026-03-11\nfines                 40\nprices                 0\npayments               0\nwaivers                0"
    ∷ "till 2026-03-12\nfines                 60\nprices                 0\npayments              40\nwaivers               40"
    ∷ "loan 3 due 2026-03-18" ∷ [])
unfolding digits reply_text reply_words routed_words day_text civil_of
two_patrons_two_accounts = gives refl

-- A fine counts the open days of the branch that lent, wherever the copy comes in.
fines_are_the_lending_branches : Gives ground
    (desk (CheckOut 1 10 1 ∷ CheckOut 2 20 2 ∷ BeginDay 20528 ∷ CheckIn 20 1 ∷ CheckIn 10 2 ∷ Ask (question.Account 1 0) ∷ Ask (question.Account 2 0)
    ∷ []))
    ("loan 1 due 2026-03-09" ∷ "loan 2 due 2026-03-10" ∷ "ok" ∷ "fine 80 transit 2" ∷ "fine 100 transit 1"
    ∷ "patron 1 owed 100 name Ann Bell\nline 2 2026-03-16 fine 100 loan 1 title 100 Rivers of the North\nend"
    ∷ "patron 2 owed 80 name Bo Carr\nline 1 2026-03-16 fine 80 loan 2 title 200 Salt Roads\nend" ∷ [])
unfolding digits reply_text reply_words routed_words day_text civil_of
fines_are_the_lending_branches = gives refl

-- Holds from a day on, before it and on it.
line_and_first_days : Gives ground
    (desk (PlaceHold 9 100 1 (Some 20517) ∷ PlaceHold 2 999 1 (Some 20517) ∷ PlaceHold 2 100 9 (Some 20517) ∷ PlaceHold 2 100 1 (Some 20517)
    ∷ PlaceHold 2 100 2 (Some 20518) ∷ PlaceHold 3 100 2 (Some 20516) ∷ Ask (question.Queue 100 0) ∷ BeginDay 20516 ∷ Ask (question.Queue 100 0)
    ∷ CheckOut 3 10 1 ∷ Ask (question.Queue 100 0) ∷ BeginDay 20517 ∷ CheckOut 3 11 1 ∷ CheckOut 2 11 1 ∷ PlaceHold 2 100 1 None ∷ []))
    ("refused 11" ∷ "refused 12" ∷ "refused 10" ∷ "hold 1" ∷ "refused 50" ∷ "hold 2" ∷ "title 100 Rivers of the North\nend" ∷ "ok"
    ∷ "title 100 Rivers of the North\nhold 2 patron 3 at 2 from 2026-03-04\nend" ∷ "loan 1 due 2026-03-10" ∷ "title 100 Rivers of the North\nend"
    ∷ "ok" ∷ "refused 36" ∷ "loan 2 due 2026-03-11" ∷ "refused 52" ∷ [])
unfolding digits reply_text reply_words routed_words day_text civil_of
line_and_first_days = gives refl

-- Pages with open loans and active holds, by number.
pages_show_what_is_open : Gives ground
    (desk (CheckOut 1 10 1 ∷ CheckOut 1 20 2 ∷ CheckIn 20 2 ∷ PlaceHold 1 300 1 None ∷ PlaceHold 1 200 2 None ∷ CheckIn 30 1 ∷ Page 1 ∷ CancelHold 2
    ∷ Page 1 ∷ CheckOut 1 30 1 ∷ Renew 1 ∷ Page 1 ∷ Page 2 ∷ []))
    ("loan 1 due 2026-03-09" ∷ "loan 2 due 2026-03-10" ∷ "fine 0 shelf 2" ∷ "hold 1" ∷ "hold 2" ∷ "fine 0 ready 1 at 1 until 2026-03-07"
    ∷ "patron 1 owed 0 name Ann Bell\nloan 1 due 2026-03-09 renewals 1 title 100 Rivers of the North\nhold 1 at 1 ready title 300 Night Ferries\nhold 2 at 2 waiting title 200 Salt Roads"
    ∷ "ok"
    ∷ "patron 1 owed 0 name Ann Bell\nloan 1 due 2026-03-09 renewals 1 title 100 Rivers of the North\nhold 1 at 1 ready title 300 Night Ferries"
    ∷ "loan 3 due 2026-03-14" ∷ "loan 1 due 2026-03-16"
    ∷ "patron 1 owed 0 name Ann Bell\nloan 1 due 2026-03-16 renewals 0 title 100 Rivers of the North\nloan 3 due 2026-03-14 renewals 1 title 300 Night Ferries"
    ∷ "patron 2 owed 0 name Bo Carr" ∷ [])
unfolding digits reply_text reply_words routed_words day_text civil_of
pages_show_what_is_open = gives refl
