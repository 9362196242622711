-- Worked examples of checks: each limit at its edge, each thing that has to be there, and which of several checks is told.
use Rattle.std.specs.Prelude.{[], ◌∷◌, codes, refl, Some, None}
use Rattle.std.specs.Fmt.{digits}
use Rattle.terms.specs.declared.command.Command.TheVariants.{BeginDay, Branch, Week, CloseDay, OpenDay, Kind, Rule, Grace, Patron, Acquire, CheckOut}
use Rattle.terms.specs.declared.command.Command.TheVariants.{CheckIn, Renew, PlaceHold, CancelHold, Unshelve, UnshelveCancelled, Missing, Withdraw, Pay, Waive, Ask}
use Rattle.terms.specs.declared.question.Question.TheVariants as question
use Rattle.terms.specs.Texts.{reply_text, reply_words, routed_words}
use Rattle.model.proofs.Rows.{closed_in, desk, Gives, gives, ground}

-- A branch that is there, a later day, and a day that is closed singly or not.
calendar_settings_are_checked_in_order : Gives ground
    (desk (CloseDay 9 20521 ∷ CloseDay 1 20514 ∷ CloseDay 1 20521 ∷ CloseDay 1 20521 ∷ OpenDay 9 20521 ∷ OpenDay 1 20514 ∷ OpenDay 1 20522
    ∷ Week 9 (closed_in "ooooooo") ∷ Week 9 (closed_in "ccccccc") ∷ CloseDay 2 20521 ∷ []))
    ("refused 10" ∷ "refused 23" ∷ "ok" ∷ "refused 24" ∷ "refused 10" ∷ "refused 23" ∷ "refused 25" ∷ "refused 10" ∷ "refused 10" ∷ "ok" ∷ [])
unfolding digits reply_text reply_words routed_words
calendar_settings_are_checked_in_order = gives refl

-- Each limited number below its range, above it, and at its highest.
numbers_have_their_limits : Gives ground
    (desk (Branch 0 5 (codes "X") ∷ Branch 100 5 (codes "X") ∷ Branch 3 61 (codes "X") ∷ Branch 99 60 (codes "X") ∷ Kind 0 1 1 1 ∷ Kind 100 1 1 1
    ∷ Kind 2 201 5 500 ∷ Kind 2 5 201 500 ∷ Kind 2 5 5 1000001 ∷ Kind 99 200 200 1000000 ∷ Rule 0 1 6 1 20 100 ∷ Rule 1 0 6 1 20 100
    ∷ Rule 1 100 6 1 20 100 ∷ Rule 1 1 0 1 20 100 ∷ Rule 1 1 366 1 20 100 ∷ Rule 1 1 6 100 20 100 ∷ Rule 1 1 6 1 10001 100 ∷ Rule 1 1 6 1 20 100001
    ∷ Rule 1 99 365 99 10000 100000 ∷ Rule 3 1 6 1 20 100 ∷ Grace 0 1 2 ∷ Grace 1 100 2 ∷ Patron 0 1 (codes "cardkey00004") (codes "Di")
    ∷ Patron 10000000 1 (codes "cardkey00004") (codes "Di") ∷ Patron 4 100 (codes "cardkey00004") (codes "Di")
    ∷ Patron 4 3 (codes "cardkey00004") (codes "Di") ∷ Patron 9999999 1 (codes "cardkey00004") (codes "Di") ∷ Acquire 0 100 1 1 5 (codes "T")
    ∷ Acquire 10000000 100 1 1 5 (codes "T") ∷ Acquire 12 0 1 1 5 (codes "T") ∷ Acquire 12 10000000 1 1 5 (codes "T")
    ∷ Acquire 12 101 0 1 5 (codes "T") ∷ Acquire 12 101 100 1 5 (codes "T") ∷ Acquire 12 101 1 1 1000001 (codes "T")
    ∷ Acquire 12 101 1 9 5 (codes "T") ∷ Acquire 9999999 9999999 99 1 1000000 (codes "T") ∷ []))
    ("refused 21" ∷ "refused 21" ∷ "refused 21" ∷ "ok" ∷ "refused 21" ∷ "refused 21" ∷ "refused 21" ∷ "refused 21" ∷ "refused 21" ∷ "ok"
    ∷ "refused 21" ∷ "refused 21" ∷ "refused 21" ∷ "refused 21" ∷ "refused 21" ∷ "refused 21" ∷ "refused 21" ∷ "refused 21" ∷ "ok" ∷ "refused 17"
    ∷ "refused 21" ∷ "refused 21" ∷ "refused 21" ∷ "refused 21" ∷ "refused 21" ∷ "refused 17" ∷ "ok" ∷ "refused 21" ∷ "refused 21" ∷ "refused 21"
    ∷ "refused 21" ∷ "refused 21" ∷ "refused 21" ∷ "refused 21" ∷ "refused 10" ∷ "ok" ∷ [])
unfolding digits reply_text reply_words routed_words
numbers_have_their_limits = gives refl

-- The same content is taken again and changes nothing; other content in any column is refused.
what_is_there_is_not_changed : Gives ground
    (desk (Branch 1 5 (codes "Main") ∷ Branch 1 6 (codes "Main") ∷ Branch 1 5 (codes "Mein") ∷ Patron 1 1 (codes "cardkey00001") (codes "Ann Bell")
    ∷ Kind 2 5 5 500 ∷ Patron 1 2 (codes "cardkey00001") (codes "Ann Bell") ∷ Patron 1 1 (codes "cardkey00009") (codes "Ann Bell")
    ∷ Patron 1 1 (codes "cardkey00001") (codes "Ann Ball") ∷ Acquire 10 100 1 1 2500 (codes "Rivers of the North")
    ∷ Acquire 10 200 1 1 2500 (codes "Salt Roads") ∷ Acquire 10 100 2 1 2500 (codes "Rivers of the North")
    ∷ Acquire 10 100 1 2 2500 (codes "Rivers of the North") ∷ Acquire 10 100 1 1 2400 (codes "Rivers of the North")
    ∷ Acquire 12 100 1 1 2500 (codes "Rivers of the South") ∷ Ask (question.Copy 10) ∷ CheckIn 10 2
    ∷ Acquire 10 100 1 1 2500 (codes "Rivers of the North") ∷ Ask (question.Copy 10) ∷ []))
    ("ok" ∷ "refused 20" ∷ "refused 20" ∷ "ok" ∷ "ok" ∷ "refused 20" ∷ "refused 20" ∷ "refused 20" ∷ "ok" ∷ "refused 20" ∷ "refused 20" ∷ "refused 20"
    ∷ "refused 20" ∷ "refused 20" ∷ "copy 10 home 1 kind 1 price 2500 title 100 Rivers of the North\nshelf 1" ∷ "fine 0 transit 1" ∷ "ok"
    ∷ "copy 10 home 1 kind 1 price 2500 title 100 Rivers of the North\ntransit 1" ∷ [])
unfolding digits reply_text reply_words routed_words
what_is_there_is_not_changed = gives refl

-- A copy on loan is neither lent nor withdrawn; one that is missing or withdrawn is so once.
a_lent_copy_stays_lent : Gives ground
    (desk (CheckOut 1 10 1 ∷ CheckOut 2 10 1 ∷ Withdraw 10 ∷ CheckIn 10 1 ∷ Withdraw 10 ∷ Withdraw 10 ∷ Missing 10 ∷ CheckOut 1 10 1 ∷ Missing 11
    ∷ Missing 11 ∷ Ask (question.Copy 11) ∷ Withdraw 11 ∷ Missing 11 ∷ CheckOut 9 10 9 ∷ CheckOut 9 10 1 ∷ CheckIn 10 9 ∷ CheckIn 99 1 ∷ Missing 99
    ∷ Withdraw 99 ∷ []))
    ("loan 1 due 2026-03-09" ∷ "refused 31" ∷ "refused 31" ∷ "fine 0 shelf 1" ∷ "ok" ∷ "refused 35" ∷ "refused 35" ∷ "refused 35" ∷ "ok"
    ∷ "refused 34" ∷ "copy 11 home 1 kind 1 price 2500 title 100 Rivers of the North\nmissing" ∷ "ok" ∷ "refused 35" ∷ "refused 10" ∷ "refused 11"
    ∷ "refused 10" ∷ "refused 13" ∷ "refused 13" ∷ "refused 13" ∷ [])
unfolding digits reply_text reply_words routed_words
a_lent_copy_stays_lent = gives refl

-- A copy on the hold shelf comes in by no check-in and is not withdrawn.
hold_shelf_copies_stay : Gives ground
    (desk (PlaceHold 2 100 1 None ∷ CheckIn 10 1 ∷ CheckIn 10 1 ∷ Withdraw 10 ∷ UnshelveCancelled 1 ∷ Ask (question.Copy 10) ∷ Withdraw 10 ∷ []))
    ("hold 1" ∷ "fine 0 ready 1 at 1 until 2026-03-07" ∷ "refused 33" ∷ "refused 33" ∷ "shelf 1"
    ∷ "copy 10 home 1 kind 1 price 2500 title 100 Rivers of the North\nshelf 1" ∷ "ok" ∷ [])
unfolding digits reply_text reply_words routed_words
hold_shelf_copies_stay = gives refl

-- As many loans as the kind allows, which may be none.
loans_have_a_limit : Gives ground
    (desk (Kind 1 2 5 500 ∷ CheckOut 1 10 1 ∷ CheckOut 1 11 1 ∷ CheckOut 1 20 2 ∷ CheckIn 10 1 ∷ CheckOut 1 20 2 ∷ Kind 1 0 5 500 ∷ CheckOut 2 10 1
    ∷ []))
    ("ok" ∷ "loan 1 due 2026-03-09" ∷ "loan 2 due 2026-03-09" ∷ "refused 37" ∷ "fine 0 shelf 1" ∷ "loan 3 due 2026-03-10" ∷ "ok" ∷ "refused 37" ∷ [])
unfolding digits reply_text reply_words routed_words
loans_have_a_limit = gives refl

-- As many active holds as the kind allows, one of a title, and none of a title that the patron has on loan.
holds_have_a_limit : Gives ground
    (desk (Kind 1 5 1 500 ∷ PlaceHold 9 100 1 None ∷ PlaceHold 2 999 1 None ∷ PlaceHold 2 100 9 None ∷ PlaceHold 2 100 1 None ∷ PlaceHold 2 100 1 None
    ∷ PlaceHold 2 200 1 None ∷ CheckIn 10 1 ∷ PlaceHold 2 200 1 None ∷ CheckOut 2 10 1 ∷ PlaceHold 2 100 1 None ∷ PlaceHold 2 200 1 None
    ∷ Kind 1 5 5 500 ∷ PlaceHold 2 300 1 None ∷ CheckIn 10 1 ∷ PlaceHold 2 100 1 None ∷ []))
    ("ok" ∷ "refused 11" ∷ "refused 12" ∷ "refused 10" ∷ "hold 1" ∷ "refused 50" ∷ "refused 51" ∷ "fine 0 ready 1 at 1 until 2026-03-07"
    ∷ "refused 51" ∷ "loan 1 due 2026-03-09" ∷ "refused 52" ∷ "hold 2" ∷ "ok" ∷ "hold 3" ∷ "fine 0 shelf 1" ∷ "hold 4" ∷ [])
unfolding digits reply_text reply_words routed_words
holds_have_a_limit = gives refl

-- The same of holds from a later day on, of which each counts before its day.
holds_from_a_day_have_their_limits : Gives ground
    (desk (CheckOut 1 10 1 ∷ PlaceHold 1 100 1 (Some 20517) ∷ Kind 1 5 1 500 ∷ PlaceHold 1 200 1 (Some 20517) ∷ PlaceHold 1 200 1 None
    ∷ PlaceHold 1 300 1 (Some 20518) ∷ PlaceHold 1 300 1 None ∷ Kind 1 5 0 500 ∷ PlaceHold 2 300 2 (Some 20518) ∷ []))
    ("loan 1 due 2026-03-09" ∷ "refused 52" ∷ "ok" ∷ "hold 1" ∷ "refused 50" ∷ "refused 51" ∷ "refused 51" ∷ "ok" ∷ "refused 51" ∷ [])
unfolding digits reply_text reply_words routed_words
holds_from_a_day_have_their_limits = gives refl

-- A loan has the renewals of its rule when it was made, and each takes one.
renewals_are_counted : Gives ground
    (desk (Rule 1 1 6 2 20 100 ∷ CheckOut 1 10 1 ∷ CheckOut 2 11 1 ∷ Renew 1 ∷ Rule 1 1 6 0 20 100 ∷ Renew 1 ∷ Renew 1 ∷ Renew 2 ∷ Kind 1 5 5 0
    ∷ CheckOut 3 20 2 ∷ Renew 9 ∷ []))
    ("ok" ∷ "loan 1 due 2026-03-09" ∷ "loan 2 due 2026-03-09" ∷ "loan 1 due 2026-03-16" ∷ "ok" ∷ "loan 1 due 2026-03-23" ∷ "refused 42"
    ∷ "loan 2 due 2026-03-16" ∷ "ok" ∷ "loan 3 due 2026-03-10" ∷ "refused 14" ∷ [])
unfolding digits reply_text reply_words routed_words
renewals_are_counted = gives refl

-- Of several checks that fail the first is told.
first_failing_check_is_told : Gives ground
    (desk (PlaceHold 9 999 9 None ∷ PlaceHold 1 999 9 None ∷ Acquire 10 100 1 9 2500 (codes "Rivers of the South")
    ∷ Patron 1 3 (codes "cardkey00001") (codes "Ann Ball") ∷ Rule 1 1 1 1 20 100 ∷ Rule 3 1 0 1 20 100 ∷ Acquire 13 700 3 1 900 (codes "No Rule")
    ∷ CheckOut 1 13 1 ∷ CloseDay 9 20514 ∷ OpenDay 9 20514 ∷ Pay 9 1 ∷ CheckOut 9 99 9 ∷ CheckOut 9 99 1 ∷ CloseDay 1 20515 ∷ BeginDay 20515
    ∷ OpenDay 1 20515 ∷ CloseDay 1 20515 ∷ []))
    ("refused 11" ∷ "refused 12" ∷ "refused 10" ∷ "refused 17" ∷ "ok" ∷ "refused 21" ∷ "ok" ∷ "refused 16" ∷ "refused 10" ∷ "refused 10"
    ∷ "refused 11" ∷ "refused 10" ∷ "refused 11" ∷ "ok" ∷ "ok" ∷ "refused 23" ∷ "refused 23" ∷ [])
unfolding digits reply_text reply_words routed_words
first_failing_check_is_told = gives refl

-- What is asked for or named has to be there.
every_number_is_looked_up : Gives ground
    (desk (Ask (question.Overdue 1 5) ∷ Ask (question.Shelf 1 5) ∷ Ask (question.Pulls 1 5) ∷ Ask (question.Transits 1 5)
    ∷ Ask (question.Copies 100 5) ∷ Ask (question.Queue 100 5) ∷ Ask (question.Account 1 5) ∷ Ask (question.Overdue 9 1) ∷ Ask (question.Shelf 9 1)
    ∷ Ask (question.Pulls 9 1) ∷ Ask (question.Transits 9 1) ∷ Ask (question.Account 9 1) ∷ Ask (question.Queue 9 1) ∷ Ask (question.Copies 9 1)
    ∷ Waive 9 1 ∷ Pay 9 1 ∷ Unshelve 9 ∷ UnshelveCancelled 9 ∷ CancelHold 9 ∷ Renew 9 ∷ PlaceHold 3 100 1 None ∷ UnshelveCancelled 1 ∷ Unshelve 1
    ∷ CheckIn 10 1 ∷ CancelHold 1 ∷ Unshelve 1 ∷ []))
    ("      loan  patron    copy due         late title\nend" ∷ "      hold    copy  patron until      title\nend" ∷ "end" ∷ "end"
    ∷ "title 100 Rivers of the North\ncopy 10 shelf 1\ncopy 11 shelf 1\nend" ∷ "title 100 Rivers of the North\nend"
    ∷ "patron 1 owed 0 name Ann Bell\nend" ∷ "refused 10" ∷ "refused 10" ∷ "refused 10" ∷ "refused 10" ∷ "refused 11" ∷ "refused 12" ∷ "refused 12"
    ∷ "refused 11" ∷ "refused 11" ∷ "refused 15" ∷ "refused 15" ∷ "refused 15" ∷ "refused 14" ∷ "hold 1" ∷ "refused 53" ∷ "refused 53"
    ∷ "fine 0 ready 1 at 1 until 2026-03-07" ∷ "refused 53" ∷ "refused 54" ∷ [])
unfolding digits reply_text reply_words routed_words
every_number_is_looked_up = gives refl
