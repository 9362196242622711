-- Worked examples of the rows in the tables.
use Rattle.std.specs.Prelude.{◌≡◌, [], ◌∷◌, map, codes, refl, Some, None, true, false}
use Rattle.std.specs.Fmt.{digits}
use Rattle.terms.specs.declared.command.Owner.TheVariants.{Desk}
use Rattle.terms.specs.declared.command.Command.TheVariants.{SetCardKey, AmendPatron, AmendBranch, AmendTitle, AmendCopy, Rehome}
use Rattle.terms.specs.declared.command.Command.TheVariants.{BeginDay, Branch, CloseDay, Kind, Rule, Grace, Acquire, CheckOut, CheckIn, Renew}
use Rattle.terms.specs.declared.command.Command.TheVariants.{PlaceHold, CancelHold, Unshelve, UnshelveCancelled, Missing, Withdraw, Pay}
use Rattle.terms.specs.declared.row.Condition.TheVariants.{Present, Missing as Gone, Withdrawn}
use Rattle.terms.specs.declared.row.HoldState.TheVariants.{Waiting, Ready, Filled, Cancelled, Expired}
use Rattle.terms.specs.declared.row.Sort.TheVariants.{Fine, Price, Payment}
use Rattle.terms.specs.Texts.{request_text, command_words, reply_text, reply_words, routed_words}
use Rattle.model.specs.History.{History}
use Rattle.model.specs.Picture.{picture}
use Rattle.model.specs.Requests.{after}
use Rattle.model.proofs.Rows.{closed_in, desk, ground}

abbrev lent : History
lent = after ground (desk (CheckOut 1 10 1 ∷ CheckOut 2 20 2 ∷ Grace 1 1 2 ∷ CheckOut 3 11 1 ∷ PlaceHold 2 100 2 (Some 20516) ∷ Renew 3 ∷ CloseDay 1 20540
    ∷ Kind 2 7 8 900 ∷ BeginDay 20523 ∷ CheckIn 10 1 ∷ []))

abbrev worked : History
worked = after ground (desk (CheckOut 1 10 1 ∷ CheckOut 2 20 2 ∷ Grace 1 1 2 ∷ CheckOut 3 11 1 ∷ PlaceHold 2 100 2 (Some 20516) ∷ Renew 3 ∷ CloseDay 1 20540
    ∷ Kind 2 7 8 900 ∷ BeginDay 20523 ∷ CheckIn 10 1 ∷ CheckIn 10 2 ∷ Missing 20 ∷ Pay 1 10 ∷ Withdraw 30
    ∷ Acquire 12 100 1 1 2500 (codes "Rivers of the North") ∷ CheckIn 12 2
    ∷ PlaceHold 1 200 1 None ∷ []))

meta_row_of_worked : (picture worked).meta ≡ record { schema = 4; today = 20523; next_loan = 4; next_hold = 3; next_line = 5 }
unfolding digits
meta_row_of_worked = refl

branch_rows_of_worked : map (picture worked).branches (1 ∷ 2 ∷ 3 ∷ [])
    ≡ Some (record { branch = 1; pickup = 5; week = closed_in "ooooooc"; name = codes "Main" })
    ∷ Some (record { branch = 2; pickup = 3; week = closed_in "coooooc"; name = codes "Harbour" }) ∷ None ∷ []
unfolding digits
branch_rows_of_worked = refl

closed_days_of_worked : map ((picture worked).closed_days 1) (20539 ∷ 20540 ∷ []) ≡ false ∷ true ∷ []
unfolding digits
closed_days_of_worked = refl

closed_days_of_the_other : (picture worked).closed_days 2 20540 ≡ false
unfolding digits
closed_days_of_the_other = refl

kind_rows_of_worked : map (picture worked).kinds (2 ∷ 3 ∷ []) ≡ Some (record { kind = 2; loans = 7; holds = 8; debt = 900 }) ∷ None ∷ []
unfolding digits
kind_rows_of_worked = refl

rule_rows_of_worked : map ((picture worked).rules 1) (1 ∷ 2 ∷ 3 ∷ [])
    ≡ Some (record { kind = 1; copy_kind = 1; period = 6; renewals = 1; rate = 20; cap = 100; grace = 2 })
    ∷ Some (record { kind = 1; copy_kind = 2; period = 12; renewals = 1; rate = 20; cap = 100; grace = 0 }) ∷ None ∷ []
unfolding digits
rule_rows_of_worked = refl

patron_rows_of_worked : map (picture worked).patrons (1 ∷ 2 ∷ 4 ∷ [])
    ≡ Some (record { patron = 1; kind = 1; card_key = codes "cardkey00001"; name = codes "Ann Bell"; owed = 30 })
    ∷ Some (record { patron = 2; kind = 1; card_key = codes "cardkey00002"; name = codes "Bo Carr"; owed = 1220 }) ∷ None ∷ []
unfolding digits
patron_rows_of_worked = refl

title_rows_of_worked : map (picture worked).titles (200 ∷ 201 ∷ []) ≡ Some (record { title = 200; text = codes "Salt Roads" }) ∷ None ∷ []
unfolding digits
title_rows_of_worked = refl

copy_rows_of_worked : map (picture worked).copies (10 ∷ 20 ∷ 30 ∷ 40 ∷ [])
    ≡ Some (record { copy = 10; title = 100; kind = 1; home = 1; price = 2500; condition = Present })
    ∷ Some (record { copy = 20; title = 200; kind = 1; home = 2; price = 1200; condition = Gone })
    ∷ Some (record { copy = 30; title = 300; kind = 2; home = 1; price = 800; condition = Withdrawn }) ∷ None ∷ []
unfolding digits
copy_rows_of_worked = refl

loan_rows_of_worked : map (picture worked).loans (1 ∷ 2 ∷ 3 ∷ 4 ∷ [])
    ≡ Some (record { loan = 1; copy = 10; patron = 1; branch = 1; made = 20514; due = 20521; period = 6; renewals_left = 1; rate = 20; cap = 100; ended = Some 20523; grace = 0 })
    ∷ Some (record { loan = 2; copy = 20; patron = 2; branch = 2; made = 20514; due = 20522; period = 6; renewals_left = 1; rate = 20; cap = 100; ended = Some 20523; grace = 0 })
    ∷ Some (record { loan = 3; copy = 11; patron = 3; branch = 1; made = 20514; due = 20528; period = 6; renewals_left = 0; rate = 20; cap = 100; ended = None; grace = 2 }) ∷ None ∷ []
unfolding digits
loan_rows_of_worked = refl

hold_rows_of_worked : map (picture worked).holds (1 ∷ 2 ∷ 3 ∷ [])
    ≡ Some (record { hold = 1; patron = 2; title = 100; branch = 2; state = Ready; copy = Some 10; limit_day = Some 20526; first_day = Some 20516 })
    ∷ Some (record { hold = 2; patron = 1; title = 200; branch = 1; state = Waiting; copy = None; limit_day = None; first_day = None }) ∷ None ∷ []
unfolding digits
hold_rows_of_worked = refl

transit_rows_of_worked : map (picture worked).transits (10 ∷ 11 ∷ 12 ∷ []) ≡ None ∷ None ∷ Some (record { copy = 12; goal = 1; hold = None }) ∷ []
unfolding digits
transit_rows_of_worked = refl

transit_row_for_a_hold : (picture lent).transits 10 ≡ Some (record { copy = 10; goal = 2; hold = Some 1 })
unfolding digits
transit_row_for_a_hold = refl

line_rows_of_worked : map (picture worked).lines (1 ∷ 2 ∷ 3 ∷ 4 ∷ 5 ∷ [])
    ≡ Some (record { line = 1; patron = 1; day = 20523; sort = Fine; amount = 40; loan = Some 1 })
    ∷ Some (record { line = 2; patron = 2; day = 20523; sort = Fine; amount = 20; loan = Some 2 })
    ∷ Some (record { line = 3; patron = 2; day = 20523; sort = Price; amount = 1200; loan = Some 2 })
    ∷ Some (record { line = 4; patron = 1; day = 20523; sort = Payment; amount = 10; loan = None }) ∷ None ∷ []
unfolding digits
line_rows_of_worked = refl

kept_row_of_worked : (picture worked).kept Desk (codes "l")
    ≡ Some (record { caller = Desk; key = codes "l"; text = codes "missing 20"; reply = codes "fine 20 price 1200" })
unfolding digits request_text command_words reply_text reply_words routed_words
kept_row_of_worked = refl

-- Holds that ended: cancelled while it travelled, expired, filled off the hold shelf.
abbrev ended_holds : History
ended_holds = after ground (desk (PlaceHold 2 100 1 None ∷ PlaceHold 3 100 1 None ∷ PlaceHold 1 100 1 None ∷ CheckIn 10 1 ∷ CheckIn 11 2
    ∷ CancelHold 2 ∷ BeginDay 20520
    ∷ Unshelve 1 ∷ CheckOut 1 10 1 ∷ []))

ended_hold_rows : map (picture ended_holds).holds (1 ∷ 2 ∷ 3 ∷ [])
    ≡ Some (record { hold = 1; patron = 2; title = 100; branch = 1; state = Expired; copy = None; limit_day = None; first_day = None })
    ∷ Some (record { hold = 2; patron = 3; title = 100; branch = 1; state = Cancelled; copy = None; limit_day = None; first_day = None })
    ∷ Some (record { hold = 3; patron = 1; title = 100; branch = 1; state = Filled; copy = None; limit_day = None; first_day = None }) ∷ []
unfolding digits
ended_hold_rows = refl

-- A hold that gets the copy of an unshelved one has its limit from that day.
abbrev passed_on : History
passed_on = after ground (desk (PlaceHold 2 100 1 None ∷ PlaceHold 3 100 1 None ∷ PlaceHold 1 100 1 None ∷ CheckIn 10 1 ∷ BeginDay 20515
    ∷ UnshelveCancelled 1 ∷ []))

limit_of_the_next : (picture passed_on).holds 2
    ≡ Some (record { hold = 2; patron = 3; title = 100; branch = 1; state = Ready; copy = Some 10; limit_day = Some 20521; first_day = None })
unfolding digits
limit_of_the_next = refl

limit_of_the_last : (picture (after passed_on (desk (BeginDay 20522 ∷ [])))).holds 2 ≡ (picture passed_on).holds 2
unfolding digits
limit_of_the_last = refl

-- Each kind of correction of one row: the others are as they were.
abbrev corrected : History
corrected = after ground (desk (Kind 2 7 8 900 ∷ SetCardKey 2 (codes "newkey000002") ∷ AmendPatron 3 2 (codes "Cy Dale") ∷ AmendBranch 2 9 (codes "Port")
    ∷ AmendTitle 200 (codes "Salt Rivers") ∷ AmendCopy 20 2 900 ∷ Rehome 30 2 ∷ []))

patron_rows_of_corrected : map (picture corrected).patrons (1 ∷ 2 ∷ 3 ∷ [])
    ≡ Some (record { patron = 1; kind = 1; card_key = codes "cardkey00001"; name = codes "Ann Bell"; owed = 0 })
    ∷ Some (record { patron = 2; kind = 1; card_key = codes "newkey000002"; name = codes "Bo Carr"; owed = 0 })
    ∷ Some (record { patron = 3; kind = 2; card_key = codes "cardkey00003"; name = codes "Cy Dale"; owed = 0 }) ∷ []
unfolding digits
patron_rows_of_corrected = refl

branch_rows_of_corrected : map (picture corrected).branches (1 ∷ 2 ∷ [])
    ≡ Some (record { branch = 1; pickup = 5; week = closed_in "ooooooc"; name = codes "Main" })
    ∷ Some (record { branch = 2; pickup = 9; week = closed_in "coooooc"; name = codes "Port" }) ∷ []
unfolding digits
branch_rows_of_corrected = refl

title_rows_of_corrected : map (picture corrected).titles (100 ∷ 200 ∷ 300 ∷ [])
    ≡ Some (record { title = 100; text = codes "Rivers of the North" }) ∷ Some (record { title = 200; text = codes "Salt Rivers" })
    ∷ Some (record { title = 300; text = codes "Night Ferries" }) ∷ []
unfolding digits
title_rows_of_corrected = refl

copy_rows_of_corrected : map (picture corrected).copies (10 ∷ 20 ∷ 30 ∷ [])
    ≡ Some (record { copy = 10; title = 100; kind = 1; home = 1; price = 2500; condition = Present })
    ∷ Some (record { copy = 20; title = 200; kind = 2; home = 2; price = 900; condition = Present })
    ∷ Some (record { copy = 30; title = 300; kind = 2; home = 2; price = 800; condition = Present }) ∷ []
unfolding digits
copy_rows_of_corrected = refl

transit_rows_of_corrected : map (picture corrected).transits (10 ∷ 20 ∷ 30 ∷ []) ≡ None ∷ None ∷ Some (record { copy = 30; goal = 2; hold = None }) ∷ []
unfolding digits
transit_rows_of_corrected = refl

-- Rules of two kinds of patrons, of which one has grace days; a new branch; a loan of another kind; a ready hold when another becomes ready later.
abbrev apart : History
apart = after ground (desk (Kind 2 7 8 900 ∷ Rule 2 1 9 3 10 50 ∷ Grace 1 1 4 ∷ Grace 1 2 5 ∷ AmendPatron 2 2 (codes "Bo Carr") ∷ Branch 3 4 (codes "Hill") ∷ CheckOut 2 11 1
    ∷ PlaceHold 3 100 1 None ∷ CheckIn 10 1 ∷ PlaceHold 1 200 2 None ∷ BeginDay 20516 ∷ CheckIn 20 2 ∷ []))

rule_rows_of_apart : (picture apart).rules 1 1 ∷ (picture apart).rules 1 2 ∷ (picture apart).rules 2 1 ∷ (picture apart).rules 2 2 ∷ []
    ≡ Some (record { kind = 1; copy_kind = 1; period = 6; renewals = 1; rate = 20; cap = 100; grace = 4 })
    ∷ Some (record { kind = 1; copy_kind = 2; period = 12; renewals = 1; rate = 20; cap = 100; grace = 5 })
    ∷ Some (record { kind = 2; copy_kind = 1; period = 9; renewals = 3; rate = 10; cap = 50; grace = 0 }) ∷ None ∷ []
unfolding digits
rule_rows_of_apart = refl

branch_row_of_apart : (picture apart).branches 3 ≡ Some (record { branch = 3; pickup = 4; week = closed_in "ooooooo"; name = codes "Hill" })
unfolding digits
branch_row_of_apart = refl

-- The loan's period ends on Wednesday 2026-03-11, day 20523.
loan_row_of_apart : (picture apart).loans 1
    ≡ Some (record {
      loan = 1;
      copy = 11;
      patron = 2;
      branch = 1;
      made = 20514;
      due = 20523;
      period = 9;
      renewals_left = 3;
      rate = 10;
      cap = 50;
      ended = None;
      grace = 0;
    })
unfolding digits
loan_row_of_apart = refl

-- Limits are 2026-03-07 for both: the first hold became ready on 2026-03-02 at branch 1, the second on 2026-03-04 at branch 2.
hold_rows_of_apart : map (picture apart).holds (1 ∷ 2 ∷ [])
    ≡ Some (record { hold = 1; patron = 3; title = 100; branch = 1; state = Ready; copy = Some 10; limit_day = Some 20519; first_day = None })
    ∷ Some (record { hold = 2; patron = 1; title = 200; branch = 2; state = Ready; copy = Some 20; limit_day = Some 20519; first_day = None }) ∷ []
unfolding digits
hold_rows_of_apart = refl

meta_row_of_apart : (picture apart).meta ≡ record { schema = 4; today = 20516; next_loan = 2; next_hold = 3; next_line = 1 }
unfolding digits
meta_row_of_apart = refl

meta_row_of_ground : (picture ground).meta ≡ record { schema = 4; today = 20514; next_loan = 1; next_hold = 1; next_line = 1 }
unfolding digits
meta_row_of_ground = refl

-- The tables of older schemas are empty.
older_tables_of_worked : (picture worked).rules1 1 1 ≡ None
older_tables_of_worked = refl

older_loans_of_worked : (picture worked).loans1 1 ≡ None
older_loans_of_worked = refl

older_holds_of_worked : (picture worked).holds1 1 ≡ None
older_holds_of_worked = refl
