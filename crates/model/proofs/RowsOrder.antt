-- Worked examples of the order of checks, where two of them fail, and of the least numbers.
use Rattle.std.specs.Prelude.{[], ◌∷◌, codes, refl, Some, None}
use Rattle.std.specs.Fmt.{digits}
use Rattle.terms.specs.declared.command.Command.TheVariants.{BeginDay, Branch, Kind, Rule, Grace, Patron, Acquire, CheckOut, CheckIn}
use Rattle.terms.specs.declared.command.Command.TheVariants.{Renew, PlaceHold, CancelHold, Unshelve, Missing, AmendPatron, AmendBranch, AmendCopy}
use Rattle.terms.specs.Texts.{reply_text, reply_words, routed_words}
use Rattle.model.proofs.Rows.{desk, Gives, gives, ground}

-- Limits come first, then what has to be there, a branch before what is done at it; what a patron has on loan before how many holds there are.
first_of_two_checks_is_told : Gives ground
    (desk (Branch 1 61 (codes "Main") ∷ Acquire 0 100 1 9 5 (codes "T") ∷ CheckIn 99 9 ∷ PlaceHold 2 100 9 (Some 20514) ∷ Rule 100 1 6 1 20 100
    ∷ Grace 100 1 2 ∷ Grace 2 1 3 ∷ Grace 1 2 3 ∷ AmendBranch 100 5 (codes "X") ∷ AmendCopy 10 100 5 ∷ Kind 1 5 0 500 ∷ CheckOut 1 10 1
    ∷ PlaceHold 1 100 1 None ∷ []))
    ("refused 21" ∷ "refused 21" ∷ "refused 10" ∷ "refused 10" ∷ "refused 21" ∷ "refused 21" ∷ "refused 16" ∷ "ok" ∷ "refused 21" ∷ "refused 21"
    ∷ "ok" ∷ "loan 1 due 2026-03-09" ∷ "refused 52" ∷ [])
unfolding digits reply_text reply_words routed_words
first_of_two_checks_is_told = gives refl

-- A bad day before a hold that is there, and the state of a hold before its limit.
holds_are_checked_in_order : Gives ground
    (desk (PlaceHold 2 100 1 None ∷ PlaceHold 2 100 1 (Some 20514) ∷ CheckIn 10 1 ∷ CheckOut 2 10 1 ∷ Unshelve 1 ∷ []))
    ("hold 1" ∷ "refused 23" ∷ "fine 0 ready 1 at 1 until 2026-03-07" ∷ "loan 1 due 2026-03-09" ∷ "refused 53" ∷ [])
unfolding digits reply_text reply_words routed_words
holds_are_checked_in_order = gives refl

-- A hold of another title keeps nobody from borrowing, and its branch is not that of this one.
holds_of_other_titles : Gives ground
    (desk (PlaceHold 1 200 2 None ∷ PlaceHold 2 100 1 None ∷ CheckIn 10 1 ∷ CheckOut 2 10 2 ∷ CheckOut 2 10 1 ∷ CheckOut 1 11 1 ∷ []))
    ("hold 1" ∷ "hold 2" ∷ "fine 0 ready 2 at 1 until 2026-03-07" ∷ "refused 30" ∷ "loan 1 due 2026-03-09" ∷ "loan 2 due 2026-03-09" ∷ [])
unfolding digits reply_text reply_words routed_words
holds_of_other_titles = gives refl

-- A hold of the title before a missing rule, the branch before whose hold it is, and the number of loans before the debt.
check_outs_are_checked_in_order : Gives ground
    (desk (Acquire 13 700 3 1 900 (codes "No Rule") ∷ Acquire 14 700 3 1 900 (codes "No Rule") ∷ PlaceHold 1 700 1 None ∷ CheckIn 13 1
    ∷ CheckOut 1 14 1 ∷ CheckOut 2 13 2 ∷ CheckOut 2 10 1 ∷ Missing 10 ∷ Kind 1 0 5 500 ∷ CheckOut 2 11 1 ∷ []))
    ("ok" ∷ "ok" ∷ "hold 1" ∷ "fine 0 ready 1 at 1 until 2026-03-07" ∷ "refused 50" ∷ "refused 30" ∷ "loan 1 due 2026-03-09" ∷ "fine 0 price 2500"
    ∷ "ok" ∷ "refused 37" ∷ [])
unfolding digits reply_text reply_words routed_words
check_outs_are_checked_in_order = gives refl

-- Who stands in line before the renewals that are left, and these before the debt, which is that of the loan's patron.
renewals_are_checked_in_order : Gives ground
    (desk (Rule 1 1 6 0 20 100 ∷ CheckOut 2 10 1 ∷ PlaceHold 3 100 1 None ∷ Renew 1 ∷ CancelHold 1 ∷ CheckOut 2 11 1 ∷ CheckOut 2 30 1 ∷ Missing 11
    ∷ Renew 1 ∷ Renew 3 ∷ []))
    ("ok" ∷ "loan 1 due 2026-03-09" ∷ "hold 1" ∷ "refused 36" ∷ "ok" ∷ "loan 2 due 2026-03-09" ∷ "loan 3 due 2026-03-14" ∷ "fine 0 price 2500"
    ∷ "refused 42" ∷ "refused 38" ∷ [])
unfolding digits reply_text reply_words routed_words
renewals_are_checked_in_order = gives refl

-- The debt comes before the end of the calendar, too.
debt_is_told_before_the_end_of_the_calendar : Gives ground
    (desk (Branch 3 5 (codes "Hill") ∷ Rule 1 3 365 99 20 100 ∷ Acquire 41 401 3 3 900 (codes "Last Light") ∷ BeginDay 80718 ∷ CheckOut 1 10 1
    ∷ CheckOut 1 41 3 ∷ Renew 2 ∷ Renew 2 ∷ Renew 2 ∷ Renew 2 ∷ Renew 2 ∷ Renew 2 ∷ Renew 2 ∷ Renew 2 ∷ Missing 10 ∷ Renew 2 ∷ []))
    ("ok" ∷ "ok" ∷ "ok" ∷ "ok" ∷ "loan 1 due 2191-01-06" ∷ "loan 2 due 2191-12-31" ∷ "loan 2 due 2192-12-30" ∷ "loan 2 due 2193-12-30"
    ∷ "loan 2 due 2194-12-30" ∷ "loan 2 due 2195-12-30" ∷ "loan 2 due 2196-12-29" ∷ "loan 2 due 2197-12-29" ∷ "loan 2 due 2198-12-29"
    ∷ "loan 2 due 2199-12-29" ∷ "fine 0 price 2500" ∷ "refused 38" ∷ [])
unfolding digits reply_text reply_words routed_words
debt_is_told_before_the_end_of_the_calendar = gives refl

-- Each limited number at its least, and a patron and a kind of a high number.
numbers_may_be_the_least : Gives ground
    (desk (Branch 3 0 (codes "X") ∷ AmendBranch 3 0 (codes "Y") ∷ Kind 2 0 0 0 ∷ Rule 2 1 1 0 0 0 ∷ Grace 2 1 0 ∷ Acquire 12 101 1 1 0 (codes "T")
    ∷ AmendCopy 12 1 0 ∷ Kind 61 1 1 1 ∷ Patron 9999998 61 (codes "cardkey00004") (codes "Di") ∷ AmendPatron 9999998 61 (codes "Di East") ∷ []))
    ("ok" ∷ "ok" ∷ "ok" ∷ "ok" ∷ "ok" ∷ "ok" ∷ "ok" ∷ "ok" ∷ "ok" ∷ "ok" ∷ [])
unfolding digits reply_text reply_words routed_words
numbers_may_be_the_least = gives refl
