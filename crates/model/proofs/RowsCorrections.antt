-- Worked examples of corrections: rows that are there get other columns, and what was set before stays.
use Rattle.std.specs.Prelude.{◌≡◌, [], ◌∷◌, codes, refl, None}
use Rattle.std.specs.Fmt.{digits}
use Rattle.terms.specs.declared.command.Caller.TheVariants.{Patron as Reader}
use Rattle.terms.specs.declared.command.Command.TheVariants.{Branch, Kind, Patron, Acquire, CheckOut, CheckIn, PlaceHold, Missing}
use Rattle.terms.specs.declared.command.Command.TheVariants.{Withdraw, Page, SetCardKey, AmendPatron, AmendBranch, AmendTitle, AmendCopy, Rehome}
use Rattle.terms.specs.declared.question.Question.TheVariants.{Copy}
use Rattle.terms.specs.Texts.{reply_text, reply_words, routed_words}
use Rattle.model.specs.Asking.{asked}
use Rattle.model.proofs.Rows.{by_desk, by_patron, desk, Gives, gives, ground}
use Rattle.model.proofs.RowsAsking.{shown_lines, then_after}

-- What is to be corrected exists, and the new numbers are within their limits.
checks_of_corrections : Gives ground
    (desk (SetCardKey 9 (codes "cardkey00009") ∷ AmendPatron 9 100 (codes "Ann") ∷ AmendPatron 9 2 (codes "Ann") ∷ AmendPatron 1 2 (codes "Ann")
    ∷ AmendBranch 0 5 (codes "Main") ∷ AmendBranch 3 61 (codes "Hill") ∷ AmendBranch 3 5 (codes "Hill") ∷ AmendTitle 999 (codes "Rivers")
    ∷ AmendCopy 99 0 900 ∷ AmendCopy 99 1 1000001 ∷ AmendCopy 99 1 900 ∷ Rehome 99 3 ∷ Rehome 99 2 ∷ Withdraw 10 ∷ Rehome 10 3 ∷ Rehome 10 2 ∷ []))
    ("refused 11" ∷ "refused 21" ∷ "refused 11" ∷ "refused 17"
    ∷ "refused 21" ∷ "refused 21" ∷ "refused 10" ∷ "refused 12"
    ∷ "refused 21" ∷ "refused 21" ∷ "refused 13" ∷ "refused 10" ∷ "refused 13" ∷ "ok" ∷ "refused 10" ∷ "refused 35" ∷ [])
unfolding digits reply_text reply_words routed_words
checks_of_corrections = gives refl

-- The commands that make rows compare with the rows as they are now.
rows_are_compared_as_they_are : Gives ground
    (desk (AmendTitle 100 (codes "Rivers of the South") ∷ Acquire 10 100 1 1 2500 (codes "Rivers of the North")
    ∷ Acquire 10 100 1 1 2500 (codes "Rivers of the South") ∷ AmendCopy 10 2 900 ∷ Acquire 10 100 1 1 2500 (codes "Rivers of the South")
    ∷ Acquire 10 100 2 1 900 (codes "Rivers of the South") ∷ AmendBranch 1 7 (codes "Centre") ∷ Branch 1 5 (codes "Main")
    ∷ Branch 1 7 (codes "Centre") ∷ AmendPatron 1 1 (codes "Ann Burns") ∷ Patron 1 1 (codes "cardkey00001") (codes "Ann Bell")
    ∷ Patron 1 1 (codes "cardkey00001") (codes "Ann Burns") ∷ []))
    ("ok" ∷ "refused 20" ∷ "ok" ∷ "ok" ∷ "refused 20" ∷ "ok" ∷ "ok" ∷ "refused 20" ∷ "ok" ∷ "ok" ∷ "refused 20" ∷ "ok" ∷ [])
unfolding digits reply_text reply_words routed_words
rows_are_compared_as_they_are = gives refl

-- A correction with the same content is accepted.
same_content_is_accepted : Gives ground
    (desk (SetCardKey 1 (codes "cardkey00001") ∷ AmendPatron 1 1 (codes "Ann Bell") ∷ AmendTitle 200 (codes "Salt Roads") ∷ Rehome 10 1 ∷ CheckIn 10 1 ∷ []))
    ("ok" ∷ "ok" ∷ "ok" ∷ "ok" ∷ "fine 0 shelf 1" ∷ [])
unfolding digits reply_text reply_words routed_words
same_content_is_accepted = gives refl

-- A copy on the shelf of another home is in transit to its new one, for no hold.
rehomed_from_the_shelf : asked (then_after (Rehome 10 2 ∷ [])) (Copy 10)
    ≡ shown_lines ("copy 10 home 2 kind 1 price 2500 title 100 Rivers of the North" ∷ "transit 2" ∷ [])
unfolding digits
rehomed_from_the_shelf = refl

-- There it goes on the shelf; a copy on loan stays with its patron, and is sent to its new home once it comes back.
rehomed_copies_come_home : Gives ground
    (desk (Rehome 10 2 ∷ CheckIn 10 2 ∷ CheckOut 1 11 1 ∷ Rehome 11 2 ∷ CheckIn 11 1 ∷ Rehome 11 1 ∷ CheckIn 11 2 ∷ CheckIn 11 1 ∷ []))
    ("ok" ∷ "fine 0 shelf 2" ∷ "loan 1 due 2026-03-09" ∷ "ok" ∷ "fine 0 transit 2" ∷ "ok" ∷ "fine 0 transit 1" ∷ "fine 0 shelf 1" ∷ [])
unfolding digits reply_text reply_words routed_words
rehomed_copies_come_home = gives refl

-- A lost copy costs the price that it has now; its loan keeps its due day.
price_as_it_is_now : Gives ground
    (desk (CheckOut 1 10 1 ∷ AmendCopy 10 2 900 ∷ Missing 10 ∷ []))
    ("loan 1 due 2026-03-09" ∷ "ok" ∷ "fine 0 price 900" ∷ [])
unfolding digits reply_text reply_words routed_words
price_as_it_is_now = gives refl

-- A ready hold keeps its shelf limit; the next one gets the new pick-up period.
shelf_limit_stays : Gives ground
    (desk (PlaceHold 2 100 1 None ∷ CheckIn 10 1 ∷ AmendBranch 1 10 (codes "Main") ∷ PlaceHold 3 100 1 None ∷ CheckIn 11 1 ∷ []))
    ("hold 1" ∷ "fine 0 ready 1 at 1 until 2026-03-07" ∷ "ok" ∷ "hold 2" ∷ "fine 0 ready 2 at 1 until 2026-03-12" ∷ [])
unfolding digits reply_text reply_words routed_words
shelf_limit_stays = gives refl

-- The kind that a patron gets rules what comes after.
new_kind_rules : Gives ground
    (desk (Kind 2 0 0 0 ∷ CheckOut 1 10 1 ∷ AmendPatron 1 2 (codes "Ann Bell") ∷ CheckOut 1 20 2 ∷ CheckIn 10 1 ∷ []))
    ("ok" ∷ "loan 1 due 2026-03-09" ∷ "ok" ∷ "refused 16" ∷ "fine 0 shelf 1" ∷ [])
unfolding digits reply_text reply_words routed_words
new_kind_rules = gives refl

-- With the old card key nothing is answered, not even a page; with the new one everything is as before.
old_card_key_is_void : Gives ground
    (by_desk (codes "a") (SetCardKey 1 (codes "anotherkey01")) ∷ by_patron 1 (codes "k") (PlaceHold 1 200 1 None) ∷ by_patron 1 (codes "k") (Page 1)
    ∷ record { caller = Reader 1 (codes "anotherkey01"); key = codes "k"; command = PlaceHold 1 200 1 None } ∷ [])
    ("ok" ∷ "refused 81" ∷ "refused 81" ∷ "hold 1" ∷ [])
unfolding digits reply_text reply_words routed_words
old_card_key_is_void = gives refl
