-- Worked examples of questions: what the desk is shown of copies, lines, accounts and sums.
use Prim.Native.String.{String}
use Rattle.std.specs.Prelude.{◌≡◌, ℕ, ◌+◌, List, [], ◌∷◌, ◌++◌, map, codes, decimal, refl, Some, None}
use Rattle.std.specs.Fmt.{digits}
use Rattle.std.specs.List.{join_with_byte}
use Rattle.calendar.specs.Days.{day_text, civil_of}
use Rattle.terms.specs.declared.command.Command.{Command}
use Rattle.terms.specs.declared.command.Command.TheVariants.{BeginDay, Acquire, CheckOut, CheckIn, PlaceHold, Missing, Withdraw, Pay, Ask}
use Rattle.terms.specs.declared.question.Question.TheVariants.{Copy, Copies, Queue, Account, Debts, Overdue, Shelf, Pulls, Transits, Till}
use Rattle.terms.specs.Texts.{reply_text, reply_words, routed_words}
use Rattle.model.specs.Asking.{asked, listed}
use Rattle.model.specs.History.{History, numbers_to}
use Rattle.model.specs.Requests.{after, replies}
use Rattle.model.proofs.Rows.{by_desk, by_patron, desk, Gives, gives, ground}

-- Lines, parted by newlines.
abbrev pub shown_lines : List String → List ℕ
shown_lines texts = join_with_byte 10 (map codes texts)

-- The small library after these commands of the desk.
abbrev pub then_after : List Command → History
then_after commands = after ground (desk commands)

-- ---- in a new library

-- A copy at home.
copy_on_its_shelf : asked ground (Copy 10) ≡ shown_lines ("copy 10 home 1 kind 1 price 2500 title 100 Rivers of the North" ∷ "shelf 1" ∷ [])
unfolding digits
copy_on_its_shelf = refl

-- What isn't there is refused.
unknown_numbers_are_refused : Gives ground
    (desk (Ask (Copy 99) ∷ Ask (Copies 999 0) ∷ Ask (Queue 999 0) ∷ Ask (Account 9 0) ∷ Ask (Overdue 3 0) ∷ Ask (Shelf 3 0) ∷ Ask (Pulls 3 0)
    ∷ Ask (Transits 3 0) ∷ []))
    ("refused 13" ∷ "refused 12" ∷ "refused 12" ∷ "refused 11" ∷ "refused 10" ∷ "refused 10" ∷ "refused 10" ∷ "refused 10" ∷ [])
unfolding digits reply_text reply_words routed_words
unknown_numbers_are_refused = gives refl

-- A patron is answered no question.
questions_are_the_desks : Gives ground (by_patron 1 (codes "k1") (Ask (Copy 10)) ∷ []) ("refused 81" ∷ [])
unfolding digits reply_text reply_words routed_words
questions_are_the_desks = gives refl

-- A question looks at no key and keeps none: the key of an accepted request gives the answer, and serves a later request.
questions_keep_no_key : map reply_text (replies ground
    (by_desk (codes "k") (Ask (Debts 0)) ∷ by_desk (codes "k") (PlaceHold 2 100 1 None) ∷ by_desk (codes "k") (Ask (Debts 0)) ∷ []))
    ≡ codes "end" ∷ codes "hold 1" ∷ codes "end" ∷ []
unfolding digits reply_text reply_words routed_words
questions_keep_no_key = refl

-- Lists without rows.
empty_lists : map (asked ground) (Queue 100 0 ∷ Debts 0 ∷ Shelf 1 0 ∷ [])
    ≡ map shown_lines (("title 100 Rivers of the North" ∷ "end" ∷ []) ∷ ("end" ∷ [])
    ∷ ("      hold    copy  patron until      title" ∷ "end" ∷ []) ∷ [])
unfolding digits
empty_lists = refl

-- ---- holds, and copies that travel for them

abbrev lent_and_held : List Command
lent_and_held = CheckOut 1 10 1 ∷ PlaceHold 2 100 1 None ∷ PlaceHold 3 100 2 None ∷ []

-- A copy on loan.
copy_on_loan : asked (then_after (CheckOut 1 10 1 ∷ [])) (Copy 10)
    ≡ shown_lines ("copy 10 home 1 kind 1 price 2500 title 100 Rivers of the North" ∷ "loan 1 due 2026-03-09 patron 1 Ann Bell" ∷ [])
unfolding digits day_text civil_of
copy_on_loan = refl

-- The line of a title, whole and from its first hold on, and the copy that is to be taken from the shelves for it.
queue_and_pulls : map (asked (then_after lent_and_held)) (Queue 100 0 ∷ Queue 100 1 ∷ Pulls 1 0 ∷ Pulls 2 0 ∷ [])
    ≡ map shown_lines (("title 100 Rivers of the North" ∷ "hold 1 patron 2 at 1" ∷ "hold 2 patron 3 at 2" ∷ "end" ∷ [])
    ∷ ("title 100 Rivers of the North" ∷ "hold 2 patron 3 at 2" ∷ "end" ∷ [])
    ∷ ("hold 1 copy 11 title 100 Rivers of the North" ∷ "end" ∷ []) ∷ ("end" ∷ []) ∷ [])
unfolding digits
queue_and_pulls = refl

-- A copy on its way: its hold is in line no more, and no copy is left to be taken for the next.
copy_on_its_way : map (asked (then_after (lent_and_held ++ CheckIn 11 2 ∷ [])))
    (Queue 100 0 ∷ Pulls 1 0 ∷ Transits 1 0 ∷ Copies 100 0 ∷ Copy 11 ∷ [])
    ≡ map shown_lines (("title 100 Rivers of the North" ∷ "hold 2 patron 3 at 2" ∷ "end" ∷ [])
    ∷ ("end" ∷ [])
    ∷ ("copy 11 for 1 title 100 Rivers of the North" ∷ "end" ∷ [])
    ∷ ("title 100 Rivers of the North" ∷ "copy 10 loan 1 due 2026-03-09" ∷ "copy 11 transit 1 for 1" ∷ "end" ∷ [])
    ∷ ("copy 11 home 1 kind 1 price 2500 title 100 Rivers of the North" ∷ "transit 1 for 1 patron 2 Bo Carr" ∷ []) ∷ [])
unfolding digits day_text civil_of
copy_on_its_way = refl

abbrev ready_for_one : List Command
ready_for_one = lent_and_held ++ CheckIn 11 2 ∷ CheckIn 11 1 ∷ []

-- A copy on a hold shelf.
copy_on_a_hold_shelf : map (asked (then_after ready_for_one)) (Copy 11 ∷ Shelf 1 0 ∷ [])
    ≡ map shown_lines (("copy 11 home 1 kind 1 price 2500 title 100 Rivers of the North" ∷ "ready 1 at 1 until 2026-03-07 patron 2 Bo Carr" ∷ [])
    ∷ ("      hold    copy  patron until      title" ∷ "         1      11       2 2026-03-07 Rivers of the North" ∷ "end" ∷ []) ∷ [])
unfolding digits day_text civil_of
copy_on_a_hold_shelf = refl

-- ---- what is late, and what is owed

-- A loan that is overdue.
loan_overdue : asked (then_after (ready_for_one ++ BeginDay 20529 ∷ [])) (Overdue 1 0)
    ≡ shown_lines ("      loan  patron    copy due         late title" ∷ "         1       1      10 2026-03-09     7 Rivers of the North" ∷ "end" ∷ [])
unfolding digits day_text civil_of
loan_overdue = refl

abbrev fined : List Command
fined = ready_for_one ++ BeginDay 20529 ∷ CheckIn 10 1 ∷ []

-- The account of a patron who was fined.
account_of_a_fine : asked (then_after fined) (Account 1 0)
    ≡ shown_lines ("patron 1 owed 100 name Ann Bell" ∷ "line 1 2026-03-17 fine 100 loan 1 title 100 Rivers of the North" ∷ "end" ∷ [])
unfolding digits day_text civil_of
account_of_a_fine = refl

-- The same after a payment, from the first line on; who owes something; and the sums of the day.
account_after_a_payment : map (asked (then_after (fined ++ Pay 1 30 ∷ []))) (Account 1 1 ∷ Debts 0 ∷ Debts 1 ∷ Till 20529 ∷ [])
    ≡ map shown_lines (("patron 1 owed 70 name Ann Bell" ∷ "line 2 2026-03-17 payment 30" ∷ "end" ∷ [])
    ∷ ("patron 1 owed 70 name Ann Bell" ∷ "end" ∷ [])
    ∷ ("end" ∷ [])
    ∷ ("till 2026-03-17" ∷ "fines                100" ∷ "prices                 0" ∷ "payments              30" ∷ "waivers                0" ∷ []) ∷ [])
unfolding digits day_text civil_of
account_after_a_payment = refl

-- ---- copies that are gone, and holds to come

abbrev withdrawn : List Command
withdrawn = fined ++ Pay 1 30 ∷ Missing 10 ∷ Withdraw 10 ∷ []

-- A copy that is withdrawn.
copy_withdrawn : asked (then_after withdrawn) (Copy 10)
    ≡ shown_lines ("copy 10 home 1 kind 1 price 2500 title 100 Rivers of the North" ∷ "withdrawn" ∷ [])
unfolding digits
copy_withdrawn = refl

-- A hold from a later day on isn't in line before that day.
queue_from_a_day : map (λ H. asked H (Queue 100 0))
    (then_after (withdrawn ++ PlaceHold 1 100 1 (Some 20544) ∷ []) ∷ then_after (withdrawn ++ PlaceHold 1 100 1 (Some 20544) ∷ BeginDay 20544 ∷ []) ∷ [])
    ≡ map shown_lines (("title 100 Rivers of the North" ∷ "hold 2 patron 3 at 2" ∷ "end" ∷ [])
    ∷ ("title 100 Rivers of the North" ∷ "hold 2 patron 3 at 2" ∷ "hold 3 patron 1 at 1 from 2026-04-01" ∷ "end" ∷ []) ∷ [])
unfolding digits day_text civil_of
queue_from_a_day = refl

-- ---- long lists

-- A list of 101 rows: a hundred of them, and the last.
long_list : map (λ after. listed (record { head = codes "head" ∷ []; numbers = numbers_to 101; row = decimal }) after) (0 ∷ 1 ∷ 100 ∷ 101 ∷ [])
    ≡ join_with_byte 10 (codes "head" ∷ map decimal (numbers_to 100) ++ codes "after 100" ∷ [])
    ∷ join_with_byte 10 (codes "head" ∷ map (λ n. decimal (n + 1)) (numbers_to 100) ++ codes "end" ∷ [])
    ∷ shown_lines ("head" ∷ "101" ∷ "end" ∷ [])
    ∷ shown_lines ("head" ∷ "end" ∷ []) ∷ []
unfolding digits
long_list = refl

-- Copies of one title, numbered from 1001.
abbrev acquired : ℕ → List Command
acquired n = map (λ k. Acquire (k + 1000) 500 1 1 900 (codes "Tall Ships")) (numbers_to n)

-- A title of 101 copies: a hundred of them, and the last.
long_title : map (asked (then_after (acquired 101))) (Copies 500 0 ∷ Copies 500 1100 ∷ [])
    ≡ join_with_byte 10 (codes "title 500 Tall Ships" ∷ map (λ k. codes "copy " ++ decimal (k + 1000) ++ codes " shelf 1") (numbers_to 100) ++ codes "after 1100" ∷ [])
    ∷ shown_lines ("title 500 Tall Ships" ∷ "copy 1101 shelf 1" ∷ "end" ∷ []) ∷ []
unfolding digits
long_title = refl

-- ---- what the desk answers in between

replies_in_between : Gives ground (desk (withdrawn ++ PlaceHold 1 100 1 (Some 20544) ∷ BeginDay 20544 ∷ []))
    ("loan 1 due 2026-03-09" ∷ "hold 1" ∷ "hold 2" ∷ "fine 0 transit 1 for 1" ∷ "fine 0 ready 1 at 1 until 2026-03-07" ∷ "ok" ∷ "fine 100 transit 2 for 2"
    ∷ "owed 70" ∷ "ok" ∷ "ok" ∷ "hold 3" ∷ "ok" ∷ [])
unfolding digits reply_text reply_words routed_words
replies_in_between = gives refl
