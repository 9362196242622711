-- Worked examples of which rows the lists and reports have: their numbers alone, which are quick to compute.
use Rattle.std.specs.Prelude.{◌≡◌, List, [], ◌∷◌, ◌++◌, map, codes, refl, None}
use Rattle.std.specs.Fmt.{digits}
use Rattle.terms.specs.declared.command.Command.{Command}
use Rattle.terms.specs.declared.command.Command.TheVariants.{BeginDay, CheckOut, CheckIn, PlaceHold, Missing, Pay, Waive, Page}
use Rattle.terms.specs.declared.row.Sort.TheVariants.{Fine, Price, Payment, Waiver}
use Rattle.terms.specs.Texts.{reply_text, reply_words, routed_words}
use Rattle.model.specs.Asking.{overdue_list, shelf_list, debts_list, account_list, sort_word}
use Rattle.model.specs.History.{History}
use Rattle.model.specs.Reports.{till_sum}
use Rattle.model.specs.Requests.{after}
use Rattle.model.proofs.Rows.{desk, Gives, gives, ground}

abbrev then_after : List Command → History
then_after commands = after ground (desk commands)

abbrev three_loans : List Command
three_loans = CheckOut 1 10 1 ∷ CheckOut 2 20 2 ∷ CheckOut 3 30 1 ∷ []

-- Due on 2026-03-09, 10 and 14: a loan is overdue from the day after, at the branch that lent it, while it is open.
overdue_on_the_due_day : map (λ b. (overdue_list (then_after (three_loans ++ BeginDay 20521 ∷ [])) b).numbers) (1 ∷ 2 ∷ []) ≡ [] ∷ [] ∷ []
unfolding digits
overdue_on_the_due_day = refl

overdue_a_day_later : map (λ b. (overdue_list (then_after (three_loans ++ BeginDay 20522 ∷ [])) b).numbers) (1 ∷ 2 ∷ []) ≡ (1 ∷ []) ∷ [] ∷ []
unfolding digits
overdue_a_day_later = refl

overdue_at_the_lending_branch : map (λ b. (overdue_list (then_after (three_loans ++ BeginDay 20523 ∷ CheckIn 10 2 ∷ [])) b).numbers) (1 ∷ 2
    ∷ []) ≡ [] ∷ (2 ∷ []) ∷ []
unfolding digits
overdue_at_the_lending_branch = refl

-- The shelf of a branch has the ready holds of that branch.
shelves_of_two_branches : map (λ b. (shelf_list (then_after (PlaceHold 2 100 1 None ∷ PlaceHold 3 200 2 None ∷ PlaceHold 1 100 1 None ∷ CheckIn 10 1
    ∷ CheckIn 20 2 ∷ [])) b).numbers) (1 ∷ 2 ∷ [])
    ≡ (1 ∷ []) ∷ (2 ∷ []) ∷ []
unfolding digits
shelves_of_two_branches = refl

-- Two fines of two days, a lost copy, a payment and a waiver.
abbrev owing : History
owing = then_after (CheckOut 1 10 1 ∷ CheckOut 2 11 1 ∷ CheckOut 3 20 2 ∷ BeginDay 20523 ∷ CheckIn 10 1 ∷ BeginDay 20524 ∷ CheckIn 11 1 ∷ Missing 20
    ∷ Pay 2 20 ∷ Waive 1 40 ∷ [])

who_owes : (debts_list owing).numbers ≡ 2 ∷ 3 ∷ []
unfolding digits
who_owes = refl

lines_of_each : map (λ p. (account_list owing p).numbers) (1 ∷ 2 ∷ 3 ∷ []) ≡ (1 ∷ 6 ∷ []) ∷ (2 ∷ 5 ∷ []) ∷ (3 ∷ 4 ∷ []) ∷ []
unfolding digits
lines_of_each = refl

sums_of_two_days : map (till_sum owing 20523) (Fine ∷ Price ∷ Payment ∷ Waiver ∷ []) ++ map (till_sum owing 20524) (Fine ∷ Price ∷ Payment ∷ Waiver ∷ [])
    ≡ 40 ∷ 0 ∷ 0 ∷ 0 ∷ 100 ∷ 1200 ∷ 20 ∷ 40 ∷ []
unfolding digits
sums_of_two_days = refl

sort_words : map sort_word (Fine ∷ Price ∷ Payment ∷ Waiver ∷ []) ≡ codes "fine" ∷ codes "price" ∷ codes "payment" ∷ codes "waiver" ∷ []
sort_words = refl

-- A page with a ready hold.
page_shows_a_ready_hold : Gives ground (desk (PlaceHold 1 300 1 None ∷ CheckIn 30 1 ∷ Page 1 ∷ []))
    ("hold 1" ∷ "fine 0 ready 1 at 1 until 2026-03-07" ∷ "patron 1 owed 0 name Ann Bell\nhold 1 at 1 ready title 300 Night Ferries" ∷ [])
unfolding digits reply_text reply_words routed_words
page_shows_a_ready_hold = gives refl
