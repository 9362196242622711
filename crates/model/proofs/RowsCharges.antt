-- Worked examples of charges, and of payments at a counter.
use Rattle.std.specs.Prelude.{◌≡◌, List, [], ◌∷◌, codes, refl, map, option_map, Some, None}
use Rattle.terms.specs.declared.row.Sort.TheVariants.{Payment, Charge as ChargeSort}
use Rattle.std.specs.Fmt.{digits}
use Rattle.calendar.specs.Days.{day_text, civil_of}
use Rattle.terms.specs.declared.command.Command.{Command}
use Rattle.terms.specs.declared.command.Command.TheVariants.{BeginDay, Acquire, CheckOut, Missing, Pay, Waive, Charge, PayAt, Ask}
use Rattle.terms.specs.declared.question.Question.TheVariants.{Account, Debts, Till, TillAt}
use Rattle.terms.specs.Texts.{request_text, command_words, reply_text, reply_words, routed_words}
use Rattle.model.specs.Asking.{asked}
use Rattle.model.specs.History.{History}
use Rattle.model.specs.Reports.{till, report_lines}
use Rattle.model.specs.Picture.{picture}
use Rattle.model.specs.Requests.{after}
use Rattle.model.proofs.Rows.{by_desk, by_patron, desk, Gives, gives, ground}
use Rattle.model.proofs.RowsAsking.{shown_lines}
use Rattle.model.proofs.RowsLabels.{second_day}

-- The second day after these commands of the desk.
abbrev then_charged : List Command → History
then_charged commands = after second_day (desk commands)

-- A charge is owed, listed and shown with where it was made and what it is for.
charge_is_owed : Gives second_day
    (desk (Charge 2 250 1 (codes "Photocopies, 10 pages") ∷ Ask (Debts 0) ∷ []))
    ("owed 250" ∷ "patron 2 owed 250 name Bo Carr\nend" ∷ [])
unfolding digits reply_text reply_words routed_words
charge_is_owed = gives refl

account_of_a_charge : asked (then_charged (Charge 2 250 1 (codes "Photocopies, 10 pages") ∷ [])) (Account 2 0)
    ≡ shown_lines ("patron 2 owed 250 name Bo Carr" ∷ "line 1 2026-03-03 charge 250 at 1 for Photocopies, 10 pages" ∷ "end" ∷ [])
unfolding digits day_text civil_of
account_of_a_charge = refl

-- Before the first charge of a day its till has no row of charges.
till_without_charges : asked second_day (Till 20515)
    ≡ shown_lines ("till 2026-03-03" ∷ "fines                  0" ∷ "prices                 0" ∷ "payments               0" ∷ "waivers                0" ∷ [])
unfolding digits day_text civil_of
till_without_charges = refl

-- The limit of a charge, the patron, the branch and the amount are checked in this order, and so are those of a payment at a counter.
charges_are_checked_in_order : Gives second_day
    (desk (Charge 2 250 1 (codes "Photocopies, 10 pages") ∷ Charge 9 1000001 9 (codes "Card") ∷ Charge 9 0 9 (codes "Card") ∷ Charge 2 0 9 (codes "Card")
    ∷ Charge 2 0 1 (codes "Card") ∷ PayAt 9 0 9 ∷ PayAt 2 0 9 ∷ PayAt 2 0 1 ∷ PayAt 2 251 1 ∷ []))
    ("owed 250" ∷ "refused 21" ∷ "refused 11" ∷ "refused 10" ∷ "refused 60" ∷ "refused 11" ∷ "refused 10" ∷ "refused 60" ∷ "refused 60" ∷ [])
unfolding digits reply_text reply_words routed_words
charges_are_checked_in_order = gives refl

-- The highest charge, and one cent.
charges_at_their_edges : Gives second_day
    (desk (Charge 2 1000000 1 (codes "Card") ∷ Charge 3 1 2 (codes "Card") ∷ PayAt 3 1 2 ∷ PayAt 3 1 2 ∷ []))
    ("owed 1000000" ∷ "owed 1" ∷ "owed 0" ∷ "refused 60" ∷ [])
unfolding digits reply_text reply_words routed_words
charges_at_their_edges = gives refl

-- A charge, a payment at the other branch, a payment and a waiver.
abbrev settled_in_part : List Command
settled_in_part = Charge 2 250 1 (codes "Photocopies, 10 pages") ∷ PayAt 2 100 2 ∷ Pay 2 50 ∷ Waive 2 20 ∷ []

part_of_a_charge_is_settled : Gives second_day (desk settled_in_part) ("owed 250" ∷ "owed 150" ∷ "owed 100" ∷ "owed 80" ∷ [])
unfolding digits reply_text reply_words routed_words
part_of_a_charge_is_settled = gives refl

account_of_a_counter : asked (then_charged settled_in_part) (Account 2 1)
    ≡ shown_lines ("patron 2 owed 80 name Bo Carr" ∷ "line 2 2026-03-03 payment 100 at 2" ∷ "line 3 2026-03-03 payment 50" ∷ "line 4 2026-03-03 waiver 20" ∷ "end" ∷ [])
unfolding digits day_text civil_of
account_of_a_counter = refl

-- The till of the day has a last row of charges.
till_with_charges : asked (then_charged settled_in_part) (Till 20515)
    ≡ shown_lines ("till 2026-03-03" ∷ "fines                  0" ∷ "prices                 0" ∷ "payments             150" ∷ "waivers               20"
    ∷ "charges              250" ∷ [])
unfolding digits day_text civil_of
till_with_charges = refl

-- The report is the same, each line with its newline.
till_report_with_charges : till (then_charged settled_in_part) 20515
    ≡ report_lines (map codes ("till 2026-03-03" ∷ "fines                  0" ∷ "prices                 0" ∷ "payments             150" ∷ "waivers               20"
    ∷ "charges              250" ∷ []))
unfolding digits day_text civil_of
till_report_with_charges = refl

-- The till of each branch has what was made there.
tills_of_branches : map (asked (then_charged settled_in_part)) (TillAt 1 20515 ∷ TillAt 2 20515 ∷ TillAt 1 20514 ∷ [])
    ≡ map shown_lines (
    ("till 2026-03-03 at 1" ∷ "payments               0" ∷ "charges              250" ∷ [])
    ∷ ("till 2026-03-03 at 2" ∷ "payments             100" ∷ "charges                0" ∷ [])
    ∷ ("till 2026-03-02 at 1" ∷ "payments               0" ∷ "charges                0" ∷ []) ∷ [])
unfolding digits day_text civil_of
tills_of_branches = refl

-- A branch that isn't there has no till. A charge that is repeated with its key makes no second line, and another one with that key is refused. Who
-- owes too much borrows nothing.
charges_count_as_debt : Gives second_day
    (by_desk (codes "A0") (Ask (TillAt 9 20515)) ∷ by_desk (codes "c0") (Acquire 40 400 1 2 900 (codes "Night Trains"))
    ∷ by_desk (codes "c1") (Charge 3 600 2 (codes "Lost card")) ∷ by_desk (codes "c1") (Charge 3 600 2 (codes "Lost card"))
    ∷ by_desk (codes "c1") (Charge 3 601 2 (codes "Lost card")) ∷ by_desk (codes "c2") (Ask (Debts 0)) ∷ by_desk (codes "c3") (CheckOut 3 40 2) ∷ [])
    ("refused 10" ∷ "ok" ∷ "owed 600" ∷ "owed 600" ∷ "refused 80" ∷ "patron 3 owed 600 name Cy Dunn\nend" ∷ "refused 38" ∷ [])
unfolding digits reply_text reply_words routed_words request_text command_words
charges_count_as_debt = gives refl

-- Another day has its own till: a fine and a price, but no charge.
abbrev lost_later : List Command
lost_later = Charge 2 250 1 (codes "Photocopies, 10 pages") ∷ PayAt 2 100 2 ∷ Pay 2 50 ∷ Waive 2 20 ∷ Charge 3 600 2 (codes "Lost card")
    ∷ BeginDay 20529 ∷ Missing 10 ∷ []

fine_after_charges : Gives second_day (desk lost_later)
    ("owed 250" ∷ "owed 150" ∷ "owed 100" ∷ "owed 80" ∷ "owed 600" ∷ "ok" ∷ "fine 20 price 3000" ∷ [])
unfolding digits reply_text reply_words routed_words
fine_after_charges = gives refl

account_of_a_lost_copy : map (asked (then_charged lost_later)) (Account 2 4 ∷ Till 20529 ∷ TillAt 1 20529 ∷ [])
    ≡ map shown_lines (
    ("patron 2 owed 3100 name Bo Carr" ∷ "line 6 2026-03-17 fine 20 loan 2 title 100 Rivers of the East"
    ∷ "line 7 2026-03-17 price 3000 loan 2 title 100 Rivers of the East" ∷ "end" ∷ [])
    ∷ ("till 2026-03-17" ∷ "fines                 20" ∷ "prices              3000" ∷ "payments               0" ∷ "waivers                0" ∷ [])
    ∷ ("till 2026-03-17 at 1" ∷ "payments               0" ∷ "charges                0" ∷ []) ∷ [])
unfolding digits day_text civil_of
account_of_a_lost_copy = refl

-- Charges and counters are the desk's.
charges_are_the_desks : Gives ground
    (by_patron 2 (codes "k") (PayAt 2 1 1) ∷ by_patron 2 (codes "l") (Charge 2 1 1 (codes "Card")) ∷ by_patron 2 (codes "m") (Ask (TillAt 1 20514)) ∷ [])
    ("refused 81" ∷ "refused 81" ∷ "refused 81" ∷ [])
unfolding digits reply_text reply_words routed_words
charges_are_the_desks = gives refl

-- The rows of a charge, of a payment at a counter, and of a payment without one.
note_rows : map (picture (then_charged settled_in_part)).notes (1 ∷ 2 ∷ 3 ∷ 4 ∷ 5 ∷ [])
    ≡ Some (record { line = 1; branch = 1; text = Some (codes "Photocopies, 10 pages") }) ∷ Some (record { line = 2; branch = 2; text = None })
    ∷ None ∷ None ∷ None ∷ []
unfolding digits
note_rows = refl

line_rows : map (picture (then_charged settled_in_part)).lines (1 ∷ 2 ∷ [])
    ≡ Some (record { line = 1; patron = 2; day = 20515; sort = ChargeSort; amount = 250; loan = None })
    ∷ Some (record { line = 2; patron = 2; day = 20515; sort = Payment; amount = 100; loan = None }) ∷ []
unfolding digits
line_rows = refl

owed_of_charged : option_map (λ r. r.owed) ((picture (then_charged settled_in_part)).patrons 2) ≡ Some 80
unfolding digits
owed_of_charged = refl
