-- Worked examples of holds: lines, transits, hold shelves and where their copies go.
use Rattle.std.specs.Prelude.{◌≡◌, [], ◌∷◌, map, refl, Some, None}
use Rattle.std.specs.Fmt.{digits}
use Rattle.terms.specs.declared.command.Command.TheVariants.{BeginDay, CheckOut, CheckIn, Renew, PlaceHold, CancelHold, Unshelve}
use Rattle.terms.specs.declared.command.Command.TheVariants.{UnshelveCancelled, Missing, Withdraw}
use Rattle.terms.specs.Texts.{reply_text, reply_words, routed_words}
use Rattle.terms.specs.declared.row.HoldState.TheVariants.{Waiting, Ready, Filled, Cancelled, Expired}
use Rattle.model.specs.Places.{state, line}
use Rattle.model.specs.Requests.{after}
use Rattle.model.proofs.Rows.{desk, Gives, gives, ground}

-- The first copy travels for the first hold, so the second copy serves the second hold.
copies_serve_the_line_in_order : Gives ground
    (desk (PlaceHold 2 100 1 None ∷ PlaceHold 3 100 2 None ∷ CheckIn 10 2 ∷ CheckIn 11 2 ∷ []))
    ("hold 1" ∷ "hold 2" ∷ "fine 0 transit 1 for 1" ∷ "fine 0 ready 2 at 2 until 2026-03-05" ∷ [])
unfolding digits reply_text reply_words routed_words
copies_serve_the_line_in_order = gives refl

-- A hold from a later day on: no copy is kept for it before its day, its patron can't borrow past it, others can, and on its day it stands in line.
hold_begins_on_its_day : Gives ground
    (desk (PlaceHold 2 100 1 (Some 20514) ∷ PlaceHold 2 100 1 (Some 80719) ∷ PlaceHold 2 100 1 (Some 20517) ∷ CheckIn 10 1 ∷ CheckOut 2 10 1
    ∷ CheckOut 1 10 1 ∷ Renew 1 ∷ BeginDay 20517 ∷ CheckIn 11 1 ∷ []))
    ("refused 23" ∷ "refused 23" ∷ "hold 1" ∷ "fine 0 shelf 1" ∷ "refused 50" ∷ "loan 1 due 2026-03-09" ∷ "loan 1 due 2026-03-16" ∷ "ok"
    ∷ "fine 0 ready 1 at 1 until 2026-03-10" ∷ [])
unfolding digits reply_text reply_words routed_words
hold_begins_on_its_day = gives refl

-- It comes into line by its number: before one that was placed after it.
hold_comes_into_line_by_its_number : map (λ H. line H 100) (after ground (desk (PlaceHold 2 100 1 (Some 20516) ∷ PlaceHold 3 100 1 None ∷ BeginDay 20515 ∷ []))
    ∷ after ground (desk (PlaceHold 2 100 1 (Some 20516) ∷ PlaceHold 3 100 1 None ∷ BeginDay 20516 ∷ [])) ∷ []) ≡ (2 ∷ []) ∷ (1 ∷ 2 ∷ []) ∷ []
unfolding digits
hold_comes_into_line_by_its_number = refl

-- The copy of a cancelled hold goes on to the same branch, and serves the line from there.
cancelled_hold_frees_its_copy : Gives ground
    (desk (PlaceHold 2 100 1 None ∷ PlaceHold 3 100 2 None ∷ CheckIn 10 2 ∷ CancelHold 1 ∷ CheckOut 1 10 1 ∷ CheckIn 10 1 ∷ []))
    ("hold 1" ∷ "hold 2" ∷ "fine 0 transit 1 for 1" ∷ "ok" ∷ "refused 32" ∷ "fine 0 transit 2 for 2" ∷ [])
unfolding digits reply_text reply_words routed_words
cancelled_hold_frees_its_copy = gives refl

-- With nobody in line it stays at home.
copy_with_no_line_stays_at_home : Gives ground
    (desk (PlaceHold 2 100 1 None ∷ PlaceHold 3 100 2 None ∷ CheckIn 10 2 ∷ CancelHold 1 ∷ CheckOut 1 10 1 ∷ CancelHold 2 ∷ CheckIn 10 1 ∷ []))
    ("hold 1" ∷ "hold 2" ∷ "fine 0 transit 1 for 1" ∷ "ok" ∷ "refused 32" ∷ "ok" ∷ "fine 0 shelf 1" ∷ [])
unfolding digits reply_text reply_words routed_words
copy_with_no_line_stays_at_home = gives refl

-- A hold expires only after its limit, and its copy goes to the next in line.
unshelved_copy_serves_the_next : Gives ground
    (desk (PlaceHold 2 100 1 None ∷ PlaceHold 3 100 1 None ∷ CheckIn 10 1 ∷ BeginDay 20519 ∷ Unshelve 1 ∷ BeginDay 20520 ∷ Unshelve 1
    ∷ CancelHold 2 ∷ Unshelve 1 ∷ []))
    ("hold 1" ∷ "hold 2" ∷ "fine 0 ready 1 at 1 until 2026-03-07" ∷ "ok" ∷ "refused 54" ∷ "ok" ∷ "ready 2 at 1 until 2026-03-13"
    ∷ "refused 53" ∷ "refused 53" ∷ [])
unfolding digits reply_text reply_words routed_words
unshelved_copy_serves_the_next = gives refl

-- A copy goes to the patron of its hold shelf alone, and a shelved one to the first in line alone.
holds_are_filled_by_their_patrons : Gives ground
    (desk (PlaceHold 2 100 1 None ∷ PlaceHold 3 100 1 None ∷ CheckIn 10 1 ∷ CheckOut 1 10 1 ∷ CheckOut 2 11 1 ∷ CheckOut 3 11 1 ∷ CheckOut 2 10 1 ∷ []))
    ("hold 1" ∷ "hold 2" ∷ "fine 0 ready 1 at 1 until 2026-03-07" ∷ "refused 33" ∷ "refused 36" ∷ "loan 1 due 2026-03-09" ∷ "loan 2 due 2026-03-09" ∷ [])
unfolding digits reply_text reply_words routed_words
holds_are_filled_by_their_patrons = gives refl

-- Whose hold is ready takes the copy on the hold shelf, and no other of the title.
ready_hold_is_filled_by_its_copy_alone : Gives ground
    (desk (PlaceHold 2 100 1 None ∷ CheckIn 10 1 ∷ CheckOut 2 11 1 ∷ CheckOut 1 11 1 ∷ CheckOut 2 10 1 ∷ []))
    ("hold 1" ∷ "fine 0 ready 1 at 1 until 2026-03-07" ∷ "refused 50" ∷ "loan 1 due 2026-03-09" ∷ "loan 2 due 2026-03-09" ∷ [])
unfolding digits reply_text reply_words routed_words
ready_hold_is_filled_by_its_copy_alone = gives refl

-- A ready hold is cancelled at once, and its copy serves the next in line.
ready_hold_is_cancelled : Gives ground
    (desk (PlaceHold 2 100 1 None ∷ PlaceHold 3 100 1 None ∷ CheckIn 10 1 ∷ UnshelveCancelled 1 ∷ []))
    ("hold 1" ∷ "hold 2" ∷ "fine 0 ready 1 at 1 until 2026-03-07" ∷ "ready 2 at 1 until 2026-03-07" ∷ [])
unfolding digits reply_text reply_words routed_words
ready_hold_is_cancelled = gives refl

-- Copies travel home, are missing, come back, and leave for good.
copies_come_and_go : Gives ground
    (desk (CheckIn 10 2 ∷ Missing 20 ∷ CheckOut 1 20 2 ∷ CheckIn 20 1 ∷ Withdraw 20 ∷ Withdraw 30 ∷ CheckIn 30 1 ∷ []))
    ("fine 0 transit 1" ∷ "ok" ∷ "refused 34" ∷ "fine 0 transit 2" ∷ "refused 32" ∷ "ok" ∷ "refused 35" ∷ [])
unfolding digits reply_text reply_words routed_words
copies_come_and_go = gives refl

-- A hold whose copy is missing keeps its number: from a transit it stands in line again, from the hold shelf it waits again.
missing_copy_sends_its_hold_back : Gives ground
    (desk (PlaceHold 2 100 2 None ∷ PlaceHold 3 100 2 None ∷ CheckIn 10 1 ∷ CheckIn 11 1 ∷ Missing 10 ∷ CheckIn 11 2 ∷ CheckIn 10 2 ∷ Missing 11 ∷ []))
    ("hold 1" ∷ "hold 2" ∷ "fine 0 transit 2 for 1" ∷ "fine 0 transit 2 for 2" ∷ "ok" ∷ "fine 0 ready 2 at 2 until 2026-03-05"
    ∷ "fine 0 ready 1 at 2 until 2026-03-05" ∷ "ok" ∷ [])
unfolding digits reply_text reply_words routed_words
missing_copy_sends_its_hold_back = gives refl

-- Two copies and three holds, checked in, lent and checked in again.
copies_go_round : Gives ground
    (desk (PlaceHold 1 100 1 None ∷ PlaceHold 2 100 2 None ∷ PlaceHold 3 100 1 None ∷ CheckIn 10 2 ∷ CheckIn 10 1 ∷ CheckOut 1 10 1
    ∷ CheckIn 10 1 ∷ CheckIn 11 2 ∷ CheckIn 10 2 ∷ CheckIn 11 1 ∷ []))
    ("hold 1" ∷ "hold 2" ∷ "hold 3" ∷ "fine 0 transit 1 for 1" ∷ "fine 0 ready 1 at 1 until 2026-03-07" ∷ "loan 1 due 2026-03-09" ∷ "fine 0 transit 2 for 2"
    ∷ "fine 0 transit 1 for 3" ∷ "fine 0 ready 2 at 2 until 2026-03-05" ∷ "fine 0 ready 3 at 1 until 2026-03-07" ∷ [])
unfolding digits reply_text reply_words routed_words
copies_go_round = gives refl

-- ---- the states that these leave

-- The hold that was unshelved after its limit is expired.
unshelved_hold_is_expired : state
    (after ground (desk (PlaceHold 2 100 1 None ∷ PlaceHold 3 100 1 None ∷ CheckIn 10 1 ∷ BeginDay 20520 ∷ Unshelve 1 ∷ []))) 1 ≡ Some
    Expired
unfolding digits
unshelved_hold_is_expired = refl

-- Its copy made the next hold ready, until the limit of that day.
next_hold_is_ready : state (after ground
    (desk (PlaceHold 2 100 1 None ∷ PlaceHold 3 100 1 None ∷ CheckIn 10 1 ∷ BeginDay 20520 ∷ Unshelve 1 ∷ []))) 2 ≡ Some Ready
unfolding digits
next_hold_is_ready = refl

-- A check-out off the shelf fills the first hold in line, and one off the hold shelf that of the shelf.
check_outs_fill_holds : map (state
    (after ground (desk (PlaceHold 2 100 1 None ∷ PlaceHold 3 100 1 None ∷ CheckIn 10 1 ∷ CheckOut 3 11 1 ∷ CheckOut 2 10 1 ∷ []))))
    (1 ∷ 2 ∷ [])
    ≡ Some Filled ∷ Some Filled ∷ []
unfolding digits
check_outs_fill_holds = refl

-- A ready hold that is cancelled is so at once.
cancelled_hold_is_cancelled : state
    (after ground (desk (PlaceHold 2 100 1 None ∷ PlaceHold 3 100 1 None ∷ CheckIn 10 1 ∷ UnshelveCancelled 1 ∷ []))) 1 ≡ Some Cancelled
unfolding digits
cancelled_hold_is_cancelled = refl

-- The hold of a copy that went missing in transit stands in line again.
hold_stands_in_line_again : line
    (after ground (desk (PlaceHold 2 100 2 None ∷ PlaceHold 3 100 2 None ∷ CheckIn 10 1 ∷ CheckIn 11 1 ∷ Missing 10 ∷ []))) 100 ≡ 1 ∷ []
unfolding digits
hold_stands_in_line_again = refl

-- The hold of a copy that went missing on the hold shelf waits again, under its own number.
hold_waits_again : state (after ground
    (desk (PlaceHold 2 100 2 None ∷ PlaceHold 3 100 2 None ∷ CheckIn 10 1 ∷ CheckIn 11 1 ∷ Missing 10 ∷ CheckIn 11 2 ∷ CheckIn 10 2
    ∷ Missing 11 ∷ []))) 2 ≡ Some Waiting
unfolding digits
hold_waits_again = refl
