-- Worked examples of where copies go, and of the lists that show them on their way.
use Rattle.std.specs.Prelude.{[], ◌∷◌, codes, refl, Some, None}
use Rattle.std.specs.Fmt.{digits}
use Rattle.terms.specs.declared.command.Command.TheVariants.{Acquire, CheckIn, PlaceHold, CancelHold, UnshelveCancelled, Missing, Page, Ask, Rehome}
use Rattle.terms.specs.declared.question.Question.TheVariants as question
use Rattle.terms.specs.Texts.{reply_text, reply_words, routed_words}
use Rattle.model.proofs.Rows.{desk, Gives, gives, ground}

-- Copies travel home, or to the branch of a hold, and are shown at the branch to which they travel.
transits_are_to_their_branch : Gives ground
    (desk (CheckIn 10 2 ∷ Ask (question.Transits 1 0) ∷ Ask (question.Transits 2 0) ∷ Ask (question.Copy 10) ∷ PlaceHold 2 200 1 None ∷ CheckIn 20 2
    ∷ Ask (question.Transits 1 0) ∷ Ask (question.Transits 1 10) ∷ Ask (question.Transits 2 0) ∷ Ask (question.Copies 100 0) ∷ Missing 20
    ∷ Ask (question.Copy 20) ∷ Ask (question.Transits 1 0) ∷ Ask (question.Queue 200 0) ∷ Ask (question.Pulls 2 0) ∷ []))
    ("fine 0 transit 1" ∷ "copy 10 title 100 Rivers of the North\nend" ∷ "end"
    ∷ "copy 10 home 1 kind 1 price 2500 title 100 Rivers of the North\ntransit 1" ∷ "hold 1" ∷ "fine 0 transit 1 for 1"
    ∷ "copy 10 title 100 Rivers of the North\ncopy 20 for 1 title 200 Salt Roads\nend" ∷ "copy 20 for 1 title 200 Salt Roads\nend" ∷ "end"
    ∷ "title 100 Rivers of the North\ncopy 10 transit 1\ncopy 11 shelf 1\nend" ∷ "ok"
    ∷ "copy 20 home 2 kind 1 price 1200 title 200 Salt Roads\nmissing" ∷ "copy 10 title 100 Rivers of the North\nend"
    ∷ "title 200 Salt Roads\nhold 1 patron 2 at 1\nend" ∷ "end" ∷ [])
unfolding digits reply_text reply_words routed_words
transits_are_to_their_branch = gives refl

-- A cancelled hold leaves its own copy without a hold, and no other.
a_cancelled_hold_frees_its_own_copy_alone : Gives ground
    (desk (PlaceHold 2 100 1 None ∷ PlaceHold 3 100 2 None ∷ CheckIn 10 2 ∷ CheckIn 11 1 ∷ CancelHold 1 ∷ Ask (question.Copy 11)
    ∷ Ask (question.Copy 10) ∷ CheckIn 11 2 ∷ CheckIn 10 1 ∷ []))
    ("hold 1" ∷ "hold 2" ∷ "fine 0 transit 1 for 1" ∷ "fine 0 transit 2 for 2" ∷ "ok"
    ∷ "copy 11 home 1 kind 1 price 2500 title 100 Rivers of the North\ntransit 2 for 2 patron 3 Cy Dunn"
    ∷ "copy 10 home 1 kind 1 price 2500 title 100 Rivers of the North\ntransit 1" ∷ "fine 0 ready 2 at 2 until 2026-03-05" ∷ "fine 0 shelf 1" ∷ [])
unfolding digits reply_text reply_words routed_words
a_cancelled_hold_frees_its_own_copy_alone = gives refl

-- So it does where no number of a hold is that of its branch; and it was cancelled.
a_cancelled_hold_of_another_branch : Gives ground
    (desk (PlaceHold 2 100 2 None ∷ PlaceHold 3 100 1 None ∷ CheckIn 10 1 ∷ CheckIn 11 2 ∷ CancelHold 1 ∷ Ask (question.Copy 10)
    ∷ Ask (question.Copy 11) ∷ CancelHold 1 ∷ []))
    ("hold 1" ∷ "hold 2" ∷ "fine 0 transit 2 for 1" ∷ "fine 0 transit 1 for 2" ∷ "ok"
    ∷ "copy 10 home 1 kind 1 price 2500 title 100 Rivers of the North\ntransit 2"
    ∷ "copy 11 home 1 kind 1 price 2500 title 100 Rivers of the North\ntransit 1 for 2 patron 3 Cy Dunn" ∷ "refused 53" ∷ [])
unfolding digits reply_text reply_words routed_words
a_cancelled_hold_of_another_branch = gives refl

-- A copy that travels for a hold keeps it, wherever it comes in on its way.
a_copy_in_transit_for_a_hold_stays : Gives ground
    (desk (PlaceHold 2 100 2 None ∷ CheckIn 10 1 ∷ CheckIn 10 1 ∷ Ask (question.Copy 10) ∷ PlaceHold 3 100 1 None ∷ CheckIn 10 1 ∷ CheckIn 11 2
    ∷ CheckIn 11 2 ∷ CheckIn 11 1 ∷ CheckIn 10 2 ∷ Ask (question.Queue 100 0) ∷ []))
    ("hold 1" ∷ "fine 0 transit 2 for 1" ∷ "fine 0 transit 2 for 1"
    ∷ "copy 10 home 1 kind 1 price 2500 title 100 Rivers of the North\ntransit 2 for 1 patron 2 Bo Carr" ∷ "hold 2" ∷ "fine 0 transit 2 for 1"
    ∷ "fine 0 transit 1 for 2" ∷ "fine 0 transit 1 for 2" ∷ "fine 0 ready 2 at 1 until 2026-03-07" ∷ "fine 0 ready 1 at 2 until 2026-03-05"
    ∷ "title 100 Rivers of the North\nend" ∷ [])
unfolding digits reply_text reply_words routed_words
a_copy_in_transit_for_a_hold_stays = gives refl

-- So it does for the third hold, which is ready where it arrives.
a_copy_travels_for_the_third_hold : Gives ground
    (desk (PlaceHold 1 200 1 None ∷ PlaceHold 2 300 1 None ∷ PlaceHold 3 100 2 None ∷ CheckIn 10 1 ∷ CheckIn 10 1 ∷ CheckIn 10 2 ∷ Page 3 ∷ []))
    ("hold 1" ∷ "hold 2" ∷ "hold 3" ∷ "fine 0 transit 2 for 3" ∷ "fine 0 transit 2 for 3" ∷ "fine 0 ready 3 at 2 until 2026-03-05"
    ∷ "patron 3 owed 0 name Cy Dunn\nhold 3 at 2 ready title 100 Rivers of the North" ∷ [])
unfolding digits reply_text reply_words routed_words
a_copy_travels_for_the_third_hold = gives refl

-- A new copy, one with another home and one that is unshelved leave the others where they are.
what_one_copy_does_leaves_the_others : Gives ground
    (desk (CheckIn 10 2 ∷ Rehome 30 2 ∷ Rehome 11 1 ∷ Acquire 12 100 1 1 2500 (codes "Rivers of the North") ∷ Ask (question.Copy 10)
    ∷ Acquire 10 100 1 1 2500 (codes "Rivers of the North") ∷ Ask (question.Copy 11) ∷ Ask (question.Copy 20) ∷ PlaceHold 2 100 1 None ∷ CheckIn 11 1
    ∷ CheckIn 20 1 ∷ UnshelveCancelled 1 ∷ Ask (question.Copy 20) ∷ []))
    ("fine 0 transit 1" ∷ "ok" ∷ "ok" ∷ "ok" ∷ "copy 10 home 1 kind 1 price 2500 title 100 Rivers of the North\ntransit 1" ∷ "ok"
    ∷ "copy 11 home 1 kind 1 price 2500 title 100 Rivers of the North\nshelf 1" ∷ "copy 20 home 2 kind 1 price 1200 title 200 Salt Roads\nshelf 2"
    ∷ "hold 1" ∷ "fine 0 ready 1 at 1 until 2026-03-07" ∷ "fine 0 transit 2" ∷ "shelf 1"
    ∷ "copy 20 home 2 kind 1 price 1200 title 200 Salt Roads\ntransit 2" ∷ [])
unfolding digits reply_text reply_words routed_words
what_one_copy_does_leaves_the_others = gives refl

-- A copy that is unshelved for a hold of another branch travels there, and the hold waits for it.
a_hold_waits_while_its_copy_travels : Gives ground
    (desk (PlaceHold 2 100 1 None ∷ PlaceHold 3 100 2 None ∷ CheckIn 10 1 ∷ UnshelveCancelled 1 ∷ Page 3 ∷ []))
    ("hold 1" ∷ "hold 2" ∷ "fine 0 ready 1 at 1 until 2026-03-07" ∷ "transit 2 for 2"
    ∷ "patron 3 owed 0 name Cy Dunn\nhold 2 at 2 waiting title 100 Rivers of the North" ∷ [])
unfolding digits reply_text reply_words routed_words
a_hold_waits_while_its_copy_travels = gives refl

-- Copies are listed by their numbers, whichever was acquired first.
lists_rise_whatever_came_first : Gives ground
    (desk (Acquire 5 100 1 2 900 (codes "Rivers of the North") ∷ Ask (question.Copies 100 0) ∷ Ask (question.Copies 100 5) ∷ CheckIn 11 2
    ∷ CheckIn 5 1 ∷ Ask (question.Transits 1 0) ∷ Ask (question.Transits 2 0) ∷ PlaceHold 2 100 1 (Some 20517) ∷ Ask (question.Pulls 1 0)
    ∷ Ask (question.Pulls 2 0) ∷ []))
    ("ok" ∷ "title 100 Rivers of the North\ncopy 5 shelf 2\ncopy 10 shelf 1\ncopy 11 shelf 1\nend"
    ∷ "title 100 Rivers of the North\ncopy 10 shelf 1\ncopy 11 shelf 1\nend" ∷ "fine 0 transit 1" ∷ "fine 0 transit 2"
    ∷ "copy 11 title 100 Rivers of the North\nend" ∷ "copy 5 title 100 Rivers of the North\nend" ∷ "hold 1" ∷ "end" ∷ "end" ∷ [])
unfolding digits reply_text reply_words routed_words
lists_rise_whatever_came_first = gives refl
