-- Worked examples of what patrons may send, and of their keys.
use Rattle.std.specs.Prelude.{[], ◌∷◌, codes, refl, None}
use Rattle.std.specs.Fmt.{digits}
use Rattle.terms.specs.declared.command.Caller.TheVariants.{Patron as Reader}
use Rattle.terms.specs.declared.command.Command.TheVariants.{CheckOut, CheckIn, Renew, PlaceHold, CancelHold, Pay, Page, Ask}
use Rattle.terms.specs.Texts.{request_text, command_words, reply_text, reply_words, routed_words}
use Rattle.terms.specs.declared.question.Question.TheVariants.{Copy}
use Rattle.model.proofs.Rows.{by_desk, by_patron, Gives, gives, ground}

-- A patron's own page, another's, and with another's card key or as one who isn't enrolled.
patrons_show_their_cards : Gives ground
    (by_patron 1 (codes "a") (Page 1) ∷ by_patron 1 (codes "b") (Page 2) ∷ record { caller = Reader 1 (codes "cardkey00002"); key = codes "c"; command = Page 1 }
    ∷ record { caller = Reader 4 (codes "cardkey00001"); key = codes "d"; command = Page 4 } ∷ by_patron 1 (codes "e") (PlaceHold 2 100 1 None) ∷ by_patron 1 (codes "f") (Pay 1 1) ∷ [])
    ("patron 1 owed 0 name Ann Bell" ∷ "refused 81" ∷ "refused 81" ∷ "refused 81" ∷ "refused 81" ∷ "refused 81" ∷ [])
unfolding digits reply_text reply_words routed_words
patrons_show_their_cards = gives refl

-- The desk and each patron have keys of their own.
each_has_keys_of_its_own : Gives ground
    (by_desk (codes "k") (PlaceHold 1 100 1 None) ∷ by_patron 2 (codes "k") (PlaceHold 2 100 1 None) ∷ by_patron 3 (codes "k") (PlaceHold 3 200 2 None)
    ∷ by_patron 2 (codes "k") (PlaceHold 2 100 1 None) ∷ by_patron 2 (codes "k") (PlaceHold 2 200 1 None) ∷ by_patron 2 (codes "m") (CancelHold 1) ∷ by_patron 2 (codes "m") (CancelHold 2) ∷ [])
    ("hold 1" ∷ "hold 2" ∷ "hold 3" ∷ "hold 2" ∷ "refused 80" ∷ "refused 15" ∷ "ok" ∷ [])
unfolding digits reply_text reply_words routed_words request_text command_words
each_has_keys_of_its_own = gives refl

-- Another's loan is unknown to a patron, whether it has ended or not.
ended_loans_of_others_are_unknown : Gives ground
    (by_desk (codes "a") (CheckOut 1 10 1) ∷ by_desk (codes "b") (CheckIn 10 1) ∷ by_patron 2 (codes "c") (Renew 1) ∷ by_patron 1 (codes "d") (Renew 1) ∷ [])
    ("loan 1 due 2026-03-09" ∷ "fine 0 shelf 1" ∷ "refused 14" ∷ "refused 40" ∷ [])
unfolding digits reply_text reply_words routed_words
ended_loans_of_others_are_unknown = gives refl

-- A page looks at no key and keeps none.
pages_keep_no_key : Gives ground
    (by_desk (codes "k") (Page 1) ∷ by_desk (codes "k") (PlaceHold 2 100 1 None) ∷ by_desk (codes "k") (Page 1) ∷ by_patron 2 (codes "k") (Page 2)
    ∷ by_patron 2 (codes "k") (PlaceHold 2 200 1 None) ∷ [])
    ("patron 1 owed 0 name Ann Bell" ∷ "hold 1" ∷ "patron 1 owed 0 name Ann Bell"
    ∷ "patron 2 owed 0 name Bo Carr\nhold 1 at 1 waiting title 100 Rivers of the North" ∷ "hold 2" ∷ [])
unfolding digits reply_text reply_words routed_words request_text command_words
pages_keep_no_key = gives refl

-- What a caller may not send changes nothing.
refused_callers_change_nothing : Gives ground
    (by_patron 1 (codes "a") (PlaceHold 2 100 1 None) ∷ by_patron 1 (codes "b") (CheckIn 10 2) ∷ by_desk (codes "c") (Page 2) ∷ by_desk (codes "d") (PlaceHold 2 100 1 None)
    ∷ by_desk (codes "e") (Ask (Copy 10)) ∷ [])
    ("refused 81" ∷ "refused 81" ∷ "patron 2 owed 0 name Bo Carr" ∷ "hold 1"
    ∷ "copy 10 home 1 kind 1 price 2500 title 100 Rivers of the North\nshelf 1" ∷ [])
unfolding digits reply_text reply_words routed_words
refused_callers_change_nothing = gives refl

-- The second patron's loan is the second patron's alone.
loans_are_their_patrons : Gives ground
    (by_desk (codes "a") (CheckOut 2 10 1) ∷ by_patron 1 (codes "b") (Renew 1) ∷ by_patron 2 (codes "c") (Renew 1) ∷ [])
    ("loan 1 due 2026-03-09" ∷ "refused 14" ∷ "loan 1 due 2026-03-16" ∷ [])
unfolding digits reply_text reply_words routed_words
loans_are_their_patrons = gives refl
