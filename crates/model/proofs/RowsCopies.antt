-- Worked examples of what the desk is shown of missing copies, and of the loans of a copy.
use lib.Utf8.{encode}
use Rattle.std.specs.Prelude.{◌≡◌, List, [], ◌∷◌, ◌++◌, map, codes, refl}
use Rattle.std.specs.Fmt.{digits}
use Rattle.std.specs.Str.{encode_utf8_all}
use Rattle.calendar.specs.Days.{day_text, civil_of}
use Rattle.terms.specs.declared.command.Command.{Command}
use Rattle.terms.specs.declared.command.Command.TheVariants.{BeginDay, Acquire, AmendTitle, Rehome, CheckOut, CheckIn, Renew, Missing, Withdraw, Ask}
use Rattle.terms.specs.declared.question.Question.TheVariants.{MissingCopies, Loans}
use Rattle.terms.specs.Texts.{reply_text, reply_words, routed_words}
use Rattle.model.specs.Asking.{asked}
use Rattle.model.proofs.Rows.{by_patron, desk, Gives, gives, ground}
use Rattle.model.proofs.RowsAsking.{shown_lines, then_after}

-- In a new library no copy is missing, and none was lent; a copy that isn't there is refused.
nothing_lost_or_lent : map (asked ground) (MissingCopies 0 ∷ Loans 10 0 ∷ []) ≡ map shown_lines (("end" ∷ []) ∷ ("end" ∷ []) ∷ [])
nothing_lost_or_lent = refl

unknown_copy_is_refused : Gives ground (desk (Ask (Loans 99 0) ∷ Ask (Loans 0 0) ∷ [])) ("refused 13" ∷ "refused 13" ∷ [])
unfolding digits reply_text reply_words routed_words
unknown_copy_is_refused = gives refl

-- A patron is answered neither.
copies_are_the_desks : Gives ground (by_patron 1 (codes "k1") (Ask (Loans 10 0)) ∷ by_patron 1 (codes "k2") (Ask (MissingCopies 0)) ∷ []) ("refused 81" ∷ "refused 81" ∷ [])
unfolding digits reply_text reply_words routed_words
copies_are_the_desks = gives refl

abbrev lent_and_lost : List Command
lent_and_lost = CheckOut 1 10 1 ∷ Missing 20 ∷ []

-- A loan that is open, and a copy that is missing.
open_loan_and_missing_copy : map (asked (then_after lent_and_lost)) (Loans 10 0 ∷ Loans 10 1 ∷ Loans 11 0 ∷ MissingCopies 0 ∷ MissingCopies 19 ∷ MissingCopies 20 ∷ [])
    ≡ map shown_lines (("loan 1 patron 1 made 2026-03-02 due 2026-03-09" ∷ "end" ∷ []) ∷ ("end" ∷ []) ∷ ("end" ∷ [])
    ∷ ("copy 20 home 2 title 200 Salt Roads" ∷ "end" ∷ []) ∷ ("copy 20 home 2 title 200 Salt Roads" ∷ "end" ∷ []) ∷ ("end" ∷ []) ∷ [])
unfolding digits day_text civil_of
open_loan_and_missing_copy = refl

-- A loan that ended, and the next one of the same copy; a loan of another copy in between is none of its.
loans_one_after_another : map (asked (then_after (lent_and_lost ++ BeginDay 20515 ∷ CheckIn 10 1 ∷ CheckOut 3 11 1 ∷ CheckOut 2 10 1 ∷ []))) (Loans 10 0 ∷ Loans 10 1 ∷ Loans 10 3 ∷ [])
    ≡ map shown_lines (("loan 1 patron 1 made 2026-03-02 due 2026-03-09 ended 2026-03-03" ∷ "loan 3 patron 2 made 2026-03-03 due 2026-03-09" ∷ "end" ∷ [])
    ∷ ("loan 3 patron 2 made 2026-03-03 due 2026-03-09" ∷ "end" ∷ []) ∷ ("end" ∷ []) ∷ [])
unfolding digits day_text civil_of
loans_one_after_another = refl

-- A renewal shows its due day; a loan ends when its copy is missing, which is then shown.
loan_of_a_lost_copy : map (asked (then_after (CheckOut 1 10 1 ∷ BeginDay 20515 ∷ CheckIn 10 1 ∷ CheckOut 2 10 1 ∷ Renew 2 ∷ BeginDay 20529 ∷ Missing 10 ∷ []))) (Loans 10 1 ∷ MissingCopies 0 ∷ [])
    ≡ map shown_lines (("loan 2 patron 2 made 2026-03-03 due 2026-03-16 ended 2026-03-17" ∷ "end" ∷ [])
    ∷ ("copy 10 home 1 title 100 Rivers of the North" ∷ "end" ∷ []) ∷ [])
unfolding digits day_text civil_of
loan_of_a_lost_copy = refl

-- A missing copy is shown with the home and the title that it has today.
abbrev rehomed : List Command
rehomed = Acquire 50 400 1 1 900 (encode_utf8_all (codes "2 × 2 Œuvres")) ∷ Missing 50 ∷ Missing 20 ∷ Rehome 50 2 ∷ AmendTitle 200 (codes "Salt Roads South") ∷ []

missing_copies_of_today : map (asked (then_after rehomed)) (MissingCopies 0 ∷ MissingCopies 20 ∷ [])
    ≡ map (λ lines. encode_utf8_all (shown_lines lines)) (("copy 20 home 2 title 200 Salt Roads South" ∷ "copy 50 home 2 title 400 2 × 2 Œuvres" ∷ "end" ∷ [])
    ∷ ("copy 50 home 2 title 400 2 × 2 Œuvres" ∷ "end" ∷ []) ∷ [])
unfolding digits encode
missing_copies_of_today = refl

-- One that is withdrawn or handed in is missing no more; its loans are shown still.
found_or_withdrawn : map (asked (then_after (rehomed ++ Withdraw 50 ∷ CheckIn 20 2 ∷ []))) (MissingCopies 0 ∷ Loans 50 0 ∷ [])
    ≡ map shown_lines (("end" ∷ []) ∷ ("end" ∷ []) ∷ [])
found_or_withdrawn = refl
