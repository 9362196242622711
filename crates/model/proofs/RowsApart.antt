-- Worked examples of what is done to one thing and leaves all others as they were.
use Rattle.std.specs.Prelude.{[], ◌∷◌, codes, refl}
use Rattle.std.specs.Fmt.{digits}
use Rattle.terms.specs.declared.command.Command.TheVariants.{BeginDay, CloseDay, OpenDay, Kind, Rule, Patron, Acquire, CheckOut}
use Rattle.terms.specs.declared.command.Command.TheVariants.{CheckIn, Renew, Missing, Pay, Waive, Ask, AmendPatron}
use Rattle.terms.specs.declared.question.Question.TheVariants as question
use Rattle.terms.specs.Texts.{reply_text, reply_words, routed_words}
use lib.Utf8.{encode}
use Rattle.std.specs.Str.{chars}
use Rattle.finding.specs.Finding.{fold, folded, begins_with, occurs_in, words, finds}
use Rattle.model.proofs.Rows.{desk, Gives, gives, ground}

-- A day that one branch opens again stays closed at the other, and its other days stay closed.
opened_days_are_of_their_branch : Gives ground
    (desk (CloseDay 1 20521 ∷ CloseDay 1 20522 ∷ CloseDay 2 20521 ∷ OpenDay 1 20521 ∷ OpenDay 1 20521 ∷ OpenDay 2 20521 ∷ OpenDay 1 20522 ∷ []))
    ("ok" ∷ "ok" ∷ "ok" ∷ "ok" ∷ "refused 25" ∷ "ok" ∷ "ok" ∷ [])
unfolding digits reply_text reply_words routed_words
opened_days_are_of_their_branch = gives refl

-- A loan has the terms of its own patron's kind.
each_kind_has_its_terms : Gives ground
    (desk (Kind 2 5 5 500 ∷ Rule 2 1 3 0 50 200 ∷ AmendPatron 2 2 (codes "Bo Carr") ∷ CheckOut 2 10 1 ∷ CheckOut 1 11 1 ∷ Renew 2 ∷ Renew 1 ∷ []))
    ("ok" ∷ "ok" ∷ "ok" ∷ "loan 1 due 2026-03-05" ∷ "loan 2 due 2026-03-09" ∷ "loan 2 due 2026-03-16" ∷ "refused 42" ∷ [])
unfolding digits reply_text reply_words routed_words
each_kind_has_its_terms = gives refl

-- A fine counts the Mondays of the branch that lent, whoever borrowed there.
days_late_are_the_lending_branches : Gives ground
    (desk (Rule 1 1 6 1 20 1000 ∷ CheckOut 2 10 1 ∷ BeginDay 20528 ∷ CheckIn 10 1 ∷ []))
    ("ok" ∷ "loan 1 due 2026-03-09" ∷ "ok" ∷ "fine 120 shelf 1" ∷ [])
unfolding digits reply_text reply_words routed_words
days_late_are_the_lending_branches = gives refl

-- Who owes a single cent is shown among those who owe.
a_debt_of_one_cent : Gives ground
    (desk (CheckOut 1 10 1 ∷ Missing 10 ∷ Waive 1 2499 ∷ Ask (question.Debts 0) ∷ Pay 1 1 ∷ Ask (question.Debts 0) ∷ []))
    ("loan 1 due 2026-03-09" ∷ "fine 0 price 2500" ∷ "owed 1" ∷ "patron 1 owed 1 name Ann Bell\nend" ∷ "owed 0" ∷ "end" ∷ [])
unfolding digits reply_text reply_words routed_words
a_debt_of_one_cent = gives refl

-- The number of a copy may be that of a title, a kind, a branch or a price; and what comes again with the same content is listed once.
numbers_of_different_things : Gives ground
    (desk (Acquire 1 1 1 1 1 (codes "One") ∷ Acquire 2 2 1 1 1 (codes "Two") ∷ Acquire 100 6 1 1 1 (codes "Six") ∷ Acquire 7 10 1 1 1 (codes "Ten")
    ∷ Acquire 7 10 1 1 1 (codes "Ten") ∷ Patron 1 1 (codes "cardkey00001") (codes "Ann Bell") ∷ Ask (question.Copies 2 0) ∷ Ask (question.Copies 10 0)
    ∷ Ask (question.FindTitles 0 (codes "w")) ∷ Ask (question.FindTitles 0 (codes "six")) ∷ Ask (question.FindTitles 0 (codes "ten"))
    ∷ Ask (question.FindPatrons 0 (codes "n")) ∷ []))
    ("ok" ∷ "ok" ∷ "ok" ∷ "ok" ∷ "ok" ∷ "ok" ∷ "title 2 Two\ncopy 2 shelf 1\nend" ∷ "title 10 Ten\ncopy 7 shelf 1\nend" ∷ "title 2 Two\nend"
    ∷ "title 6 Six\nend" ∷ "title 10 Ten\nend" ∷ "patron 1 owed 0 name Ann Bell\npatron 3 owed 0 name Cy Dunn\nend" ∷ [])
unfolding digits reply_text reply_words routed_words fold folded begins_with occurs_in words finds chars encode
numbers_of_different_things = gives refl

-- Who has no hold is shown all the same.
a_borrower_without_holds : Gives ground
    (desk (Ask (question.Borrower 1) ∷ Ask (question.Borrower 3) ∷ []))
    ("patron 1 owed 0 name Ann Bell\nkind 1" ∷ "patron 3 owed 0 name Cy Dunn\nkind 1" ∷ [])
unfolding digits reply_text reply_words routed_words
a_borrower_without_holds = gives refl
