-- Worked examples of settings: what the desk is shown of branches, closed days, patron kinds and rules.
use Rattle.std.specs.Prelude.{◌≡◌, [], ◌∷◌, map, codes, refl}
use Rattle.std.specs.Fmt.{digits}
use Rattle.calendar.specs.Days.{day_text, civil_of}
use Rattle.terms.specs.declared.command.Command.TheVariants.{BeginDay, CloseDay, OpenDay, Kind, Rule, Grace, AmendBranch, Week, Ask}
use Rattle.terms.specs.declared.question.Question.TheVariants.{Branches, ClosedDays, Kinds, Rules}
use Rattle.terms.specs.Texts.{reply_text, reply_words, routed_words}
use Rattle.model.specs.Asking.{asked}
use Rattle.model.proofs.Rows.{by_patron, closed_in, desk, Gives, gives, ground}
use Rattle.model.proofs.RowsAsking.{shown_lines, then_after}

-- The branches, from each number on.
branches_told : map (asked ground) (Branches 0 ∷ Branches 1 ∷ Branches 2 ∷ [])
    ≡ map shown_lines (("branch 1 pickup 5 week ooooooc name Main" ∷ "branch 2 pickup 3 week coooooc name Harbour" ∷ "end" ∷ [])
    ∷ ("branch 2 pickup 3 week coooooc name Harbour" ∷ "end" ∷ []) ∷ ("end" ∷ []) ∷ [])
unfolding digits
branches_told = refl

-- The kinds, and the rules of one.
kinds_and_rules : map (asked ground) (Kinds 0 ∷ Kinds 1 ∷ Rules 1 0 ∷ Rules 1 1 ∷ [])
    ≡ map shown_lines (("kind 1 loans 5 holds 5 debt 500" ∷ "end" ∷ []) ∷ ("end" ∷ [])
    ∷ ("rule 1 1 period 6 renewals 1 rate 20 cap 100 grace 0" ∷ "rule 1 2 period 12 renewals 1 rate 20 cap 100 grace 0" ∷ "end" ∷ [])
    ∷ ("rule 1 2 period 12 renewals 1 rate 20 cap 100 grace 0" ∷ "end" ∷ []) ∷ [])
unfolding digits
kinds_and_rules = refl

-- Days that are closed singly, by day, whatever the order in which they were; an earlier day than today is none of them.
closed_days_told : map (asked (then_after (CloseDay 1 20522 ∷ CloseDay 1 20515 ∷ CloseDay 1 20516 ∷ OpenDay 1 20516 ∷ [])))
    (ClosedDays 1 0 ∷ ClosedDays 1 20515 ∷ ClosedDays 2 0 ∷ [])
    ≡ map shown_lines (("day 2026-03-03" ∷ "day 2026-03-10" ∷ "end" ∷ []) ∷ ("day 2026-03-10" ∷ "end" ∷ []) ∷ ("end" ∷ []) ∷ [])
unfolding digits day_text civil_of
closed_days_told = refl

closed_day_has_come : asked (then_after (CloseDay 1 20515 ∷ CloseDay 1 20522 ∷ BeginDay 20515 ∷ [])) (ClosedDays 1 0) ≡ shown_lines ("day 2026-03-10" ∷ "end" ∷ [])
unfolding digits day_text civil_of
closed_day_has_come = refl

-- What was set last is told.
settings_of_today : map (asked (then_after (AmendBranch 2 0 (codes "Harbour Hall") ∷ Week 2 (closed_in "ooooooc") ∷ Kind 1 6 5 500 ∷ Kind 3 1 1 0
    ∷ Rule 1 2 14 0 50 200 ∷ Grace 1 2 3 ∷ Rule 1 1 7 2 10 90 ∷ [])))
    (Branches 1 ∷ Kinds 0 ∷ Rules 1 0 ∷ Rules 3 0 ∷ [])
    ≡ map shown_lines (("branch 2 pickup 0 week ooooooc name Harbour Hall" ∷ "end" ∷ [])
    ∷ ("kind 1 loans 6 holds 5 debt 500" ∷ "kind 3 loans 1 holds 1 debt 0" ∷ "end" ∷ [])
    ∷ ("rule 1 1 period 7 renewals 2 rate 10 cap 90 grace 0" ∷ "rule 1 2 period 14 renewals 0 rate 50 cap 200 grace 3" ∷ "end" ∷ [])
    ∷ ("end" ∷ []) ∷ [])
unfolding digits
settings_of_today = refl

-- Rules of another kind are none of its, whatever they are.
rules_of_another_kind : map (asked (then_after (Kind 2 1 1 0 ∷ Rule 2 3 14 1 50 200 ∷ []))) (Rules 1 2 ∷ Rules 2 0 ∷ [])
    ≡ map shown_lines (("end" ∷ []) ∷ ("rule 2 3 period 14 renewals 1 rate 50 cap 200 grace 0" ∷ "end" ∷ []) ∷ [])
unfolding digits
rules_of_another_kind = refl

-- A branch without closed days is answered; what isn't there is refused.
closed_days_of_a_branch : Gives ground (desk (Ask (ClosedDays 1 0) ∷ Ask (ClosedDays 2 0) ∷ [])) ("end" ∷ "end" ∷ [])
unfolding digits reply_text reply_words routed_words
closed_days_of_a_branch = gives refl

unknown_settings_are_refused : Gives ground (desk (Ask (ClosedDays 3 0) ∷ Ask (Rules 2 0) ∷ [])) ("refused 10" ∷ "refused 17" ∷ [])
unfolding digits reply_text reply_words routed_words
unknown_settings_are_refused = gives refl

-- A patron is answered none.
settings_are_the_desks : Gives ground (by_patron 1 (codes "k1") (Ask (Branches 0)) ∷ by_patron 1 (codes "k2") (Ask (Rules 1 0)) ∷ []) ("refused 81" ∷ "refused 81" ∷ [])
unfolding digits reply_text reply_words routed_words
settings_are_the_desks = gives refl
