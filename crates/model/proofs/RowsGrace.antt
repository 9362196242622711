-- Worked examples of grace days. The loans are due on Monday 2026-03-09: 2026-03-11 is two open days late,
-- 2026-03-12 three.
use Rattle.std.specs.Prelude.{◌≡◌, [], ◌∷◌, refl}
use Rattle.std.specs.Fmt.{digits}
use Rattle.terms.specs.declared.command.Command.TheVariants.{BeginDay, Rule, Grace, CheckOut, CheckIn, Renew}
use Rattle.terms.specs.Texts.{reply_text, reply_words, routed_words}
use Rattle.model.specs.Accounts.{lines}
use Rattle.model.specs.Requests.{after}
use Rattle.model.proofs.Rows.{desk, Gives, gives, ground}

-- Grace days are those of a rule that is there, and at most 365.
grace_is_of_a_rule : Gives ground
    (desk (Grace 1 3 2 ∷ Grace 1 1 366 ∷ Grace 1 1 365 ∷ []))
    ("refused 16" ∷ "refused 21" ∷ "ok" ∷ [])
unfolding digits reply_text reply_words routed_words
grace_is_of_a_rule = gives refl

-- A loan that ends within its grace days costs nothing.
within_the_grace_days_costs_nothing : Gives ground
    (desk (Grace 1 1 2 ∷ CheckOut 1 10 1 ∷ BeginDay 20523 ∷ CheckIn 10 1 ∷ []))
    ("ok" ∷ "loan 1 due 2026-03-09" ∷ "ok" ∷ "fine 0 shelf 1" ∷ [])
unfolding digits reply_text reply_words routed_words
within_the_grace_days_costs_nothing = gives refl

-- Nor does it make a line.
within_the_grace_days_makes_no_line : lines (after ground (desk (Grace 1 1 2 ∷ CheckOut 1 10 1 ∷ BeginDay 20523 ∷ CheckIn 10 1 ∷ []))) ≡ []
unfolding digits
within_the_grace_days_makes_no_line = refl

-- One that ends a day later costs every day that it is late.
past_the_grace_days_costs_every_day : Gives ground
    (desk (Grace 1 1 2 ∷ CheckOut 1 10 1 ∷ BeginDay 20524 ∷ CheckIn 10 1 ∷ []))
    ("ok" ∷ "loan 1 due 2026-03-09" ∷ "ok" ∷ "fine 60 shelf 1" ∷ [])
unfolding digits reply_text reply_words routed_words
past_the_grace_days_costs_every_day = gives refl

-- A loan keeps the grace days that its rule had when it was made: those that come later are not its own.
grace_comes_with_the_next_loan : Gives ground
    (desk (CheckOut 1 10 1 ∷ Grace 1 1 2 ∷ BeginDay 20523 ∷ CheckIn 10 1 ∷ []))
    ("loan 1 due 2026-03-09" ∷ "ok" ∷ "ok" ∷ "fine 40 shelf 1" ∷ [])
unfolding digits reply_text reply_words routed_words
grace_comes_with_the_next_loan = gives refl

-- A rule that is set again has no grace days.
rule_takes_the_grace_away : Gives ground
    (desk (Grace 1 1 2 ∷ Rule 1 1 6 1 20 100 ∷ CheckOut 1 10 1 ∷ BeginDay 20523 ∷ CheckIn 10 1 ∷ []))
    ("ok" ∷ "ok" ∷ "loan 1 due 2026-03-09" ∷ "ok" ∷ "fine 40 shelf 1" ∷ [])
unfolding digits reply_text reply_words routed_words
rule_takes_the_grace_away = gives refl

-- A renewal keeps them, whatever its rule has by then.
renewal_keeps_the_grace : Gives ground
    (desk (Grace 1 1 2 ∷ CheckOut 1 10 1 ∷ Grace 1 1 0 ∷ Renew 1 ∷ BeginDay 20530 ∷ CheckIn 10 1 ∷ []))
    ("ok" ∷ "loan 1 due 2026-03-09" ∷ "ok" ∷ "loan 1 due 2026-03-16" ∷ "ok" ∷ "fine 0 shelf 1" ∷ [])
unfolding digits reply_text reply_words routed_words
renewal_keeps_the_grace = gives refl

-- A loan within its grace days is overdue, and isn't renewed.
overdue_within_the_grace_days : Gives ground
    (desk (Grace 1 1 2 ∷ CheckOut 1 10 1 ∷ BeginDay 20522 ∷ Renew 1 ∷ []))
    ("ok" ∷ "loan 1 due 2026-03-09" ∷ "ok" ∷ "refused 41" ∷ [])
unfolding digits reply_text reply_words routed_words
overdue_within_the_grace_days = gives refl
