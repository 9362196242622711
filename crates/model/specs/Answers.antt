-- The answer to a command.
use Rattle.std.specs.Prelude.{ℕ, ◌+◌, ◌-◌, Some, None, unwrap_or}
use Rattle.terms.specs.declared.command.Owner.{Owner}
use Rattle.terms.specs.declared.command.Command.{Command}
use Rattle.terms.specs.declared.command.Command.TheVariants.{CheckOut, CheckIn, Renew, PlaceHold, Unshelve, UnshelveCancelled, Missing, Pay, Waive, Charge, PayAt, Page, Ask}
use Rattle.terms.specs.declared.reply.Routed.{Routed}
use Rattle.terms.specs.declared.reply.Routed.TheVariants.{Shelf as ToShelf, HoldShelf as ToHoldShelf, Transit as ToTransit}
use Rattle.terms.specs.declared.reply.Reply.{Reply}
use Rattle.terms.specs.declared.reply.Reply.TheVariants.{Done, Lent, CheckedIn, Held, Moved, Lost, Owed, Shown, Refused}
use Rattle.model.specs.History.{History, next_loan, next_hold}
use Rattle.model.specs.Places.{Place, Shelf, HoldShelf, Transit, Loan, goal_of, limit_now}
use Rattle.model.specs.Loans.{due, first_due, renewed_due}
use Rattle.model.specs.Accounts.{fine_at, price_of}
use Rattle.model.specs.Sights.{Sight, sight, route_seen, kept_for_seen, owed_seen}
use Rattle.model.specs.Checks.{first_failing}
use Rattle.model.specs.Refusals.{checks_by}
use Rattle.model.specs.Pages.{page_by}
use Rattle.model.specs.Asking.{asked}

-- The place that routing gave, with the shelf limit if a hold becomes ready.
abbrev pub routed : History → Place → Routed
routed H (Shelf b) = ToShelf b
routed H (HoldShelf h) = ToHoldShelf h (goal_of H h) (unwrap_or (limit_now H h) 0)
routed H (Transit g h) = ToTransit g h
routed H _ = ToShelf 0

-- Where the copy on the hold shelf for h goes.
abbrev pub unshelved : History → Sight → ℕ → Routed
unshelved H s h = routed H (route_seen H s (unwrap_or (kept_for_seen H s h) 0) (goal_of H h))

-- The charges for a missing copy: fine and price if it was on loan, otherwise none.
abbrev pub missed : History → (ℕ → ℕ) → ℕ → Place → Reply
missed H graces c (Loan l) = Lost (fine_at H graces (Loan l)) (price_of H c)
missed H graces c _ = Done

-- The reply to a command that isn't refused, given the sight.
abbrev pub accepted_by : History → Sight → Command → Reply
accepted_by H s (CheckOut p c b) = Lent (next_loan H) (unwrap_or (first_due H p c b) 0)
accepted_by H s (CheckIn c b) = CheckedIn (fine_at H s.grace (s.place c)) (routed H (route_seen H s c b))
accepted_by H s (Renew l) = Lent l (unwrap_or (renewed_due H l (due H l)) 0)
accepted_by H s (PlaceHold p t b d) = Held (next_hold H)
accepted_by H s (Unshelve h) = Moved (unshelved H s h)
accepted_by H s (UnshelveCancelled h) = Moved (unshelved H s h)
accepted_by H s (Missing c) = missed H s.grace c (s.place c)
accepted_by H s (Pay p n) = Owed (owed_seen H s p - n)
accepted_by H s (Waive p n) = Owed (owed_seen H s p - n)
accepted_by H s (Charge p n b text) = Owed (owed_seen H s p + n)
accepted_by H s (PayAt p n b) = Owed (owed_seen H s p - n)
accepted_by H s (Page p) = Shown (page_by H s p)
accepted_by H s (Ask question) = Shown (asked H question)
accepted_by H s _ = Done

-- The reply to a command that isn't refused after a history.
abbrev pub accepted : History → Command → Reply
accepted H c = accepted_by H (sight H) c

-- The answer, given the sight: the refusal, or else the reply.
abbrev pub answer_by : History → Sight → Owner → Command → Reply
answer_by H s o c = elim (first_failing (checks_by H s o c)) [ Some refused ↦ Refused refused | None ↦ accepted_by H s c ]

-- The answer after a history.
abbrev pub answer : History → Owner → Command → Reply
answer H o c = answer_by H (sight H) o c
