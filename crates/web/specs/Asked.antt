-- What a web request asks for.
use Rattle.std.specs.Prelude.{ℕ, if◌then◌else◌, List, Option, Some, None}
use Rattle.terms.specs.declared.command.Caller.TheVariants.{Desk, Patron}
use Rattle.terms.specs.declared.command.Command.{Command}
use Rattle.clerks.specs.Clerks.{clerk_of, may_send, key_given_by}
use Rattle.clerks.specs.declared.clerk.Clerk.{Clerk}
use Rattle.web.specs.declared.asked.Asked.{Asked}
use Rattle.web.specs.declared.asked.Asked.TheVariants.{Nothing, Page, Request}
use Rattle.web.specs.declared.request.WebRequest.{WebRequest}

-- The desk's request under this key, if there is one.
abbrev pub asked_under : Option (List ℕ) → Command → Asked
asked_under None command = Nothing
asked_under (Some key) command = Request (record { caller = Desk; key = key; command = command })

-- By the clerk whose key is shown, if it is one's, with the request's key that was given: the desk asks, for
-- what this clerk may send.
abbrev pub asked_by_clerk : Option Clerk → List ℕ → Command → Asked
asked_by_clerk None given command = Nothing
asked_by_clerk (Some clerk) given command =
    if may_send clerk.role command then asked_under (key_given_by clerk.name given) command else Nothing

-- By the route's patron, the key shown and the request's key, if any. On a patron's route the patron asks,
-- for a page or with a request. On the desk's route a clerk asks, whose key is shown.
abbrev pub asked_by : List Clerk → Option ℕ → Option (List ℕ) → Option (List ℕ) → Command → Asked
asked_by clerks patron None key command = Nothing
asked_by clerks (Some patron) (Some shown) None command = Page patron shown
asked_by clerks (Some patron) (Some shown) (Some key) command =
    Request (record { caller = Patron patron shown; key = key; command = command })
asked_by clerks None (Some shown) None command = Nothing
asked_by clerks None (Some shown) (Some key) command = asked_by_clerk (clerk_of shown clerks) key command

abbrev pub asked_of : List Clerk → WebRequest → Asked
asked_of clerks request =
    asked_by clerks request.patron request.shown request.key request.command
