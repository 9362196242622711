-- Who may open the desk, and under which key a request of theirs is kept.
use Rattle.std.specs.Prelude.{ℕ, List, [], ◌∷◌, Option, Some, None, Bool, true, false, if◌then◌else◌, bytes_eq}
use Rattle.terms.specs.Forms.{is_outside_key, clerk_key}
use Rattle.terms.specs.declared.command.Command.{Command}
use Rattle.terms.specs.declared.command.Command.TheVariants.{CheckOut, CheckIn, Renew, Page, Ask}
use Rattle.terms.specs.declared.question.Question.{Question}
use Rattle.terms.specs.declared.question.Question.TheVariants.{Copy, Borrower, FindBarcode, Today}
use Rattle.clerks.specs.declared.clerk.Role.{Role}
use Rattle.clerks.specs.declared.clerk.Role.TheVariants as role
use Rattle.clerks.specs.declared.clerk.Clerk.{Clerk}

-- What a self-service machine may ask.
abbrev pub is_asked_by_lending : Question → Bool
is_asked_by_lending (Copy copy) = true
is_asked_by_lending (Borrower patron) = true
is_asked_by_lending (FindBarcode barcode) = true
is_asked_by_lending Today = true
is_asked_by_lending _ = false

-- What it may send.
abbrev pub is_sent_by_lending : Command → Bool
is_sent_by_lending (CheckOut patron copy branch) = true
is_sent_by_lending (CheckIn copy branch) = true
is_sent_by_lending (Renew loan) = true
is_sent_by_lending (Page patron) = true
is_sent_by_lending (Ask question) = is_asked_by_lending question
is_sent_by_lending _ = false

-- What a clerk may send.
abbrev pub may_send : Role → Command → Bool
may_send role.Desk command = true
may_send role.Lending command = is_sent_by_lending command

-- The key under which a request is kept: with the clerk's name and a slash before the one that was given, or
-- that one alone for a clerk without a name. A clerk with a name gives a key from outside.
abbrev pub key_given_by : Option (List ℕ) → List ℕ → Option (List ℕ)
key_given_by None given = Some given
key_given_by (Some name) given = if is_outside_key given then Some (clerk_key name given) else None

-- The clerk without a name, whose key opens the desk for everybody.
abbrev pub sole_clerk : List ℕ → Clerk
sole_clerk key = record { name = None; role = role.Desk; key = key }

-- The first clerk with this key.
unfoldable pub clerk_of : List ℕ → List Clerk → Option Clerk
clerk_of shown [] = None
clerk_of shown (clerk ∷ clerks) = if bytes_eq shown clerk.key then Some clerk else clerk_of shown clerks
