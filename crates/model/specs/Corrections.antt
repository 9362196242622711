-- Laws of corrections: commands that set columns of a row that is there.
use Rattle.std.specs.Prelude.{◌≡◌, ℕ, ◌==◌, Bool, true, false, List, [], ◌∷◌, ◌++◌, Option, option_map, bytes_eq}
use Rattle.terms.specs.declared.command.Caller.TheVariants.{Patron as FromPatron}
use Rattle.terms.specs.declared.command.Command.{Command}
use Rattle.terms.specs.declared.command.Command.TheVariants.{SetCardKey, AmendPatron, AmendBranch, AmendTitle, AmendCopy, Rehome}
use Rattle.terms.specs.declared.refusal.Refusal.TheVariants.{NotAllowed}
use Rattle.terms.specs.declared.reply.Reply.TheVariants.{Refused}
use Rattle.terms.specs.declared.row.Condition.{Condition}
use Rattle.model.specs.History.{Event, History}
use Rattle.model.specs.Places.{place}
use Rattle.model.specs.Picture.{Picture, picture}
use Rattle.model.specs.Requests.{IsLegal, reply_to}

-- ---- what corrections leave

-- A command that sets columns of a row that is there.
abbrev pub is_correction : Command → Bool
is_correction (SetCardKey p card_key) = true
is_correction (AmendPatron p kind name) = true
is_correction (AmendBranch b pickup name) = true
is_correction (AmendTitle t text) = true
is_correction (AmendCopy c kind price) = true
is_correction (Rehome c b) = true
is_correction _ = false

-- A rehome may move its copy; the others move none.
abbrev pub may_move : Command → ℕ → Bool
may_move (Rehome n b) c = n == c
may_move _ c = false

-- What a patron owes, by the patron's row.
abbrev pub owed_shown : Picture → ℕ → Option ℕ
owed_shown P p = option_map (λ r. r.owed) (P.patrons p)

-- The condition of a copy, by its row.
abbrev pub condition_shown : Picture → ℕ → Option Condition
condition_shown P c = option_map (λ r. r.condition) (P.copies c)

-- The command leaves every loan with its due day, every hold, every line, what everyone owes, the condition of
-- every copy, and the place and transit of every copy that it may not move.
pub record LeavesTheRest (H : History) (e : Event) : Type 0 where
  pub loans : (l : ℕ) → (picture (e ∷ H)).loans l ≡ (picture H).loans l
  pub holds : (h : ℕ) → (picture (e ∷ H)).holds h ≡ (picture H).holds h
  pub lines : (n : ℕ) → (picture (e ∷ H)).lines n ≡ (picture H).lines n
  pub owed : (p : ℕ) → owed_shown (picture (e ∷ H)) p ≡ owed_shown (picture H) p
  pub conditions : (c : ℕ) → condition_shown (picture (e ∷ H)) c ≡ condition_shown (picture H) c
  pub places : (c : ℕ) → may_move e.command c ≡ false → place (e ∷ H) c ≡ place H c
  pub transits : (c : ℕ) → may_move e.command c ≡ false → (picture (e ∷ H)).transits c ≡ (picture H).transits c

-- A correction leaves all else as it was.
abbrev pub Amended : Type 0
Amended = (e : Event) (H : History) → is_correction e.command ≡ true → LeavesTheRest H e

-- ---- void card keys

-- The command sets the card key of the patron.
abbrev pub sets_card_key : Command → ℕ → Bool
sets_card_key (SetCardKey n card_key) p = n == p
sets_card_key _ p = false

-- No event of the history sets the card key of the patron.
abbrev pub KeepsCardKey : ℕ → History → Type 0
KeepsCardKey p [] = Unit {0}
KeepsCardKey p (e ∷ H) = (sets_card_key e.command p ≡ false) × KeepsCardKey p H

-- After an accepted card-key, and until the next one of the patron, every request with another card key of the
-- patron, a page too, is refused as not allowed, whatever key was the patron's before.
abbrev pub Void : Type 0
Void = (e : Event) (H later : History) (p : ℕ) (card_key other key : List ℕ) (command : Command) → IsLegal (e ∷ H)
    → e.command ≡ SetCardKey p card_key → KeepsCardKey p later → bytes_eq card_key other ≡ false
    → reply_to (later ++ e ∷ H) (record { caller = FromPatron p other; key = key; command = command }) ≡ Refused NotAllowed
