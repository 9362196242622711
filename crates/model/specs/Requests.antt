-- Requests in sequence: callers, keys, and what each adds to the history.
use Rattle.std.specs.Prelude.{◌≡◌, ℕ, ◌==◌, Bool, true, false, ◌&&◌, not, IsTrue, IsFalse, List, [], ◌∷◌, Option, Some, None, is_some}
use Rattle.std.specs.Prelude.{is_none, option_map, unwrap_or, bytes_eq}
use Rattle.terms.specs.declared.command.Owner.{Owner}
use Rattle.terms.specs.declared.command.Owner.TheVariants.{Desk, Patron as Reader}
use Rattle.terms.specs.declared.command.Caller.{Caller}
use Rattle.terms.specs.declared.command.Caller.TheVariants.{Desk as FromDesk, Patron as FromPatron}
use Rattle.terms.specs.declared.command.Request.{Request}
use Rattle.terms.specs.declared.command.Command.{Command}
use Rattle.terms.specs.declared.command.Command.TheVariants.{Renew, PlaceHold, CancelHold, Page, Ask}
use Rattle.terms.specs.declared.refusal.Refusal.{Refusal}
use Rattle.terms.specs.declared.refusal.Refusal.TheVariants.{KeyUsed, NotAllowed}
use Rattle.terms.specs.declared.reply.Reply.{Reply}
use Rattle.terms.specs.declared.reply.Reply.TheVariants.{Refused}
use Rattle.terms.specs.Callers.{owner_of}
pub use Rattle.terms.specs.Pictures.{same_owner}
use Rattle.terms.specs.Texts.{request_text}
use Rattle.model.specs.History.{Event, History, patron_of}
use Rattle.model.specs.Refusals.{refusal}
use Rattle.model.specs.Answers.{accepted, answer}

-- ---- callers

-- Known callers: the desk, and a patron who shows the card key of an enrolled patron's number.
abbrev pub is_known : History → Caller → Bool
is_known H FromDesk = true
is_known H (FromPatron p card_key) = unwrap_or (option_map (λ r. bytes_eq r.card_key card_key) (patron_of H p)) false

-- A patron may send place-hold, at once or from a day on, and page for their own number, and renew and
-- cancel-hold.
abbrev pub patron_may : ℕ → Command → Bool
patron_may p (PlaceHold q title branch first_day) = q == p
patron_may p (Page q) = q == p
patron_may p (Renew loan) = true
patron_may p (CancelHold hold) = true
patron_may p _ = false

-- The desk may send every command.
abbrev pub may_send : Owner → Command → Bool
may_send Desk c = true
may_send (Reader p) c = patron_may p c

-- The caller is known and may send the command.
abbrev pub is_allowed : History → Caller → Command → Bool
is_allowed H caller c = is_known H caller && may_send (owner_of caller) c

-- ---- keys

-- A question of the desk.
abbrev pub is_question : Command → Bool
is_question (Ask question) = true
is_question _ = false

-- A page and a question change nothing.
abbrev pub only_asks : Command → Bool
only_asks (Page p) = true
only_asks (Ask question) = true
only_asks _ = false

-- What is kept of an accepted request.
pub record Kept : Type 0 where
  pub text : List ℕ
  pub reply : Reply

-- An accepted request keeps its text and its reply for its owner's key.
abbrev pub kept_after : Event → Reply → Owner → List ℕ → Option Kept → Option Kept
kept_after e reply o k before =
    elim (same_owner e.owner o && bytes_eq e.key k) [ true ↦ Some (record { text = request_text e.command; reply = reply }) | false ↦ before ]

-- The text and reply kept for the owner's key.
abbrev pub kept_of : History → Owner → List ℕ → Option Kept
kept_of [] o k = None
kept_of (e ∷ H) o k = kept_after e (accepted H e.command) o k (kept_of H o k)

-- ---- one request

-- A kept key gives the kept reply to the same text and refuses any other; a new key leads to the answer.
abbrev pub reply_by_key : History → Request → Option Kept → Reply
reply_by_key H r (Some kept) = elim (bytes_eq kept.text (request_text r.command)) [ true ↦ kept.reply | false ↦ Refused KeyUsed ]
reply_by_key H r None = answer H (owner_of r.caller) r.command

-- The reply to a request: the caller is checked first, then the key, then the command. Pages and questions
-- ignore the key.
abbrev pub reply_to : History → Request → Reply
reply_to H r = elim (is_allowed H r.caller r.command) [
  | false ↦ Refused NotAllowed
  | true ↦ elim (only_asks r.command) [ true ↦ answer H (owner_of r.caller) r.command | false ↦ reply_by_key H r (kept_of H (owner_of r.caller) r.key) ]
]

-- A request adds an event if its caller may send it, it changes something, its key is new and it isn't
-- refused.
abbrev pub adds : History → Request → Bool
adds H r = elim (is_allowed H r.caller r.command && (not (only_asks r.command) && is_none (kept_of H (owner_of r.caller) r.key)))
    [ true ↦ is_none (refusal H (owner_of r.caller) r.command) | false ↦ false ]

-- The event that an accepted request adds.
abbrev pub event_of : Request → Event
event_of r = record { owner = owner_of r.caller; key = r.key; command = r.command }

-- The history after one request.
abbrev pub after_one : History → Request → History
after_one H r = elim (adds H r) [ true ↦ event_of r ∷ H | false ↦ H ]

-- ---- many requests

-- The history after the requests, one at a time.
abbrev pub after : History → List Request → History
after H [] = H
after H (r ∷ rs) = after (after_one H r) rs

-- The replies to the requests, one at a time.
abbrev pub replies : History → List Request → List Reply
replies H [] = []
replies H (r ∷ rs) = reply_to H r ∷ replies (after_one H r) rs

-- ---- legal histories

-- The owner is the desk or an enrolled patron.
abbrev pub is_enrolled : History → Owner → Bool
is_enrolled H Desk = true
is_enrolled H (Reader p) = is_some (patron_of H p)

-- The event was accepted after the history before it: it changes something, its owner is enrolled and may
-- send the command, the command isn't refused, and nothing is kept for its key.
pub record IsAcceptedBy (e : Event) (H : History) (refused : Option Refusal) (kept : Option Kept) : Type 0 where
  pub changes : IsFalse (only_asks e.command)
  pub enrolled : IsTrue (is_enrolled H e.owner)
  pub allowed : IsTrue (may_send e.owner e.command)
  pub unrefused : refused ≡ None
  pub fresh : kept ≡ None

abbrev pub IsAccepted : Event → History → Type 0
IsAccepted e H = IsAcceptedBy e H (refusal H e.owner e.command) (kept_of H e.owner e.key)

-- Each event of a legal history was accepted after the history before it.
abbrev pub IsLegal : History → Type 0
IsLegal [] = Unit {0}
IsLegal (e ∷ H) = IsAccepted e H × IsLegal H
