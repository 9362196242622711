-- Repeated requests, singly and in lists, and copies files read again.
use Rattle.std.specs.Prelude.{◌≡◌, ℕ, Bool, true, false, ◌&&◌, not, List, [], ◌∷◌, ◌++◌, map, Option, Some, None, bytes_eq}
use Rattle.terms.specs.declared.command.Caller.TheVariants.{Desk as FromDesk}
use Rattle.terms.specs.declared.command.Command.{Command}
use Rattle.terms.specs.declared.command.Command.TheVariants.{Acquire}
use Rattle.terms.specs.declared.command.Request.{Request}
use Rattle.terms.specs.Texts.{request_text}
use Rattle.terms.specs.Callers.{owner_of}
use Rattle.model.specs.History.{History}
use Rattle.model.specs.Requests.{is_allowed, only_asks, Kept, kept_of, reply_to, after_one, after}

-- ---- lists

-- The text is the kept one.
abbrev pub is_kept_text : Option Kept → List ℕ → Bool
is_kept_text (Some kept) text = bytes_eq kept.text text
is_kept_text None text = false

-- The request repeats an accepted one: it changes something, and its text is kept under its owner's key.
abbrev pub repeats : History → Request → Bool
repeats H r = not (only_asks r.command) && is_kept_text (kept_of H (owner_of r.caller) r.key) (request_text r.command)

-- The requests without those that repeat one accepted earlier, in the history or in the list.
abbrev pub first_ones : History → List Request → List Request
first_ones H [] = []
first_ones H (r ∷ rs) = elim (repeats H r) [ true ↦ first_ones (after_one H r) rs | false ↦ r ∷ first_ones (after_one H r) rs ]

-- Leaving out the repeats gives the same history.
abbrev pub RepeatsLeaveNothing : Type 0
RepeatsLeaveNothing = (H : History) (rs : List Request) → after H (first_ones H rs) ≡ after H rs

-- A request that repeats an accepted one, and that its caller may send, gets the kept reply and changes
-- nothing.
abbrev pub RepeatsGetTheKeptReply : Type 0
RepeatsGetTheKeptReply = (H : History) (r : Request) → repeats H r ≡ true → is_allowed H r.caller r.command ≡ true
    → (x : Kept) × (kept_of H (owner_of r.caller) r.key ≡ Some x) × (reply_to H r ≡ x.reply) × (after_one H r ≡ H)

-- ---- copies files

-- A row of a copies file: a copy, its title and text, its kind, its home branch and its price in cents.
pub record CopiesRow : Type 0 where
  pub copy : ℕ
  pub title : ℕ
  pub text : List ℕ
  pub kind : ℕ
  pub home : ℕ
  pub price : ℕ

-- The command of a row.
abbrev pub row_command : CopiesRow → Command
row_command r = Acquire r.copy r.title r.kind r.home r.price r.text

-- A row is a request of the desk, with its own request text as key.
abbrev pub row_request : CopiesRow → Request
row_request r = record { caller = FromDesk; key = request_text (row_command r); command = row_command r }

-- The history after the rows, one at a time.
abbrev pub after_rows : History → List CopiesRow → History
after_rows H rows = after H (map row_request rows)

-- The beginning of a copies file followed by the whole file leaves the same history as the whole file once.
abbrev pub RowsActOnce : Type 0
RowsActOnce = (H : History) (beginning rest : List CopiesRow) → after_rows H (beginning ++ (beginning ++ rest)) ≡ after_rows H (beginning ++ rest)
